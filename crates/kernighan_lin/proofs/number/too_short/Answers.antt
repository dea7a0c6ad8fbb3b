-- `kernighan_lin::number::too_short` meets its contract: each way out rewrites with the tests that led there. Assumes nothing.
use Rattle.std.proofs.Common.{arith, lt-ltb, le-ltb}
use mathlib.Core.Logic.{⊎_elim}
use Rattle.kernighan_lin.specs.Entry.{short}
use Rattle.kernighan_lin.proofs.number.too_short.Goals as goal
use Rattle.kernighan_lin.proofs.number.too_short.Goals.{then-lengths-n, else-lengths-n}

pub returns-then-lengths-n-2 : goal.returns-then-lengths-n-2
unfolding short
returns-then-lengths-n-2 c =
    elim c.if-lengths-n.branch [
      | then-lengths-n w ↦ rw (w.t-4-is, lt-ltb _ _ w.if-lengths-n.true)
      | else-lengths-n w ↦
          ⊎_elim
          (λ l. let m = w.if-lengths-n.false in absurd (omega arith))
          (λ r. rw (w.t-4-is, le-ltb _ _ r.0, lt-ltb _ _ r.1))
          c.if-lengths-n-2.either
    ]

pub returns-else-lengths-n-2 : goal.returns-else-lengths-n-2
unfolding short
returns-else-lengths-n-2 c = rw (le-ltb _ _ c.if-lengths-n-2.false.0, le-ltb _ _ c.if-lengths-n-2.false.1)

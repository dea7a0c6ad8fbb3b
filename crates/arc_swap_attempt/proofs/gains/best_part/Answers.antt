-- `arc_swap_attempt::gains::best_part` meets its contract: a part is taken, left, or the own. Assumes nothing.
use Prim.Native.Nat.{ℕ}
use lib.ListN.{get_or}
use Rattle.arc_swap_attempt.proofs.Aims.{none_passed, pass-own, pass-take, pass-by}
use Rattle.arc_swap_attempt.proofs.gains.best_part.Goals as goal
use Rattle.arc_swap_attempt.proofs.gains.best_part.Goals.{then-t-own+then-best-sum, then-t-own+else-best-sum, else-t-own}

pub loop-t-init : goal.loop-t-init
loop-t-init c = none_passed (λ u. get_or c.args.sums.at u 0) c.args.own

pub loop-t-preserved : goal.loop-t-preserved
loop-t-preserved c =
    let e = c.loop-t.invariant in
    let sums : ℕ → ℕ = λ u. get_or c.args.sums.at u 0 in
    let own = c.args.own in
    let t = c.loop-t.t in
    elim c.if-t-own.branch [
      | then-t-own+then-best-sum w ↦ rw w.best-is (pass-take sums own t _ e w.if-t-own.true w.if-best-sum.true)
      | then-t-own+else-best-sum w ↦ rw w.best-is (pass-by sums own t _ e w.if-t-own.true w.if-best-sum.false)
      | else-t-own w ↦ rw w.best-is (pass-own sums own t _ e w.if-t-own.false)
    ]

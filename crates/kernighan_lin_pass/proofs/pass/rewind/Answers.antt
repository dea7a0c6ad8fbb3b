-- `kernighan_lin_pass::pass::rewind` meets its contract: one swap less is left to undo. Assumes nothing.
use mathlib.Core.Path.{◌≡◌, sym, ◌∙◌}
use Prim.Native.Nat.{suc, ◌-◌}
use native.Mathlib.Omega.{arith}
use Rattle.kernighan_lin_pass.proofs.Backs.{back_none, back-less}
use Rattle.kernighan_lin_pass.proofs.pass.rewind.Goals as goal

pub loop-k-preserved : goal.loop-k-preserved
loop-k-preserved c =
    let l = c.loop-k in
    let h = c.loop-k-test.true in
    let j : l.k - c.args.kept ≡ suc (l.k - 1 - c.args.kept) = omega arith in (
      omega arith,
      omega (arith, l.invariant.1),
      c.undo.auto.labels ∙ l.invariant.2,
      back-less c.args.swaps.now l.k (l.k - 1 - c.args.kept) (l.k - c.args.kept) l.labels _ j c.undo.ensures ∙ l.invariant.3,
    )

pub returns : goal.returns
returns c =
    let l = c.loop-k in
    let j : l.k - c.args.kept ≡ 0 = omega arith in
    sym (back_none c.args.swaps.now l.k (l.k - c.args.kept) l.labels j) ∙ l.invariant.3

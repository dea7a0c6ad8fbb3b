-- `kernighan_lin::refine` meets its contract: the passes have the fronts of the lent lists, which are cleared afterwards. Assumes nothing.
use mathlib.Core.Path.{◌∙◌}
use Prim.Native.Nat.{◌/◌}
use lib.ListN.{length}
use lib.Seq.{length-take-le}
use lib.IntN.{pos}
use Rattle.kernighan_lin.proofs.Entering.{filled-front}
use Rattle.kernighan_lin.proofs.refine.Goals as goal

pub returns : goal.returns
returns c =
    let r = c.make_passes-report in
    let a = c.requires in
    let x = c.args in
    let n = length x.labels.now in
    record {
      passed = r.ensures;
      gains = c.fill.ensures ∙ filled-front (pos 0) n r.new.gains x.gains.now a.in_gains (r.auto.gains ∙ length-take-le n x.gains.now a.in_gains);
      locks = c.fill-2.ensures ∙ filled-front 0 n r.new.locks x.locks.now a.in_locks (r.auto.locks ∙ length-take-le n x.locks.now a.in_locks);
      swaps = c.fill-3.ensures ∙ filled-front 0 (n / 2) r.new.swaps x.swaps.now a.in_swaps (r.auto.swaps ∙ length-take-le (n / 2) x.swaps.now a.in_swaps);
    }

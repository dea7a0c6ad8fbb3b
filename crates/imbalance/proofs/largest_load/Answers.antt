-- `imbalance::largest_load` meets its contract, by what its loop keeps. Assumes nothing.
use Rattle.std.proofs.Common.{◌≡◌, refl, ◌∙◌, arith}
use Rattle.imbalance.specs.Ceiling.{largest}
use Rattle.imbalance.proofs.Largest.{largest-next}
use Rattle.imbalance.proofs.largest_load.Goals as goal

pub loop-load-init : goal.loop-load-init
unfolding largest
loop-load-init c = refl

pub loop-load-preserved : goal.loop-load-preserved
loop-load-preserved c = c.max-most.ensures ∙ largest-next _ _ _ c.loop-load.invariant

pub returns : goal.returns
returns c =
    let e : c.loop-load.load-index ≡ 16 = omega arith in
    rw e at c.loop-load.invariant

-- `lists::fill` meets its contract, by what its loop keeps. Assumes nothing.
use mathlib.Core.Path.{refl}
use Rattle.lists.proofs.Fills.{written_none, written-more}
use Rattle.lists.proofs.fill.Goals as goal

pub loop-i-init : goal.loop-i-init
loop-i-init g c = written_none (λ i. c.args.x) _

pub loop-i-preserved : goal.loop-i-preserved
loop-i-preserved g c = written-more (λ i. c.args.x) _ _ _ _ refl c.loop-i.invariant

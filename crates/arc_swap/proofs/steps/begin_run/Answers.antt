-- `arc_swap::steps::begin_run` meets its contract: each call's answer is handed on by a law of `Entering`. Assumes nothing.
use Rattle.arc_swap.proofs.Entering.{ceilings-asked}
use Rattle.arc_swap.proofs.steps.begin_run.Goals as goal

pub ceilings_of-ceilings-requires : goal.ceilings_of-ceilings-requires
ceilings_of-ceilings-requires c = ceilings-asked _ _ c.requires _ _ c.total_weight-total.ensures c.parts_of-parts.ensures

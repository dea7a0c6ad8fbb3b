-- `arc_swap::refine` meets its contract: what the run begins with, the passes and the report are laws of `Entering`. Assumes nothing.
use Rattle.std.proofs.Common.{refl}
use Rattle.arc_swap.proofs.Entering.{passes-asked, ran}
use Rattle.arc_swap.proofs.refine.Goals as goal

pub make_passes-ended-requires : goal.make_passes-ended-requires
make_passes-ended-requires c = passes-asked _ _ c.requires _ _ c.begin_run-begun.ensures _ refl

pub returns : goal.returns
returns c =
    ran _ _ _ c.begin_run-begun.ensures _ _ _ _ _ c.make_passes-ended.ensures
    c.make_passes-ended.auto.stack c.fill.ensures _ c.run_report.ensures

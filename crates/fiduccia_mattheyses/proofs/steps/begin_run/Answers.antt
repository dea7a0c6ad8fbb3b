-- `fiduccia_mattheyses::steps::begin_run` meets its contract: each call's answer is handed on by a law of `Entering`. Assumes nothing.
use Rattle.fiduccia_mattheyses.proofs.Entering.{loadable}
use Rattle.fiduccia_mattheyses.proofs.steps.begin_run.Goals as goal

pub parts_load-loads-requires : goal.parts_load-loads-requires
parts_load-loads-requires c =
    loadable _ _ c.requires

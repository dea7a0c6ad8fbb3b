-- `fiduccia_mattheyses::answers::empty_report` meets its contract: sixteen zeros are no load in any part. Assumes nothing.
use mathlib.Core.Path.{refl}
use Rattle.lists.specs.Fill.{table}
use Rattle.fiduccia_mattheyses.proofs.answers.empty_report.Goals as goal

pub returns : goal.returns
unfolding table
returns c = rw c.from.ensures refl

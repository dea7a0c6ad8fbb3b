-- `arc_swap::answers::refused_report` meets its contract: sixteen zeros are no load in any part. Assumes nothing.
use mathlib.Core.Path.{refl}
use Rattle.lists.specs.Fill.{table}
use Rattle.arc_swap.proofs.answers.refused_report.Goals as goal

pub returns : goal.returns
unfolding table
returns c = rw c.from.ensures refl

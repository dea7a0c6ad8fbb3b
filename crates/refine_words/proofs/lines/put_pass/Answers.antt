-- `refine_words::lines::put_pass` meets its contract: the line of a pass. Assumes nothing.
use mathlib.Core.Path.{ap₂}
use native.Mathlib.Omega.{arith}
use Rattle.refine_words.specs.Line.{pass_line}
use Rattle.refine_words.proofs.Texts.{put_as}
use Rattle.refine_words.proofs.lines.put_pass.Goals as goal

pub returns : goal.returns
unfolding pass_line
returns c =
    put_as (ap₂ pass_line c.from.ensures c.from-2.ensures) (omega arith) c.put_line.ensures

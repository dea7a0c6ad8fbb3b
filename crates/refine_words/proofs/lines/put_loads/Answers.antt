-- `refine_words::lines::put_loads` meets its contract: the line of the loads. Assumes nothing.
use mathlib.Core.Path.{refl}
use native.Mathlib.Omega.{arith}
use Rattle.refine_words.specs.Line.{loads_line}
use Rattle.refine_words.proofs.Texts.{put_as}
use Rattle.refine_words.proofs.lines.put_loads.Goals as goal

pub returns : goal.returns
unfolding loads_line
returns c = put_as refl (omega arith) c.put_line.ensures

-- `refine_words::lines::put_counts` meets its contract: the line of the counts. Assumes nothing.
use mathlib.Core.Path.{refl}
use native.Mathlib.Omega.{arith}
use Rattle.refine_words.specs.Line.{counts_line}
use Rattle.refine_words.proofs.Texts.{put_as}
use Rattle.refine_words.proofs.lines.put_counts.Goals as goal

pub returns : goal.returns
unfolding counts_line
returns c = put_as refl (omega arith) c.put_line.ensures

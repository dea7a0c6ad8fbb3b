-- `refine_words::lines::put_labels` meets its contract: the line of the labels. Assumes nothing.
use mathlib.Core.Path.{refl}
use native.Mathlib.Omega.{arith}
use Rattle.refine_words.specs.Line.{labels_line}
use Rattle.refine_words.proofs.Texts.{put_as}
use Rattle.refine_words.proofs.lines.put_labels.Goals as goal

pub returns : goal.returns
unfolding labels_line
returns c = put_as refl (omega arith) c.put_label_line.ensures

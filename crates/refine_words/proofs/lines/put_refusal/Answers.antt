-- `refine_words::lines::put_refusal` meets its contract: the line of a refusal. Assumes nothing.
use mathlib.Core.Path.{refl}
use native.Mathlib.Omega.{arith}
use Rattle.refine_words.specs.Line.{refusal}
use Rattle.refine_words.proofs.Texts.{put_as}
use Rattle.refine_words.proofs.lines.put_refusal.Goals as goal

pub returns : goal.returns
unfolding refusal
returns c = put_as refl (omega arith) c.put_number_line.ensures

-- `refine_words::lines::put_cut` meets its contract: the line of the two cuts. Assumes nothing.
use native.Mathlib.Omega.{arith}
use Rattle.refine_words.proofs.Texts.{put_as, cut_is}
use Rattle.refine_words.proofs.lines.put_cut.Goals as goal

pub returns : goal.returns
returns c = put_as (cut_is _ _ _ _ (omega arith) (omega arith)) (omega arith) c.put_line.ensures

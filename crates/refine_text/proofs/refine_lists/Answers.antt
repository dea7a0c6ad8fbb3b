-- `refine_text::refine_lists` meets its contract: the run that the header asks for. Assumes nothing.
use native.Mathlib.Omega.{arith}
use Rattle.refine_words.proofs.Texts.{put_as}
use Rattle.refine_text.proofs.Shown.{runs-two, runs-many}
use Rattle.refine_text.proofs.refine_lists.Goals as goal

pub returns-then-read-eq2 : goal.returns-then-read-eq2
returns-then-read-eq2 c =
    put_as (runs-two _ _ _ _ _ _ c.if-read-eq2.true) (omega arith) c.refine_two.ensures

pub returns : goal.returns
returns c =
    put_as (runs-many _ _ _ _ _ _ c.if-read-eq2.false) (omega arith) c.refine_many.ensures

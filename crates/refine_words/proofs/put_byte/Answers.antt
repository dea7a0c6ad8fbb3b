-- `refine_words::put_byte` meets its contract. Assumes nothing.
use Rattle.refine_words.proofs.Texts.{put_one}
use Rattle.refine_words.proofs.put_byte.Goals as goal

pub returns : goal.returns
returns c = put_one _ _ _ c.requires

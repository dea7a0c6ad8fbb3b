-- `plan_blocks::words::put_word` meets its contract: the four stores are those of `put_word`. Assumes nothing.
use Rattle.plan_blocks.proofs.WordLaws.{stored}
use Rattle.plan_blocks.proofs.words.put_word.Goals as goal

pub returns : goal.returns
returns c = stored _ _ _ _ c.to_le_bytes.ensures

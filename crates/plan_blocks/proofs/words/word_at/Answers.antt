-- `plan_blocks::words::word_at` meets its contract. Assumes nothing.
use Rattle.plan_blocks.specs.Word.{word}
use Rattle.std.proofs.Common.{arith}
use Rattle.plan_blocks.proofs.words.word_at.Goals as goal

pub returns : goal.returns
unfolding word
returns c = omega (arith, c.from_le_bytes.ensures)

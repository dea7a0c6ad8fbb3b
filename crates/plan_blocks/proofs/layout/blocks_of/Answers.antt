-- `plan_blocks::layout::blocks_of` meets its contract: no sum wraps, since the counts are small. Assumes nothing.
use Rattle.plan_blocks.specs.Block.{blocks_for, blocks_of}
use Rattle.std.proofs.Common.{rules}
use Rattle.plan_blocks.proofs.layout.blocks_of.Goals as goal

pub overflow_add-result : goal.overflow_add-result
unfolding blocks_for
overflow_add-result c = search rules

pub overflow_add-result-2 : goal.overflow_add-result-2
unfolding blocks_for
overflow_add-result-2 c = search rules

pub returns : goal.returns
unfolding blocks_for blocks_of
returns c = search rules

-- `plan_blocks::layout::blocks_for` meets its contract: what a division leaves over takes one block more. Assumes nothing.
use Rattle.plan_blocks.specs.Block.{blocks_for}
use Rattle.std.proofs.Common.{arith}
use Rattle.plan_blocks.proofs.layout.blocks_for.Goals as goal

pub returns : goal.returns
unfolding blocks_for
returns c = omega (arith, c.div_ceil.ensures)

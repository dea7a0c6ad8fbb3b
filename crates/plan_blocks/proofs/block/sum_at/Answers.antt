-- `plan_blocks::block::sum_at` meets its contract: by its test. Assumes nothing.
use Rattle.plan_blocks.specs.Block.{sum_at}
use Rattle.std.proofs.Common.{ne_eqb}
use Rattle.plan_blocks.proofs.block.sum_at.Goals as goal

pub returns-then-file-eq0 : goal.returns-then-file-eq0
unfolding sum_at
returns-then-file-eq0 c = rw c.if-file-eq0.true

pub returns-else-file-eq0 : goal.returns-else-file-eq0
unfolding sum_at
returns-else-file-eq0 c = rw (ne_eqb _ 0 c.if-file-eq0.false)

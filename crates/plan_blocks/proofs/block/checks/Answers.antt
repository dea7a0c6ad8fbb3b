-- `plan_blocks::block::checks` meets its contract: the sum that was worked out is compared with the one that it must be. Assumes nothing.
use Rattle.plan_blocks.specs.Block.{checks}
use Rattle.std.proofs.Common.{eqb, ap₂}
use Rattle.plan_blocks.proofs.block.checks.Goals as goal

pub returns : goal.returns
unfolding checks
returns c =
    ap₂ eqb c.words_sum.ensures c.sum_at.ensures

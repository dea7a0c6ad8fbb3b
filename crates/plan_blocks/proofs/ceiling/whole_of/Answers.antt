-- `plan_blocks::ceiling::whole_of` meets its contract: with choice 1 the value is a u32. Assumes nothing.
use Rattle.plan_blocks.proofs.Bits.{fit-whole}
use Rattle.std.proofs.Common.{rules}
use Rattle.plan_blocks.proofs.ceiling.whole_of.Goals as goal

pub overflow_cast-result : goal.overflow_cast-result
overflow_cast-result c = let h = fit-whole _ _ c.requires c.if-choice-eq1.true in search rules

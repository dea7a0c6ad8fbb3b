-- `plan_blocks::ceiling::imbalance_of` meets its contract: with choice 2 the value is the bits of a legal e, which are no NaN's. Assumes nothing.
use Rattle.plan_blocks.proofs.Bits.{fit-bits, legal-bits}
use Rattle.plan_blocks.proofs.ceiling.imbalance_of.Goals as goal

pub float_from_bits-result : goal.float_from_bits-result
float_from_bits-result c = legal-bits c.args.value (fit-bits _ _ c.requires c.if-choice-eq2.true)

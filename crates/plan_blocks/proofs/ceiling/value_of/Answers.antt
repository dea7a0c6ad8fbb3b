-- `plan_blocks::ceiling::value_of` meets its contract: each way out rewrites with the choice that led there. Assumes nothing.
use Rattle.plan_blocks.specs.Plan.{value_of}
use Rattle.imbalance.proofs.Choices.{fit-legal}
use Rattle.imbalance.proofs.Patterns.{legal-number}
use Rattle.std.proofs.Common.{arith, ne_eqb}
use Rattle.plan_blocks.proofs.ceiling.value_of.Goals as goal

pub returns-in-1 : goal.returns-in-1
unfolding value_of
returns-in-1 c = rw c.in-1.is c.from.ensures

-- a legal e is no NaN
pub float_to_bits-result : goal.float_to_bits-result
float_to_bits-result c = legal-number c.args.asked.imbalance (fit-legal c.args.asked c.requires c.in-2.is)

pub returns-in-2 : goal.returns-in-2
unfolding value_of
returns-in-2 c = rw c.in-2.is

pub returns-in_default : goal.returns-in_default
unfolding value_of
returns-in_default c =
    let i = c.args.asked.choice in simp (ne_eqb i 1 (λ e. omega arith), ne_eqb i 2 (λ e. omega arith))

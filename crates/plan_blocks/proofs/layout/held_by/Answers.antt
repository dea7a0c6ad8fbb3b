-- `plan_blocks::layout::held_by` meets its contract: the lesser of two numbers is what the definition's test gives. Assumes nothing.
use Rattle.plan_blocks.specs.Block.{held_by}
use Rattle.std.proofs.Common.{arith}
use Rattle.std.proofs.lemmas.Bool.Decides.{nat_tests}
use Rattle.plan_blocks.proofs.layout.held_by.Goals as goal

pub returns : goal.returns
unfolding held_by
returns c = let e = c.min.ensures in grind (arith, nat_tests)

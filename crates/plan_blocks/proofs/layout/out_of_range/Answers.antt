-- `plan_blocks::layout::out_of_range` meets its contract: the code's tests are the definition's, one by one. Assumes nothing.
use Rattle.plan_blocks.specs.Plan.{out_of_range}
use Rattle.std.proofs.Common.{arith}
use Rattle.std.proofs.lemmas.Bool.Decides.{nat_tests}
use Rattle.plan_blocks.proofs.layout.out_of_range.Goals as goal

pub returns-then-k-lt2 : goal.returns-then-k-lt2
unfolding out_of_range
returns-then-k-lt2 c = grind (arith, nat_tests)

pub returns-else-k-lt2 : goal.returns-else-k-lt2
unfolding out_of_range
returns-else-k-lt2 c = grind (arith, nat_tests)

-- `plan_reader::reader::short_of` meets its contract: the code's tests are the definition's, one by one. Assumes nothing.
use Rattle.std.proofs.Common.{arith}
use Rattle.std.proofs.lemmas.Bool.Decides.{nat_tests}
use Rattle.plan_reader.specs.Read.{short}
use Rattle.plan_reader.proofs.reader.short_of.Goals as goal

pub returns-then-lengths-a : goal.returns-then-lengths-a
unfolding short
returns-then-lengths-a c = grind (arith, nat_tests)

pub returns-else-lengths-a : goal.returns-else-lengths-a
unfolding short
returns-else-lengths-a c = grind (arith, nat_tests)

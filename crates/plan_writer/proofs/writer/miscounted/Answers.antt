-- `plan_writer::writer::miscounted` meets its contract: the code's tests are the definition's, one by one. Assumes nothing.
use Rattle.std.proofs.Common.{arith}
use Rattle.std.proofs.lemmas.Bool.Decides.{nat_tests}
use Rattle.plan_writer.proofs.writer.miscounted.Goals as goal

pub returns-then-graph-labels : goal.returns-then-graph-labels
returns-then-graph-labels c = grind (arith, nat_tests)

pub returns-else-graph-labels : goal.returns-else-graph-labels
returns-else-graph-labels c = grind (arith, nat_tests)

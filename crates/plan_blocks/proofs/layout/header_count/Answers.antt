-- `plan_blocks::layout::header_count` meets its contract: the count is what the test's answer asks for. Assumes nothing.
use Rattle.std.proofs.Common.{arith}
use Rattle.plan_blocks.proofs.Places.{eleven-records, three-records}
use Rattle.plan_blocks.proofs.layout.header_count.Goals as goal

pub returns-then-choice-eq3 : goal.returns-then-choice-eq3
returns-then-choice-eq3 c = rw (eleven-records c.args.choice (omega arith))

pub returns-else-choice-eq3 : goal.returns-else-choice-eq3
returns-else-choice-eq3 c = rw (three-records c.args.choice c.if-choice-eq3.false)

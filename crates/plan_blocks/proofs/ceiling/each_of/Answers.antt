-- `plan_blocks::ceiling::each_of` meets its contract: the sixteen numbers that are given, or zeros. Assumes nothing.
use Rattle.std.proofs.Common.{arith, rules, eq-eqb, ne_eqb}
use Rattle.lists.specs.Fill.{table}
use Rattle.lists.proofs.Tables.{table_of}
use Rattle.plan_blocks.specs.Plan.{each_of}
use Rattle.plan_blocks.proofs.ceiling.each_of.Goals as goal

pub returns-then-asked-eq3 : goal.returns-then-asked-eq3
unfolding each_of
returns-then-asked-eq3 c = simp (eq-eqb _ _ c.if-asked-eq3.true) (table_of 16 0 _ (search (rules, arith)))

pub returns-else-asked-eq3 : goal.returns-else-asked-eq3
unfolding each_of table
returns-else-asked-eq3 c = simp (ne_eqb _ _ c.if-asked-eq3.false)

-- `imbalance::compute_parts_load` meets its contract: the loads are summed only where nothing refuses, which is all that they ask. Assumes nothing.
use Rattle.std.proofs.Common.{sym}
use Rattle.lists.specs.Fill.{table}
use Rattle.lists.proofs.Refusals.{not-done}
use Rattle.imbalance.specs.Number.{loads_answer}
use Rattle.imbalance.proofs.PartLoads.{loadable}
use Rattle.imbalance.proofs.compute_parts_load.Goals as goal

pub returns-in-Err : goal.returns-in-Err
unfolding loads_answer table
returns-in-Err c = rw (← c.in-Err.ensures, c.from.ensures, not-done c.in-Err.refusal)

pub parts_load-requires : goal.parts_load-requires
parts_load-requires c = let e = c.in_default.ensures in loadable _ _ (sym e)

pub returns : goal.returns
unfolding loads_answer
returns c = let e = c.in_default.ensures in rw (← e, c.parts_load.ensures)

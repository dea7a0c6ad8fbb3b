-- `plan_reader::reader::refused` meets its contract. Assumes nothing.
use lib.Ieee.{of_bits}
use Rattle.lists.specs.Fill.{table}
use Rattle.plan_reader.proofs.reader.refused.Goals as goal

pub returns : goal.returns
unfolding of_bits table
returns c = rw c.from.ensures

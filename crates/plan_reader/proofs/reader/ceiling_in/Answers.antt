-- `plan_reader::reader::ceiling_in` meets its contract: each field is the header's, or what the choice makes of the value. Assumes nothing.
use Rattle.plan_blocks.proofs.Headers.{value-fits}
use Rattle.plan_reader.proofs.reader.ceiling_in.Goals as goal

pub whole_of-requires : goal.whole_of-requires
whole_of-requires c = value-fits _ c.requires

pub imbalance_of-requires : goal.imbalance_of-requires
imbalance_of-requires c = value-fits _ c.requires

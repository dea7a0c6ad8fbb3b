-- `plan_reader::reader::read_header` meets its contract: each field is the header's. Assumes nothing.
use Rattle.plan_blocks.proofs.Headers.{numbers-in}
use Rattle.std.proofs.Common.{rules}
use Rattle.plan_reader.proofs.reader.read_header.Goals as goal

pub overflow_cast-result : goal.overflow_cast-result
overflow_cast-result c = let i = numbers-in _ c.requires in search rules

pub overflow_cast-result-2 : goal.overflow_cast-result-2
overflow_cast-result-2 c = let i = numbers-in _ c.requires in search rules

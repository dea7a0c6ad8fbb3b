-- `plan_writer::writer::write_header` meets its contract: the first three records, and with choice 3 the numbers of the parts after them. Assumes nothing.
use Rattle.plan_writer.proofs.WriteTurns.{three-put, eleven-put}
use Rattle.plan_writer.proofs.Puts.{length-puts}
use Rattle.plan_writer.specs.Write.{size_of}
use Rattle.plan_blocks.specs.Block.{blocks_of}
use Rattle.std.proofs.Common.{length, ap, ◌∙◌, arith, rules}
use Rattle.plan_writer.proofs.writer.write_header.Goals as goal

pub put_row-requires : goal.put_row-requires
unfolding size_of blocks_of
put_row-requires c = search rules

pub put_row-requires-then-header-eq3 : goal.put_row-requires-then-header-eq3
unfolding size_of blocks_of
put_row-requires-then-header-eq3 c =
    let places = c.requires.2 in
    let long = ap length c.put_row.ensures ∙ length-puts _ _ _ _ in
    search rules

pub returns-then-header-eq3 : goal.returns-then-header-eq3
returns-then-header-eq3 c =
    eleven-put _ _ _ _ _ c.low_word.ensures c.high_word.ensures c.put_row.ensures c.if-header-eq3.true (search (rules, arith)) _ c.put_row-then-header-eq3.ensures

pub returns-else-header-eq3 : goal.returns-else-header-eq3
returns-else-header-eq3 c =
    three-put _ _ _ _ _ c.low_word.ensures c.high_word.ensures c.put_row.ensures c.if-header-eq3.false

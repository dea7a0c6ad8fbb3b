-- `plan_reader::reader::bad_later` meets its contract: by its two tests. Assumes nothing.
use Rattle.plan_reader.proofs.ReadLaws.{blocks-differ, later-judged}
use Rattle.plan_blocks.specs.Block.{blocks_of}
use Rattle.plan_blocks.proofs.Headers.{numbers-in}
use Rattle.std.proofs.Common.{◌∙◌, arith, ne_eqb}
use Rattle.plan_reader.proofs.reader.bad_later.Goals as goal

pub blocks_of-requires : goal.blocks_of-requires
blocks_of-requires c =
    let i = numbers-in _ c.requires in
    omega arith

pub returns-then-bytes-blocks_of : goal.returns-then-bytes-blocks_of
returns-then-bytes-blocks_of c =
    rw (ne_eqb _ _ c.if-bytes-blocks_of.true) (blocks-differ _ _ _ _ c.blocks_of.ensures c.if-bytes-blocks_of.true)

pub kind_of-requires : goal.kind_of-requires
unfolding blocks_of
kind_of-requires c =
    let e = c.if-bytes-blocks_of.false in
    let f = c.blocks_of.ensures in
    omega arith

pub later_laid-requires : goal.later_laid-requires
later_laid-requires c =
    let i = numbers-in _ c.requires in
    (c.kind_of.ensures.1, omega arith, omega arith, c.if-bytes-blocks_of.false ∙ c.blocks_of.ensures)

pub returns-else-bytes-blocks_of : goal.returns-else-bytes-blocks_of
returns-else-bytes-blocks_of c =
    later-judged _ _ _ _ c.blocks_of.ensures _ _ c.if-bytes-blocks_of.false c.kind_of.ensures.0 c.later_laid.ensures

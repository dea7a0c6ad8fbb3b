-- `plan_reader::reader::later_block_laid` meets its contract: the kind and the count that are asked are those of the block's place. Assumes nothing.
use Rattle.std.proofs.Common.{ap₂, ◌∙◌, arith, ℕ}
use Rattle.plan_blocks.specs.Block.{laid_out}
use Rattle.plan_blocks.specs.Decode.{in_block}
use Rattle.plan_blocks.proofs.Places.{kind-most, count_most}
use Rattle.plan_reader.proofs.reader.later_block_laid.Goals as goal

pub laid_out-requires : goal.laid_out-requires
laid_out-requires c =
    let h = c.args.header in
    let p = c.requires in
    let k = kind-most h.n c.args.b in
    let e = c.from-kind.ensures in
    let f = c.kind_at.ensures in
    let m = count_most h.choice h.n h.a c.args.b in
    let g = c.count_at-count.ensures in
    (p.4, omega arith, omega arith, omega arith)

pub returns : goal.returns
returns c =
    c.laid_out.ensures
    ∙ ap₂ (λ (kind count : ℕ). laid_out c.args.file kind count (in_block c.args.bytes.now c.args.b)) (c.from-kind.ensures ∙ c.kind_at.ensures) c.count_at-count.ensures

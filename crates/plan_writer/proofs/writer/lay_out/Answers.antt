-- `plan_writer::writer::lay_out` meets its contract, by what its loop keeps. Assumes nothing.
use Rattle.plan_writer.proofs.Puts.{put-none, put-more}
use Rattle.plan_writer.proofs.WriteTurns.{first_word}
use Rattle.plan_writer.specs.Write.{size_of}
use Rattle.plan_blocks.specs.Word.{wrap}
use Rattle.plan_blocks.specs.Block.{blocks_of, blocks_for, kind_at, count_at}
use Rattle.plan_blocks.proofs.Places.{kind-most, count_most}
use Rattle.lists.proofs.Fills.{length-written}
use Rattle.std.proofs.Common.{◌≡◌, ℕ, ◌+◌, ◌*◌, ◌<◌, length, refl, ap, ◌∙◌, arith, rules}
use Rattle.plan_writer.proofs.writer.lay_out.Goals as goal

-- a block's kind, the file's and the count fit its first word
opening-fits : (choice n a b kind count : ℕ) → kind ≡ kind_at n b → count ≡ count_at choice n a b → kind + 256 + 65536 * count < wrap
opening-fits choice n a b kind count d e =
    let k = kind-most n b in
    let m = count_most choice n a b in
    omega arith

pub overflow_mul-blocks : goal.overflow_mul-blocks
unfolding blocks_of blocks_for
overflow_mul-blocks c =
    let e = c.blocks_of-blocks.ensures in
    omega arith

pub fill-requires : goal.fill-requires
unfolding size_of
fill-requires c =
    let places = c.requires.2 in
    let e = c.blocks_of-blocks.ensures in
    omega arith

pub loop-b-init : goal.loop-b-init
loop-b-init c = put-none _ _ _ _

pub overflow_mul-b : goal.overflow_mul-b
unfolding blocks_of blocks_for
overflow_mul-b c =
    let below = c.loop-b-test.true in
    let e = c.blocks_of-blocks.ensures in
    omega arith

pub overflow_mul-opening-in-loop-b : goal.overflow_mul-opening-in-loop-b
overflow_mul-opening-in-loop-b c =
    let h = c.args.header in
    let m = count_most h.choice h.n h.a c.loop-b.b in
    let e = c.count_at-count.ensures in
    omega arith

pub overflow_add-opening-in-loop-b : goal.overflow_add-opening-in-loop-b
overflow_add-opening-in-loop-b c =
    let h = c.args.header in
    omega (arith, opening-fits h.choice h.n h.a c.loop-b.b _ _ (c.from-kind.ensures ∙ c.kind_at.ensures) c.count_at-count.ensures)

pub overflow_cast-opening : goal.overflow_cast-opening
overflow_cast-opening c =
    let h = c.args.header in
    let fits = opening-fits h.choice h.n h.a c.loop-b.b _ _ (c.from-kind.ensures ∙ c.kind_at.ensures) c.count_at-count.ensures in
    search rules

pub put_word-requires : goal.put_word-requires
unfolding size_of
put_word-requires c =
    let places = c.requires.2 in
    let put = c.loop-b.invariant in
    let below = c.loop-b-test.true in
    let e = c.blocks_of-blocks.ensures in
    let long = put.long ∙ ap length c.fill.ensures ∙ length-written _ _ _ in
    omega arith

pub loop-b-preserved : goal.loop-b-preserved
loop-b-preserved c =
    put-more _ _ _ _ _ _ _ _ _ c.loop-b.invariant c.loop-b-test.true refl
    (first_word _ _ _ _ _ _ _ (c.from-kind.ensures ∙ c.kind_at.ensures) c.count_at-count.ensures refl)
    c.put_word.ensures

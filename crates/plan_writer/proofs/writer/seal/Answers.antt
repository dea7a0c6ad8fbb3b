-- `plan_writer::writer::seal` meets its contract, by what its loop keeps. Assumes nothing.
use Rattle.plan_writer.proofs.Puts.{put-none, put-more, put_all}
use Rattle.plan_writer.proofs.WriteTurns.{last_word, all-sealed}
use Rattle.plan_writer.specs.Write.{size_of}
use Rattle.plan_blocks.specs.Block.{blocks_of, blocks_for}
use Rattle.plan_blocks.proofs.Places.{position-fits}
use Rattle.std.proofs.Common.{ℕ, ◌*◌, refl, ap, arith, rules}
use Rattle.plan_writer.proofs.writer.seal.Goals as goal

pub loop-b-init : goal.loop-b-init
loop-b-init c = put-none _ _ _ _

pub overflow_mul-b : goal.overflow_mul-b
unfolding blocks_of blocks_for
overflow_mul-b c =
    let below = c.loop-b-test.true in
    let e = c.blocks_of-blocks.ensures in
    omega arith

pub words_sum-sum-requires : goal.words_sum-sum-requires
unfolding size_of
words_sum-sum-requires c =
    let put = c.loop-b.invariant in
    let below = c.loop-b-test.true in
    let places = c.requires.2 in
    let e = c.blocks_of-blocks.ensures in
    omega arith

pub overflow_mul-b-in-loop-b : goal.overflow_mul-b-in-loop-b
unfolding blocks_of blocks_for
overflow_mul-b-in-loop-b c =
    let below = c.loop-b-test.true in
    let e = c.blocks_of-blocks.ensures in
    omega arith

pub overflow_add-b : goal.overflow_add-b
unfolding blocks_of blocks_for
overflow_add-b c =
    let below = c.loop-b-test.true in
    let e = c.blocks_of-blocks.ensures in
    omega arith

pub overflow_cast-b : goal.overflow_cast-b
overflow_cast-b c =
    let below = c.loop-b-test.true in
    let e = c.blocks_of-blocks.ensures in
    let fits = position-fits c.args.header.n c.args.header.a c.loop-b.b c.requires.0 c.requires.1 (omega arith) in
    search rules

pub put_word-requires : goal.put_word-requires
unfolding size_of
put_word-requires c =
    let put = c.loop-b.invariant in
    let below = c.loop-b-test.true in
    let places = c.requires.2 in
    let e = c.blocks_of-blocks.ensures in
    omega arith

pub loop-b-preserved : goal.loop-b-preserved
loop-b-preserved c =
    let put = c.loop-b.invariant in
    let below = c.loop-b-test.true in
    let e = c.blocks_of-blocks.ensures in
    let fits = position-fits c.args.header.n c.args.header.a c.loop-b.b c.requires.0 c.requires.1 (omega arith) in
    put-more _ _ _ _ _ _ _ _ _ put c.loop-b-test.true refl
    (last_word _ _ _ _ _ _ put.put c.words_sum-sum.ensures (omega arith) (omega arith))
    c.put_word.ensures

pub overflow_mul-result : goal.overflow_mul-result
unfolding blocks_of blocks_for
overflow_mul-result c =
    let e = c.blocks_of-blocks.ensures in
    omega arith

pub returns : goal.returns
unfolding size_of
returns c =
    let put = c.loop-b.invariant in
    let most = put.within in
    let e = c.blocks_of-blocks.ensures in
    (ap (λ (b : ℕ). 512 * b) e, all-sealed _ _ _ _ _ e (put_all _ _ _ _ _ _ put (omega arith)))

-- `plan_writer::writer::write_vertices` meets its contract, by what its loop keeps. Assumes nothing.
use Rattle.plan_writer.proofs.Puts.{put-none, put_record}
use Rattle.plan_writer.proofs.WriteTurns.{weight-word, label-word}
use Rattle.plan_blocks.specs.Block.{blocks_for}
use Rattle.std.proofs.Common.{refl, arith}
use Rattle.plan_writer.proofs.writer.write_vertices.Goals as goal

pub loop-v-init : goal.loop-v-init
loop-v-init c = put-none _ _ _ _

pub put_word-requires : goal.put_word-requires
unfolding blocks_for
put_word-requires c =
    let put = c.loop-v.invariant in
    let at = c.place-at.ensures in
    let places = c.requires.1 in
    omega arith

pub put_word-requires-in-loop-v : goal.put_word-requires-in-loop-v
unfolding blocks_for
put_word-requires-in-loop-v c =
    let put = c.loop-v.invariant in
    let at = c.place-at.ensures in
    let places = c.requires.1 in
    omega arith

pub loop-v-preserved : goal.loop-v-preserved
loop-v-preserved c =
    put_record _ _ _ _ _ _ _ _ _ _ _ c.loop-v.invariant c.loop-v-test.true c.place-at.ensures (weight-word _ _ _ _ _ refl) (label-word _ _ _ _ _ c.loop-v-test.true refl) c.put_word.ensures c.put_word-in-loop-v.ensures

-- `plan_writer::writer::write_arcs` meets its contract, by what its loop keeps. Assumes nothing.
use Rattle.plan_writer.proofs.Puts.{put-none, put_record, put_all}
use Rattle.plan_writer.proofs.WriteTurns.{neighbour-word, arc-weight-word}
use Rattle.plan_writer.specs.Write.{plan_with, size_of}
use Rattle.plan_writer.specs.inner.Writing.{put_records}
use Rattle.plan_blocks.specs.Encode.{arc_word}
use Rattle.plan_blocks.specs.Block.{blocks_of, blocks_for}
use Rattle.topology.specs.Graph.{Graph}
use Rattle.std.proofs.Common.{◌≡◌, ℕ, ◌+◌, [], length, refl, ap, ap₂, ◌∙◌, arith, rules}
use Rattle.plan_writer.proofs.writer.write_arcs.Goals as goal

pub overflow_add-first : goal.overflow_add-first
unfolding blocks_for
overflow_add-first c = search rules

pub loop-e-init : goal.loop-e-init
loop-e-init c = put-none _ _ _ _

pub place-at-requires : goal.place-at-requires
unfolding blocks_for
place-at-requires c =
    let arcs : length c.graph.inside.neighbours.now ≡ length c.args.graph.now.neighbours = ap (λ (g : Graph). length g.neighbours) c.graph.view_is in
    let few = c.requires.0.few in
    let blocks = c.blocks_for-first.ensures in
    omega arith

pub put_word-requires : goal.put_word-requires
unfolding size_of blocks_of blocks_for
put_word-requires c =
    let arcs : length c.graph.inside.neighbours.now ≡ length c.args.graph.now.neighbours = ap (λ (g : Graph). length g.neighbours) c.graph.view_is in
    let blocks = c.blocks_for-first.ensures in
    let put = c.loop-e.invariant in
    let at = c.place-at.ensures in
    let places = c.requires.2 in
    omega arith

pub put_word-requires-in-loop-e : goal.put_word-requires-in-loop-e
unfolding size_of blocks_of blocks_for
put_word-requires-in-loop-e c =
    let arcs : length c.graph.inside.neighbours.now ≡ length c.args.graph.now.neighbours = ap (λ (g : Graph). length g.neighbours) c.graph.view_is in
    let blocks = c.blocks_for-first.ensures in
    let put = c.loop-e.invariant in
    let at = c.place-at.ensures in
    let places = c.requires.2 in
    omega arith

pub loop-e-preserved : goal.loop-e-preserved
loop-e-preserved c =
    put_record _ _ _ _ _ _ _ _ _ _ _ c.loop-e.invariant c.loop-e-test.true c.place-at.ensures (neighbour-word _ _ _ _ refl) (arc-weight-word _ _ _ _ refl) c.put_word.ensures c.put_word-in-loop-e.ensures

pub returns : goal.returns
returns c =
    let blocks = c.blocks_for-first.ensures in
    put_all _ _ _ _ _ _ c.loop-e.invariant (omega arith)
    ∙ ap₂ (λ (vertices : ℕ) (g : Graph). put_records (1 + vertices) (arc_word (plan_with [] [] [] g.neighbours g.weights 0 0 0 [])) (length g.neighbours) c.args.target.now) blocks c.graph.view_is

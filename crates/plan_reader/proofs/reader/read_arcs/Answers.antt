-- `plan_reader::reader::read_arcs` meets its contract, by what its loop keeps. Assumes nothing.
use Rattle.plan_reader.proofs.ReadLaws.{fine, arcs-none, arcs-more, arcs-done}
use Rattle.plan_blocks.specs.Block.{blocks_for}
use native.Mathlib.Omega.{arith}
use Prim.Native.Nat.{ℕ, ◌+◌}
use mathlib.Core.Path.{ap, ◌∙◌}
use Rattle.plan_reader.proofs.reader.read_arcs.Goals as goal

pub blocks_for-first-requires : goal.blocks_for-first-requires
blocks_for-first-requires c =
    let f = fine _ c.requires.0 in
    let n = c.requires.1 in
    omega arith

pub overflow_add-first : goal.overflow_add-first
unfolding blocks_for
overflow_add-first c =
    let f = fine _ c.requires.0 in
    let n = c.requires.1 in
    let g = c.blocks_for-first.ensures in
    omega arith

pub loop-e-init : goal.loop-e-init
loop-e-init c =
    let p = c.requires in
    arcs-none _ _ _ _ _ (fine _ p.0) p.2 (ap (λ (x : ℕ). 1 + x) (c.blocks_for-first.ensures ∙ ap blocks_for p.1)) p.3 p.4

pub place-at-requires : goal.place-at-requires
unfolding blocks_for
place-at-requires c =
    let h = c.loop-e.invariant in
    let f = h.file in
    omega arith

pub word_at-requires : goal.word_at-requires
unfolding blocks_for
word_at-requires c =
    let h = c.loop-e.invariant in
    let f = h.file in
    let e = c.place-at.ensures in
    omega arith

pub word_at-requires-in-loop-e : goal.word_at-requires-in-loop-e
unfolding blocks_for
word_at-requires-in-loop-e c =
    let h = c.loop-e.invariant in
    let f = h.file in
    let e = c.place-at.ensures in
    omega arith

pub loop-e-preserved : goal.loop-e-preserved
loop-e-preserved c =
    arcs-more _ _ _ _ _ _ _ _ c.loop-e.invariant c.loop-e-test.true _ _ _ c.place-at.ensures c.word_at.ensures c.word_at-in-loop-e.ensures

pub returns : goal.returns
returns c =
    let h = c.loop-e.invariant in
    arcs-done _ _ _ _ _ _ _ _ h (let w = h.within in omega arith)

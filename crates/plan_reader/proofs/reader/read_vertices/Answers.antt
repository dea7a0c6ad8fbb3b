-- `plan_reader::reader::read_vertices` meets its contract, by what its loop keeps. Assumes nothing.
use Rattle.plan_reader.proofs.ReadLaws.{fine, vertices-none, row-most, vertices-more, vertices-done}
use native.Mathlib.Omega.{arith}
use Rattle.plan_reader.proofs.reader.read_vertices.Goals as goal

pub loop-v-init : goal.loop-v-init
loop-v-init c =
    let p = c.requires in
    vertices-none _ _ _ _ _ (fine _ p.0) p.1 p.2 p.3 p.4

pub overflow_add-row : goal.overflow_add-row
overflow_add-row c =
    let m = row-most _ _ _ _ _ _ _ _ _ _ c.loop-v.invariant c.loop-v-test.true _ _ c.place-at.ensures c.word_at-x.ensures in
    omega arith

pub loop-v-preserved : goal.loop-v-preserved
loop-v-preserved c =
    vertices-more _ _ _ _ _ _ _ _ _ _ c.loop-v.invariant c.loop-v-test.true _ _ _ c.place-at.ensures c.word_at-x.ensures c.word_at.ensures

pub returns : goal.returns
returns c =
    let h = c.loop-v.invariant in
    vertices-done _ _ _ _ _ _ _ _ _ _ h (let w = h.within in omega arith)

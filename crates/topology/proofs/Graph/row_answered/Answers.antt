-- `Graph::row_answered` meets its contract, by what its loop keeps. Assumes nothing.
use Rattle.std.proofs.Common.{◌≡◌, sym, ◌∙◌}
use Rattle.lists.proofs.Alls.{from-none, from_more, from-fails}
use Rattle.topology.proofs.RowWalks.{enters, further, at-end}
use Rattle.topology.proofs.Graph.row_answered.Goals as goal

pub loop-e-init : goal.loop-e-init
loop-e-init c = (rw (c.first-e.ensures, c.past-e-end.ensures) (enters c.requires.1.row), from-none _ 0 _)

pub returns-then-not-has_arc : goal.returns-then-not-has_arc
returns-then-not-has_arc c =
    rw (← c.first-e.ensures, ← c.past-e-end.ensures)
    (sym (from-fails _ _ _ c.loop-e.e c.loop-e.invariant.0.from c.loop-e-test.true (sym (rw (c.neighbour.ensures, c.weight.ensures) at c.has_arc.ensures) ∙ c.if-not-has_arc.true)))

pub loop-e-preserved : goal.loop-e-preserved
loop-e-preserved c = (
  further c.loop-e.invariant.0 c.loop-e-test.true,
  from_more _ _ _ c.loop-e.invariant.0.from c.loop-e.invariant.1 (sym (rw (c.neighbour.ensures, c.weight.ensures) at c.has_arc.ensures) ∙ c.if-not-has_arc.false),
)

pub returns : goal.returns
returns c =
    let end : c.loop-e.e ≡ c.past-e-end.result = at-end c.loop-e.invariant.0 c.loop-e-test.false in
    rw (← c.first-e.ensures, ← c.past-e-end.ensures) (sym (rw end at c.loop-e.invariant.1))

-- `Graph::row_ok` meets its contract, by what its loop keeps. Assumes nothing.
use Rattle.std.proofs.Common.{◌≡◌, sym, ◌∙◌, arith}
use Rattle.lists.proofs.Alls.{from-none, from_more, from-fails}
use Rattle.topology.proofs.Starts.{start-rises, start-inside}
use Rattle.topology.proofs.Graph.row_ok.Goals as goal

pub loop-e-init : goal.loop-e-init
loop-e-init c = from-none _ 0 _

pub arc_ok-requires : goal.arc_ok-requires
arc_ok-requires c =
    let inside = start-inside c.args.n c.args.self.now c.requires.2 c.args.u c.requires.1 in
    (c.loop-e.auto.e, omega (arith, inside, c.past-e-end.ensures))

pub returns-then-not-arc_ok : goal.returns-then-not-arc_ok
returns-then-not-arc_ok c =
    rw (← c.first-lo.ensures, ← c.past-e-end.ensures)
    (sym (from-fails _ _ _ c.loop-e.e c.loop-e.auto.e c.loop-e-test.true (sym c.arc_ok.ensures ∙ c.if-not-arc_ok.true)))

pub loop-e-preserved : goal.loop-e-preserved
loop-e-preserved c = from_more _ _ _ c.loop-e.auto.e c.loop-e.invariant (sym c.arc_ok.ensures ∙ c.if-not-arc_ok.false)

pub returns : goal.returns
returns c =
    let up = start-rises c.args.n c.args.self.now c.requires.2 c.args.u c.requires.1 in
    let end : c.loop-e.e ≡ c.past-e-end.result = omega (arith, up, c.first-lo.ensures, c.past-e-end.ensures) in
    rw (← c.first-lo.ensures, ← c.past-e-end.ensures) (sym (rw end at c.loop-e.invariant))

-- `Graph::parts_around` meets its contract, by what its loop keeps. Assumes nothing.
use mathlib.Core.Path.{refl}
use native.Mathlib.Omega.{arith}
use borrow.Author.Rules.{rules}
use Rattle.topology.proofs.Arounds.{begins, few, turn-known, turn-new, ended}
use Rattle.topology.proofs.Graph.parts_around.Goals as goal
use Rattle.topology.proofs.Graph.parts_around.Goals.{then-met-t-eq0, else-met-t-eq0}

pub loop-e-init : goal.loop-e-init
loop-e-init c =
    search (begins, c.requires.0.row c.args.u c.requires.2, c.requires.1 c.args.u c.requires.2, rules)

pub overflow_add-count : goal.overflow_add-count
overflow_add-count c =
    omega (arith, few _ _ _ _ _ _ _ _ c.loop-e.invariant)

pub loop-e-preserved : goal.loop-e-preserved
loop-e-preserved c =
    let i = c.loop-e.invariant in
    let l = c.loop-e-test.true in
    let v = c.neighbour.ensures in
    let t = c.requires.1 c.neighbour.result (search rules) in
    elim c.if-met-t-eq0.branch [
      | then-met-t-eq0 w ↦ rw w.count-is (turn-new _ _ _ _ _ _ _ _ i l _ _ v refl t w.if-met-t-eq0.true)
      | else-met-t-eq0 w ↦ rw w.count-is (turn-known _ _ _ _ _ _ _ _ i l _ _ v refl t w.if-met-t-eq0.false)
    ]

pub returns : goal.returns
returns c = search (ended, few, rules)

-- `Graph::row_cut` meets its contract: the loop's sum is that of the arcs passed. Assumes nothing.
use Rattle.std.proofs.Common.{◌≡◌}
use Rattle.topology.proofs.RowWalks.{row_of, enters, further, none-summed, one-summed, at-end, summed-small}
use Rattle.topology.proofs.Graph.row_cut.Goals as goal

pub loop-e-init : goal.loop-e-init
loop-e-init c = (enters (row_of c.requires.0 _ _ _ c.requires.1 c.first-e.ensures c.past-e-end.ensures), none-summed _)

pub loop-e-preserved : goal.loop-e-preserved
loop-e-preserved c =
    let i = c.loop-e.invariant in
    let x = c.crossed-sum.ensures in (
      further i.0 c.loop-e-test.true,
      one-summed i.1 i.0.from _ _ c.neighbour-v.ensures (rw c.weight.ensures at x.0) x.1,
    )

pub returns : goal.returns
returns c =
    let i = c.loop-e.invariant in
    let end : c.loop-e.e ≡ c.past-e-end.result = at-end i.0 c.loop-e-test.false in
    (rw (end, c.first-e.ensures, c.past-e-end.ensures) at i.1.sum_is, summed-small i.1 i.0)

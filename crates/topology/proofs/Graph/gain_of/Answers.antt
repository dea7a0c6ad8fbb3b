-- `Graph::gain_of` meets its contract, by what its loop keeps. Assumes nothing.
use borrow.Author.Rules.{rules}
use Rattle.topology.specs.Graph.{into, gain}
use Rattle.topology.proofs.RowWalks.{further, one-summed}
use Rattle.topology.proofs.GainSums.{begins, answers}
use Rattle.topology.proofs.Graph.gain_of.Goals as goal

pub loop-e-init : goal.loop-e-init
loop-e-init c = search (begins, rules)

pub loop-e-preserved : goal.loop-e-preserved
loop-e-preserved c =
    let i = c.loop-e.invariant in
    let x = c.counted-there.ensures in
    let y = c.counted-here.ensures in
    record {
      walk = further i.walk c.loop-e-test.true;
      there-is = one-summed i.there-is i.walk.from _ _ c.neighbour-v.ensures (rw c.weight-w.ensures at x.0) x.1;
      here-is = one-summed i.here-is i.walk.from _ _ c.neighbour-v.ensures (rw c.weight-w.ensures at y.0) y.1;
    }

pub returns : goal.returns
unfolding gain into
returns c = search (answers, rules)

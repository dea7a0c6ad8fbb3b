-- What the loop of `Graph::parts_around` keeps: the bits and the count are those of the arcs passed.
use Rattle.topology.proofs.Arounds.{Met}
use Rattle.topology.proofs.Graph.parts_around.Given as goal

abbrev pub invariant-loop-e : goal.invariant-loop-e
invariant-loop-e l = Met l.self l.labels l.u l.initial.e l.e-end l.e l.met l.count

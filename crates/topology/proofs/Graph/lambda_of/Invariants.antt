-- What the loop of `Graph::lambda_of` keeps: the sum is that of the vertices passed.
use Rattle.topology.proofs.Arounds.{Counted}
use Rattle.topology.proofs.Graph.lambda_of.Given as goal

abbrev pub invariant-loop-u : goal.invariant-loop-u
invariant-loop-u l = Counted l.self l.weights l.labels l.u l.sum

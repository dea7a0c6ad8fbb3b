-- What the loop of `Graph::lowest_from` keeps: the place lies between a and b.
use Prim.Native.Nat.{◌-◌}
use Rattle.topology.proofs.Lookups.{Halving}
use Rattle.topology.proofs.Graph.lowest_from.Given as goal

abbrev pub invariant-loop-a : goal.invariant-loop-a
invariant-loop-a l = Halving l.self.neighbours l.lo l.hi l.u l.a l.b

abbrev pub decreases-loop-a : goal.decreases-loop-a
decreases-loop-a l = l.b - l.a

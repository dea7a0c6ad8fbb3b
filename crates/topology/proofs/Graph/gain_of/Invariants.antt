-- What the loop of `Graph::gain_of` keeps: the two sums are those of the arcs passed.
use lib.Dec.{eqb}
use lib.ListN.{length}
use Rattle.imbalance.specs.Load.{part}
use Rattle.topology.proofs.GainSums.{Sums}
use Rattle.topology.proofs.Graph.gain_of.Given as goal

abbrev pub invariant-loop-e : goal.invariant-loop-e
invariant-loop-e l =
    Sums (length l.labels) l.self (λ v. eqb (part l.labels v) l.target) (λ v. eqb (part l.labels v) l.own) l.initial.e l.e-end l.e l.there l.here

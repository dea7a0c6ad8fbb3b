-- What the loop of `kernighan_lin_pass::gain::fresh_gain` keeps: the two sums are those of the arcs passed.
use mathlib.Core.Bool.{not}
use lib.ListN.{length}
use lib.Dec.{eqb}
use Rattle.imbalance.specs.Load.{part}
use Rattle.topology.proofs.GainSums.{Sums}
use Rattle.kernighan_lin_pass.proofs.gain.fresh_gain.Given as goal

abbrev pub invariant-loop-e : goal.invariant-loop-e
invariant-loop-e l =
    Sums (length l.labels) l.graph (λ v. not (eqb (part l.labels v) l.own)) (λ v. eqb (part l.labels v) l.own) l.initial.e l.e-end l.e l.there l.here

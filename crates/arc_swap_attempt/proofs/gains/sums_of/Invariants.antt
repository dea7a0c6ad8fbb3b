-- What the loop of `arc_swap_attempt::gains::sums_of` keeps: the sums are those of the arcs passed.
use Rattle.arc_swap_attempt.proofs.Rowsums.{Passed}
use Rattle.arc_swap_attempt.proofs.gains.sums_of.Given as goal

abbrev pub invariant-loop-e : goal.invariant-loop-e
invariant-loop-e l = Passed l.graph l.labels l.initial.e l.e-end l.e l.at

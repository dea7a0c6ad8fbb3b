-- What the loop of `arc_swap_attempt::moves::push_neighbours` keeps: all pushes of the arcs passed fit.
use Rattle.arc_swap_attempt.proofs.Pushes.{Pushing}
use Rattle.arc_swap_attempt.proofs.moves.push_neighbours.Given as goal

abbrev pub invariant-loop-e : goal.invariant-loop-e
invariant-loop-e l = Pushing l.frame.graph.now l.frame.limits.parts l.labels l.v l.initial.stack l.used l.e-end l.e l.stack l.top

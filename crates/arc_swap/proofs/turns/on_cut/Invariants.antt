-- What the loop of `arc_swap::turns::on_cut` keeps: the arcs passed lead to the vertex's own part.
use Rattle.arc_swap.proofs.Taken.{Looking}
use Rattle.arc_swap.proofs.turns.on_cut.Given as goal

abbrev pub invariant-loop-e : goal.invariant-loop-e
invariant-loop-e l = Looking l.graph l.labels l.v l.initial.e l.e-end l.e

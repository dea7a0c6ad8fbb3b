-- What the loop of `kernighan_lin_pass::gain::update_neighbours` keeps: each vertex is told the arcs passed.
use Rattle.kernighan_lin_pass.proofs.Updates.{Telling}
use Rattle.kernighan_lin_pass.proofs.gain.update_neighbours.Given as goal

abbrev pub invariant-loop-e : goal.invariant-loop-e
invariant-loop-e l = Telling l.graph l.labels l.v l.initial.gains l.initial.e l.e-end l.e l.gains

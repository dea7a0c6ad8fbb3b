-- What the loop of `fiduccia_mattheyses_pass::walk_moves` keeps.
use Rattle.fiduccia_mattheyses_pass.specs.inner.Steps.{terms_in}
use Rattle.fiduccia_mattheyses_pass.proofs.Walking.{Walking}
use Rattle.fiduccia_mattheyses_pass.proofs.walk_moves.Given as goal

abbrev pub invariant-loop-made : goal.invariant-loop-made
invariant-loop-made l = Walking (terms_in l.frame) l.frame.limits.moves l.initial.labels l.initial.moves l.labels l.gains l.moves l.st l.made

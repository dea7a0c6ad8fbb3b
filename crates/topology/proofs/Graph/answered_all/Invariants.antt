-- What the loop of `Graph::answered_all` keeps: every row passed is answered.
use mathlib.Core.Path.{◌≡◌}
use mathlib.Core.Bool.{true}
use Rattle.lists.specs.All.{all}
use Rattle.topology.specs.Rule.{row_answered}
use Rattle.topology.proofs.Graph.answered_all.Given as goal

abbrev pub invariant-loop-u : goal.invariant-loop-u
invariant-loop-u l = all l.u (row_answered l.self) ≡ true

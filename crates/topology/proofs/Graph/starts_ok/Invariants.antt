-- What the loop of `Graph::starts_ok` keeps: no start passed is above the next.
use mathlib.Core.Path.{◌≡◌}
use mathlib.Core.Bool.{true}
use Rattle.lists.specs.All.{all}
use Rattle.topology.specs.Rule.{falls_not}
use Rattle.topology.proofs.Graph.starts_ok.Given as goal

abbrev pub invariant-loop-u : goal.invariant-loop-u
invariant-loop-u l = all l.u (falls_not l.self) ≡ true

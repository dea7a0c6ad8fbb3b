-- What the loop of `Graph::row_ok` keeps: every arc passed is in order.
use mathlib.Core.Path.{◌≡◌}
use mathlib.Core.Bool.{true}
use Rattle.lists.specs.All.{all_from}
use Rattle.topology.specs.Rule.{arc_ok}
use Rattle.topology.proofs.Graph.row_ok.Given as goal

abbrev pub invariant-loop-e : goal.invariant-loop-e
invariant-loop-e l = all_from l.lo l.e (arc_ok l.n l.self l.u l.lo) ≡ true

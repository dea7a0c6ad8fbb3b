-- What the loop of `Graph::all_rows_ok` keeps: every row passed is in order.
use mathlib.Core.Path.{◌≡◌}
use mathlib.Core.Bool.{true}
use Rattle.lists.specs.All.{all}
use Rattle.topology.specs.Rule.{row_ok}
use Rattle.topology.proofs.Graph.all_rows_ok.Given as goal

abbrev pub invariant-loop-u : goal.invariant-loop-u
invariant-loop-u l = all l.u (row_ok l.n l.self) ≡ true

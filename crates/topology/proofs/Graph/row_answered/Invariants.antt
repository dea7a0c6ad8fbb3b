-- What the loop of `Graph::row_answered` keeps: every arc passed has its equal opposite.
use mathlib.Core.Path.{◌≡◌}
use mathlib.Core.Bool.{Bool, true}
use Prim.Native.Nat.{ℕ, ◌-◌}
use lib.ListN.{length}
use Rattle.lists.specs.All.{all_from}
use Rattle.topology.specs.Graph.{Graph, neighbour, weight}
use Rattle.topology.specs.Rule.{has_arc}
use Rattle.topology.proofs.RowWalks.{Walk}
use Rattle.topology.proofs.Graph.row_answered.Given as goal

-- arc e of row u has its equal opposite
abbrev pub test : Graph → ℕ → ℕ → Bool
test g u e = has_arc g (neighbour g e) u (weight g e)

abbrev pub invariant-loop-e : goal.invariant-loop-e
invariant-loop-e l = Walk (length l.self.starts - 1) l.self.neighbours l.initial.e l.e-end l.e × (all_from l.initial.e l.e (test l.self l.u) ≡ true)

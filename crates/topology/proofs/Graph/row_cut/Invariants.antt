-- What the loop of `Graph::row_cut` keeps: the sum is that of the arcs passed.
use mathlib.Core.Bool.{Bool, not, ◌&&◌}
use mathlib.Core.List.{List}
use Prim.Native.Nat.{ℕ}
use lib.ListN.{length}
use lib.Dec.{ltb, eqb}
use Rattle.imbalance.specs.Load.{part}
use Rattle.topology.proofs.RowWalks.{Walk, Summed}
use Rattle.topology.proofs.Graph.row_cut.Given as goal

-- v is lower than u, and of another part
abbrev pub crosses : List ℕ → ℕ → ℕ → Bool
crosses labels u v = ltb v u && not (eqb (part labels v) (part labels u))

abbrev pub invariant-loop-e : goal.invariant-loop-e
invariant-loop-e l =
    Walk (length l.labels) l.self.neighbours l.initial.e l.e-end l.e × Summed l.self (crosses l.labels l.u) l.initial.e l.e l.sum

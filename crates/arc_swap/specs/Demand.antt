-- What a run never does, and where it ends: the sentences that hold of every run (document 01, "Arc-swap"; document 02, A4).
use Rattle.std.specs.Prelude.{◌≡◌, true, List, [], ◌∷◌, ℕ, max, ◌+◌, ◌≤◌, ◌<◌, length, get_or, set, ℤ, pos, ◌+ℤ◌}
use Rattle.std.proofs.Math.Option.{some}
use Rattle.imbalance.specs.Load.{load}
use Rattle.topology.specs.Cut.{cut}
use Rattle.arc_swap_attempt.specs.Trial.{aim}
use Rattle.arc_swap.specs.Run.{Terms}

-- the gains of the moves made, summed
unfoldable pub gained : List ℤ → ℤ
gained [] = pos 0
gained (g ∷ gs) = g +ℤ gained gs

module _ (s : Terms) where
  -- no part ends above the larger of its own ceiling and its starting load
  abbrev pub NoPartAbove : List ℕ → List ℕ → Type 0
  NoPartAbove p left = (t : ℕ) → load s.weights left t ≤ max (get_or s.ceilings t 0) (load s.weights p t)

  -- no single block whose best part, the highest of those of largest gain, has room below its own ceiling would lower the cut by going there
  abbrev pub NoSingleBlock : List ℕ → Type 0
  NoSingleBlock p =
      (v t : ℕ) → v < length p → s.movable v ≡ true → aim s.graph s.parts p v ≡ some t
      → load s.weights p t + get_or s.weights v 0 ≤ get_or s.ceilings t 0 → cut s.graph p ≤ cut s.graph (set p v t)

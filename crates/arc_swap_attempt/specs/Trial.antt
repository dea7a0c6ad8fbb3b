-- What comes of a popped vertex, and which of its neighbours are pushed when it has moved (document 01, "Arc-swap").
use Rattle.std.specs.Prelude.{Bool, false, not, cond, ◌&&◌, List, [], ◌∷◌, ℕ, zero, suc, ◌+◌, ◌-◌, get_or, ltb, eqb, pos}
use Rattle.std.proofs.Math.Option.{Option, none, some}
use Rattle.std.specs.Int.Signed.{le_z}
use Rattle.lists.specs.Best.{best}
use Rattle.imbalance.specs.Load.{part, load}
use Rattle.topology.specs.Graph.{Graph, first, neighbour, into, gain}
use Rattle.arc_swap_attempt.specs.declared.Trial.{Trial}
use Rattle.arc_swap_attempt.specs.declared.Trial.TheVariants.{NoGain, BadBalance, Goes}

-- of a graph and the k parts
module _ (g : Graph) (k : ℕ) where
  -- "A popped vertex takes the target of largest gain, the highest part among equals": of the parts other than its own
  unfoldable pub aim : List ℕ → ℕ → Option ℕ
  aim p v = best (λ t. not (eqb t (part p v))) (λ t u. le_z (gain g p v u) (gain g p v t)) k

  -- u's "largest gain is now positive"
  unfoldable pub has_gain : List ℕ → ℕ → Bool
  has_gain p u = elim (aim p u) [ none ↦ false | some t ↦ not (le_z (gain g p u t) (pos 0)) ]

  -- "its neighbours whose largest gain is now positive are pushed in row order, repeats kept": of the first n of v's row, the last of them on top; only vertices that may move
  unfoldable pub pushed : (ℕ → Bool) → List ℕ → ℕ → ℕ → List ℕ
  pushed movable p v zero = []
  pushed movable p v (suc n) =
      let u = neighbour g (first g v + n) in
      cond (movable u && has_gain p u) (u ∷ pushed movable p v n) (pushed movable p v n)

  -- "Gain 0 or less: no-gain count. Else target load above the ceiling: bad-balance count. Else it moves": the ceiling is "the target's own" (document 02, A4), and it goes to part t with its gain, which is then above 0
  unfoldable pub trial : List ℕ → List ℕ → List ℕ → ℕ → Trial
  trial weights ceilings p v =
      elim (aim p v) [
        | none ↦ NoGain
        | some t ↦
            cond (le_z (gain g p v t) (pos 0)) NoGain
            (cond (ltb (get_or ceilings t 0) (load weights p t + get_or weights v 0)) BadBalance
            (Goes t (into g p v t - into g p v (part p v))))
      ]

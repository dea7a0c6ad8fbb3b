-- A swap, and the cut after it. Assumes nothing.
use mathlib.Core.Path.{◌≡◌, refl, ap₂, ◌∙◌}
use mathlib.Core.Bool.{true}
use mathlib.Core.List.{List}
use Prim.Native.Nat.{ℕ, ◌*◌, ◌≤◌, ◌<◌}
use native.Mathlib.Omega.{arith}
use lib.ListN.{length, set, length-set}
use lib.IntN.{ℤ, pos, sub_ℕ, ◌-ℤ◌}
use lib.Signed.{mag, le_z}
use borrow.Author.Tests.{le-leb}
use Rattle.lists.proofs.Differences.{by_sign, mag-sub, pos-minus}
use Rattle.imbalance.specs.Limit.{most_vertices, most_weight}
use Rattle.topology.specs.Graph.{Graph, gain}
use Rattle.topology.specs.Cut.{cut, fall}
use Rattle.topology.proofs.Moves.{gain-is-the-fall-of-the-cut}
use Rattle.exchange.proofs.Exchanges.{length-exchange}
use Rattle.kernighan_lin_pass.specs.Pass.{Swap, swapped}
use Rattle.kernighan_lin_pass.specs.inner.Steps.{Fit, most_gain}
use Rattle.kernighan_lin_pass.proofs.Sizes.{cut_small}

pos-same : (a b : ℕ) → pos a ≡ pos b → a ≡ b
pos-same a b e = cc

-- a difference is at most what it is taken from
sub-le : (a b : ℕ) → le_z (sub_ℕ a b) (pos a) ≡ true
sub-le a b = by_sign (λ (z : ℤ). le_z z (pos a) ≡ true) a b (λ h. le-leb _ a (omega arith)) (λ h. refl)

-- v goes to part t
module _ (g : Graph) (p : List ℕ) (fit : Fit (length p) g) (v t : ℕ) (below : v < length p) where
  abbrev falls-by : gain g p v t ≡ fall g p (set p v t)
  falls-by = gain-is-the-fall-of-the-cut g p v t fit.symmetric below

  -- b is the cut and z the gain: what the subtraction asks, and its result
  module _ (b : ℕ) (z : ℤ) (now : b ≡ cut g p) (by : z ≡ gain g p v t) where
    pub fall-asks : (b ≤ most_gain) × (mag z ≤ most_gain) × (le_z z (pos b) ≡ true)
    fall-asks =
        let a : cut g p ≤ most_vertices * most_weight = cut_small (length p) g fit p refl in
        let c : cut g (set p v t) ≤ most_vertices * most_weight = cut_small (length p) g fit (set p v t) (length-set p v t) in
        rw (now, by, falls-by) (omega arith, omega (arith, mag-sub (cut g p) (cut g (set p v t))), sub-le (cut g p) (cut g (set p v t)))

    pub fall-gives : (r : ℕ) → pos r ≡ pos b -ℤ z → r ≡ cut g (set p v t)
    fall-gives r e =
        pos-same r (cut g (set p v t))
        (e ∙ ap₂ (λ (x : ℕ) (y : ℤ). pos x -ℤ y) now (by ∙ falls-by) ∙ pos-minus (cut g p) (cut g p) (cut g (set p v t)) (cut g (set p v t)) (omega arith))

-- swapping keeps the count of labels
pub length-swapped : (p : List ℕ) (t : Swap) → length (swapped p t) ≡ length p
unfolding swapped
length-swapped p t = length-exchange p t.one t.two

-- The stack as the first places of a lent list hold it. Assumes nothing.
use mathlib.Core.Path.{◌≡◌, refl, ap, ap₂}
use mathlib.Core.List.{List, [], ◌∷◌}
use Prim.Native.Nat.{ℕ, zero, suc, ◌+◌, ◌≤◌, ◌<◌}
use native.Mathlib.Omega.{arith}
use native.Mathlib.Numerals.{add-one}
use lib.ListN.{length, get_or, set}
use lib.Seq.{get_or-set_same, get_or-set_other}
use Rattle.arc_swap_attempt.specs.inner.Steps.{stacked}

pub length-stacked : (s : List ℕ) (n : ℕ) → length (stacked s n) ≡ n
unfolding stacked
length-stacked s zero = refl
length-stacked s (suc n) = ap suc (length-stacked s n)

-- a place above those held may change
pub stacked-above : (s : List ℕ) (i x n : ℕ) → n ≤ i → stacked (set s i x) n ≡ stacked s n
unfolding stacked
stacked-above s i x zero l = refl
stacked-above s i x (suc n) l = ap₂ (λ (y : ℕ) (ys : List ℕ). y ∷ ys) (get_or-set_other s i n x 0 (λ e. omega arith)) (stacked-above s i x n (omega arith))

-- one more on top
pub stacked-push : (s : List ℕ) (n x : ℕ) → n < length s → stacked (set s n x) (n + 1) ≡ x ∷ stacked s n
unfolding stacked
stacked-push s n x l = rw add-one (ap₂ (λ (y : ℕ) (ys : List ℕ). y ∷ ys) (get_or-set_same s n x 0 l) (stacked-above s n x n (omega arith)))

-- the top, and the rest
pub stacked-pop : (s : List ℕ) (n m : ℕ) → m ≡ n + 1 → stacked s m ≡ get_or s n 0 ∷ stacked s n
unfolding stacked
stacked-pop s n m e = rw (e, add-one)

pub stacked-none : (s : List ℕ) → stacked s 0 ≡ []
unfolding stacked
stacked-none s = refl

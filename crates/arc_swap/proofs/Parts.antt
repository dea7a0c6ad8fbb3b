-- The number of parts: the largest label + 1, at least 2. Assumes nothing.
use mathlib.Core.Path.{◌≡◌, refl}
use mathlib.Core.Bool.{Bool, true, false, cond}
use mathlib.Core.List.{List}
use Prim.Native.Nat.{ℕ, zero, suc, max, ◌+◌, ◌≤◌, ◌<◌}
use native.Mathlib.Omega.{arith}
use lib.ListN.{length}
use lib.Dec.{ltb, eqb}
use borrow.Author.Tests.{ltb-true, ltb-false, eqb-true, eqb-false}
use Rattle.imbalance.specs.Limit.{label_above}
use Rattle.imbalance.specs.Load.{part}
use Rattle.imbalance.specs.Ceiling.{largest}
use Rattle.imbalance.proofs.Limits.{label-most}
use Rattle.arc_swap.specs.Entry.{parts_of}

-- none is above the largest
largest-most : (n : ℕ) (f : ℕ → ℕ) (i : ℕ) → i < n → f i ≤ largest n f
unfolding largest
largest-most zero f i l = absurd (omega arith)
largest-most (suc n) f i l = go (ltb (largest n f) (f n)) refl (eqb i n) refl (largest-most n f i)
  where
    go : (b : Bool) → ltb (largest n f) (f n) ≡ b → (c : Bool) → eqb i n ≡ c → (i < n → f i ≤ largest n f) → f i ≤ cond b (f n) (largest n f)
    go true e true q ih = rw (eqb-true i n q) (omega arith)
    go true e false q ih = let ne = eqb-false i n q in let a = ltb-true (largest n f) (f n) e in omega (arith, ih (omega (arith, ne)))
    go false e true q ih = rw (eqb-true i n q) (ltb-false (largest n f) (f n) e)
    go false e false q ih = let ne = eqb-false i n q in ih (omega (arith, ne))

-- where none is above m, the largest is not
largest-within : (n : ℕ) (f : ℕ → ℕ) (m : ℕ) → ((i : ℕ) → i < n → f i ≤ m) → largest n f ≤ m
unfolding largest
largest-within zero f m h = omega arith
largest-within (suc n) f m h = go (ltb (largest n f) (f n)) (largest-within n f m (λ i l. h i (omega arith)))
  where
    go : (b : Bool) → largest n f ≤ m → cond b (f n) (largest n f) ≤ m
    go true k = h n (omega arith)
    go false k = k

module _ (labels : List ℕ) where
  abbrev most : ℕ
  most = largest (length labels) (λ v. part labels v)

  pub parts_are : (m : ℕ) → m ≡ most → max (m + 1) 2 ≡ parts_of labels
  unfolding parts_of
  parts_are m e = rw (← e) (go (ltb (m + 1) 2) refl)
    where
      go : (b : Bool) → ltb (m + 1) 2 ≡ b → max (m + 1) 2 ≡ cond b 2 (m + 1)
      go true t = let l = ltb-true (m + 1) 2 t in omega arith
      go false t = let l = ltb-false (m + 1) 2 t in omega arith

  parts-by : (b : Bool) → ltb (most + 1) 2 ≡ b → (most < cond b 2 (most + 1)) × (0 < cond b 2 (most + 1)) × (most ≤ 15 → cond b 2 (most + 1) ≤ 16)
  parts-by true e = let l = ltb-true (most + 1) 2 e in (omega arith, omega arith, λ h. omega arith)
  parts-by false e = (omega arith, omega arith, λ h. omega arith)

  -- every label is below k
  pub parts-named : (v : ℕ) → v < length labels → part labels v < parts_of labels
  unfolding parts_of
  parts-named v l =
      let a = largest-most (length labels) (λ v. part labels v) v l in
      let b = parts-by (ltb (most + 1) 2) refl in
      omega (arith, b.0)

  module _ (named : label_above 15 labels ≡ false) where
    pub label-low : most ≤ 15
    label-low = largest-within (length labels) (λ v. part labels v) 15 (label-most 15 labels named)

    pub parts-few : (0 < parts_of labels) × (parts_of labels ≤ 16)
    unfolding parts_of
    parts-few = let b = parts-by (ltb (most + 1) 2) refl in (b.1, b.2 label-low)

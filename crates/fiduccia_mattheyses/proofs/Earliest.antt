-- Of a start and a list, `earliest` is the one that stands first among those of least measure. Assumes nothing.
use mathlib.Core.Path.{◌≡◌, refl, sym, ap, ◌∙◌}
use mathlib.Core.Logic.{◌↔◌}
use mathlib.Core.Bool.{Bool, true, false, cond}
use mathlib.Core.List.{List, [], ◌∷◌}
use Prim.Native.Nat.{ℕ, zero, suc, ◌≤◌, ◌<◌}
use native.Mathlib.Omega.{arith}
use lib.Dec.{ltb}
use lib.ListN.{length, get_or}
use borrow.Author.Tests.{ltb-true, ltb-false}
use Rattle.fiduccia_mattheyses.specs.Demand.{earliest, EarliestOfLeast}

module _ (m : List ℕ → ℕ) where
  -- an element before all that does not come up to them
  put-before : (x y e : List ℕ) (ys : List (List ℕ)) → m y < m x → EarliestOfLeast m (y ∷ ys) e → EarliestOfLeast m (x ∷ y ∷ ys) e
  put-before x y e ys lt h = record { position = suc h.position; inside = let i = h.inside in omega arith; there = h.there; least = least; first = first }
    where
      top : m e < m x
      top = let l = h.least 0 (omega arith) in omega arith

      least : (j : ℕ) → j < length (x ∷ y ∷ ys) → m e ≤ m (get_or (x ∷ y ∷ ys) j [])
      least zero l = let t = top in omega arith
      least (suc j) l = h.least j (omega arith)

      first : (j : ℕ) → j < suc h.position → m e < m (get_or (x ∷ y ∷ ys) j [])
      first zero l = top
      first (suc j) l = h.first j (omega arith)

  -- an element after the first that does not come up to it
  put_second : (x y e : List ℕ) (ys : List (List ℕ)) → m x ≤ m y → EarliestOfLeast m (x ∷ ys) e → EarliestOfLeast m (x ∷ y ∷ ys) e
  put_second x y e ys le h = at h.position h.inside h.there h.first
    where
      least : (j : ℕ) → j < length (x ∷ y ∷ ys) → m e ≤ m (get_or (x ∷ y ∷ ys) j [])
      least zero l = h.least 0 (omega arith)
      least (suc zero) l = let a = h.least 0 (omega arith) in omega arith
      least (suc (suc j)) l = h.least (suc j) (omega arith)

      at : (i : ℕ) → i < length (x ∷ ys) → get_or (x ∷ ys) i [] ≡ e → ((j : ℕ) → j < i → m e < m (get_or (x ∷ ys) j [])) → EarliestOfLeast m (x ∷ y ∷ ys) e
      at zero i t f = record { position = 0; inside = omega arith; there = t; least = least; first = λ j l. absurd (omega arith) }
      at (suc i) l t f = record { position = suc (suc i); inside = omega arith; there = t; least = least; first = first }
        where
          first : (j : ℕ) → j < suc (suc i) → m e < m (get_or (x ∷ y ∷ ys) j [])
          first zero k = f 0 (omega arith)
          first (suc zero) k = let a = f 0 (omega arith) in omega arith
          first (suc (suc j)) k = f (suc j) (omega arith)

  earliest-found : (x : List ℕ) (ys : List (List ℕ)) → EarliestOfLeast m (x ∷ ys) (earliest m x ys)
  unfolding earliest
  earliest-found x [] = record { position = 0; inside = omega arith; there = refl; least = least; first = λ j l. absurd (omega arith) }
    where
      least : (j : ℕ) → j < 1 → m x ≤ m (get_or (x ∷ []) j [])
      least zero l = omega arith
      least (suc j) l = absurd (omega arith)
  earliest-found x (y ∷ ys) = go (ltb (m y) (m x)) refl (earliest-found y ys) (earliest-found x ys)
    where
      go : (t : Bool) → ltb (m y) (m x) ≡ t → EarliestOfLeast m (y ∷ ys) (earliest m y ys) → EarliestOfLeast m (x ∷ ys) (earliest m x ys) → EarliestOfLeast m (x ∷ y ∷ ys) (cond t (earliest m y ys) (earliest m x ys))
      go true e a b = put-before x y (earliest m y ys) ys (ltb-true (m y) (m x) e) a
      go false e a b = put_second x y (earliest m x ys) ys (ltb-false (m y) (m x) e) b

  -- no two are such
  one-earliest : (all : List (List ℕ)) (x y : List ℕ) → EarliestOfLeast m all x → EarliestOfLeast m all y → x ≡ y
  one-earliest all x y a b = sym a.there ∙ ap (λ (i : ℕ). get_or all i []) same ∙ b.there
    where
      not-before : (x y : List ℕ) (a : EarliestOfLeast m all x) (b : EarliestOfLeast m all y) → a.position < b.position → ⊥
      not-before x y a b l =
          let e : m (get_or all a.position []) ≡ m x = ap m a.there in
          let f : m (get_or all b.position []) ≡ m y = ap m b.there in
          let g = b.first a.position l in
          let h = a.least b.position b.inside in
          omega arith

      same : a.position ≡ b.position
      same = go (ltb a.position b.position) refl (ltb b.position a.position) refl
        where
          go : (s : Bool) → ltb a.position b.position ≡ s → (t : Bool) → ltb b.position a.position ≡ t → a.position ≡ b.position
          go true s t u = absurd (not-before x y a b (ltb-true a.position b.position s))
          go false s true u = absurd (not-before y x b a (ltb-true b.position a.position u))
          go false s false u = let i = ltb-false a.position b.position s in let j = ltb-false b.position a.position u in omega arith

  -- Labels are what `earliest` gives exactly if they are the earliest of least measure in the list of the start and what follows it.
  pub earliest-is : (p : List ℕ) (after : List (List ℕ)) (x : List ℕ) → (x ≡ earliest m p after) ↔ EarliestOfLeast m (p ∷ after) x
  earliest-is p after x = ((λ e. rw e (earliest-found p after)), λ h. one-earliest (p ∷ after) x (earliest m p after) h (earliest-found p after))

-- Laws of `best`. Assumes nothing.
use mathlib.Core.Path.{◌≡◌, refl, ap, ◌∙◌}
use mathlib.Core.Bool.{Bool, true, false, cond}
use mathlib.Core.Option.{Option, none, some}
use Prim.Native.Nat.{ℕ, zero, suc, ◌<◌}
use native.Mathlib.Omega.{arith}
use lib.Dec.{ltb, eqb}
use borrow.Author.Tests.{ltb-true, ltb-false, eqb-true, eqb-false}
use Rattle.lists.specs.Best.{best, offer}
use Rattle.lists.proofs.Orders.{clash}

module _ (a : ℕ → Bool) (b : ℕ → ℕ → Bool) where
  -- what is chosen is below n, and allowed
  pub best-in : (n v : ℕ) → best a b n ≡ some v → (v < n) × (a v ≡ true)
  unfolding best
  best-in zero v e = let o : ◌≡◌ {A = ℕ} 0 1 = cc in absurd (omega arith)
  best-in (suc n) v e = go (a n) refl (best a b n) refl e (best-in n)
    where
      pick : (t : Bool) (u : ℕ) → a n ≡ true → (u < n) × (a u ≡ true) → some (cond t n u) ≡ some v → (v < suc n) × (a v ≡ true)
      pick true u an ih e = let q : n ≡ v = cc in (omega arith, rw (← q) an)
      pick false u an ih e = let q : u ≡ v = cc in let l = ih.0 in (omega arith, rw (← q) ih.1)

      go : (t : Bool) → a n ≡ t → (o : Option ℕ) → best a b n ≡ o → offer t b n o ≡ some v → ((w : ℕ) → best a b n ≡ some w → (w < n) × (a w ≡ true)) → (v < suc n) × (a v ≡ true)
      go false t o q e ih = let r = ih v (q ∙ e) in let l = r.0 in (omega arith, r.1)
      go true t none q e ih = let r : n ≡ v = cc in (omega arith, rw (← r) t)
      go true t (some u) q e ih = pick (b n u) u t (ih u q) e

  -- v is chosen where it is allowed, better than each lower one that is, and none is better than it
  pub best-is : (n v : ℕ) → v < n → a v ≡ true → ((u : ℕ) → u < n → a u ≡ true → b u v ≡ false) → ((u : ℕ) → u < v → a u ≡ true → b v u ≡ true) → best a b n ≡ some v
  unfolding best
  best-is zero v l e top low = absurd (omega arith)
  best-is (suc n) v l e top low = go (eqb v n) refl (best-is n v)
    where
      last : v ≡ n → (o : Option ℕ) → best a b n ≡ o → offer (a n) b n o ≡ some v
      last q none r = rw (← q, e)
      last q (some u) r = let s = best-in n u r in let k = s.0 in rw (← q, e, low u (omega arith) s.1)

      stays : (t : Bool) → a n ≡ t → best a b n ≡ some v → offer t b n (best a b n) ≡ some v
      stays false r ih = ih
      stays true r ih = rw (ih, top n (omega arith) r)

      go : (t : Bool) → eqb v n ≡ t → (v < n → a v ≡ true → ((u : ℕ) → u < n → a u ≡ true → b u v ≡ false) → ((u : ℕ) → u < v → a u ≡ true → b v u ≡ true) → best a b n ≡ some v) → offer (a n) b n (best a b n) ≡ some v
      go true q ih = last (eqb-true v n q) (best a b n) refl
      go false q ih = let ne = eqb-false v n q in stays (a n) refl (ih (omega (arith, ne)) e (λ u k. top u (omega arith)) low)

  pub best_none : (n : ℕ) → ((u : ℕ) → u < n → a u ≡ false) → best a b n ≡ none
  unfolding best
  best_none zero h = refl
  best_none (suc n) h = rw (h n (omega arith)) (best_none n (λ u l. h u (omega arith)))

  -- none is chosen only where none is allowed
  pub none_allowed : (n : ℕ) → best a b n ≡ none → (u : ℕ) → u < n → a u ≡ false
  unfolding best
  none_allowed zero e u l = absurd (omega arith)
  none_allowed (suc n) e u l = go (a n) refl (best a b n) refl e (eqb u n) refl (none_allowed n)
    where
      go : (t : Bool) → a n ≡ t → (o : Option ℕ) → best a b n ≡ o → offer t b n o ≡ none → (s : Bool) → eqb u n ≡ s → (best a b n ≡ none → (w : ℕ) → w < n → a w ≡ false) → a u ≡ false
      go false t o q e true s ih = rw (eqb-true u n s) t
      go false t o q e false s ih = let ne = eqb-false u n s in ih (q ∙ e) u (omega (arith, ne))
      go true t none q e r s ih = let z : ◌≡◌ {A = ℕ} 0 1 = cc in absurd (omega arith)
      go true t (some w) q e r s ih = let z : ◌≡◌ {A = ℕ} 0 1 = cc in absurd (omega arith)

  -- w is better than each lower one that is allowed, and of the higher ones below m none that is allowed is better than it
  abbrev Order : ℕ → ℕ → Type 0
  Order m w = ((u : ℕ) → u < w → a u ≡ true → b w u ≡ true) × ((u : ℕ) → w < u → u < m → a u ≡ true → b u w ≡ false)

  module _ (chain : (x y z : ℕ) → b x y ≡ true → b y z ≡ true → b x z ≡ true) (between : (x y z : ℕ) → b x z ≡ true → b y z ≡ false → b x y ≡ true) where
    -- What is chosen by an order, strict or not, is better than each lower one that is allowed, and no higher one that is allowed is better than it.
    pub best-order : (n v : ℕ) → best a b n ≡ some v → ((u : ℕ) → u < v → a u ≡ true → b v u ≡ true) × ((u : ℕ) → v < u → u < n → a u ≡ true → b u v ≡ false)
    unfolding best
    best-order zero v e = let z : ◌≡◌ {A = ℕ} 0 1 = cc in absurd (omega arith)
    best-order (suc n) v e = go (a n) refl (best a b n) refl e (best-order n)
      where
        -- n does not take the place of w
        higher : (w : ℕ) → (a n ≡ true → b n w ≡ false) → Order n w → Order (suc n) w
        higher w h ih = (ih.0, λ u l k q. by (eqb u n) refl l k q)
          where
            by : {u : ℕ} (s : Bool) → eqb u n ≡ s → w < u → u < suc n → a u ≡ true → b u w ≡ false
            by {u} true s l k q = rw (eqb-true u n s) (h (rw (eqb-true u n s) at q))
            by {u} false s l k q = let ne = eqb-false u n s in ih.1 u l (omega (arith, ne)) q

        -- n takes it
        lower : (w : ℕ) → b n w ≡ true → Order n w → (u : ℕ) → u < n → a u ≡ true → b n u ≡ true
        lower w h ih u l q = by (ltb u w) refl (eqb u w) refl
          where
            by : (r : Bool) → ltb u w ≡ r → (s : Bool) → eqb u w ≡ s → b n u ≡ true
            by true r s t = chain n w u h (ih.0 u (ltb-true u w r) q)
            by false r true s = rw (eqb-true u w s) h
            by false r false s = let ge = ltb-false u w r in let ne = eqb-false u w s in between n u w h (ih.1 u (omega (arith, ne)) l q)

        pick : (w : ℕ) (t : Bool) → b n w ≡ t → Order n w → some (cond t n w) ≡ some v → Order (suc n) v
        pick w true h ih e = let q : n ≡ v = cc in rw (← q) (lower w h ih, λ u l k. absurd (omega arith))
        pick w false h ih e = let q : w ≡ v = cc in rw (← q) (higher w (λ q. h) ih)

        go : (t : Bool) → a n ≡ t → (o : Option ℕ) → best a b n ≡ o → offer t b n o ≡ some v → ((w : ℕ) → best a b n ≡ some w → Order n w) → Order (suc n) v
        go false t o q e ih = higher v (λ r. clash (a n) r t) (ih v (q ∙ e))
        go true t none q e ih =
            let r : n ≡ v = cc in
            rw (← r) ((λ u l k. clash (a u) k (none_allowed n q u l)), λ u l k. absurd (omega arith))
        go true t (some w) q e ih = pick w (b n w) refl (ih w q) e

-- two choices by tests that agree
module _ (a a' : ℕ → Bool) (b b' : ℕ → ℕ → Bool) where
  pub best-ext : (n : ℕ) → ((i : ℕ) → i < n → a i ≡ a' i) → ((i j : ℕ) → i < n → j < n → a i ≡ true → a j ≡ true → b i j ≡ b' i j) → best a b n ≡ best a' b' n
  unfolding best
  best-ext zero ha hb = refl
  best-ext (suc n) ha hb = go (a n) refl (best a b n) refl (best-ext n (λ i l. ha i (omega arith)) (λ i j l k. hb i j (omega arith) (omega arith)))
    where
      go : (t : Bool) → a n ≡ t → (o : Option ℕ) → best a b n ≡ o → o ≡ best a' b' n → offer t b n o ≡ offer (a' n) b' n (best a' b' n)
      go false t o q ih = rw (← ha n (omega arith), t, ← ih)
      go true t none q ih = rw (← ha n (omega arith), t, ← ih)
      go true t (some u) q ih =
          let r = best-in a b n u q in
          let l = r.0 in
          rw (← ha n (omega arith), t, ← ih) (ap (λ (x : Bool). some (cond x n u)) (hb n u (omega arith) (omega arith) t r.1))

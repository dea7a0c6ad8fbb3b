-- "Rewind to the earliest least cut among states after at least one swap": the labels that a pass leaves are those of a state after a swap, no such state has a lower cut, and each before it has a higher one. Assumes nothing.
use mathlib.Core.Path.{◌≡◌, refl, sym, ap, ◌∙◌}
use mathlib.Core.Bool.{Bool, true, false, cond, ◌||◌}
use mathlib.Core.List.{List}
use mathlib.Core.Logic.{◌⊎◌, inl, inr, ⊎_elim}
use mathlib.Core.Option.{Option, none, some}
use Prim.Native.Nat.{ℕ, zero, suc, ◌+◌, ◌≤◌, ◌<◌}
use native.Mathlib.Omega.{arith}
use lib.Dec.{ltb, eqb}
use borrow.Author.Tests.{eq-eqb, ne_eqb, ltb-true, ltb-false}
use Rattle.lists.proofs.Bools.{or-false}
use Rattle.topology.specs.Cut.{cut}
use Rattle.kernighan_lin_pass.specs.Pass.{Terms, Swap, State, swapped, start, pair, after, walk, most, pass}
use Rattle.kernighan_lin_pass.proofs.Walks.{walk_none, walk-stop, walk_step}
use Rattle.kernighan_lin.proofs.Ends.{made-grows}

start-made : (s : Terms) (p : List ℕ) → (start s p).made ≡ 0
unfolding start
start-made s p = refl

module _ (s : Terms) where
  abbrev C : List ℕ → ℕ
  C p = cut s.graph p

  -- one swap: the labels kept are no worse than those after it, and than those kept before it
  kept-now : (st : State) (t : Swap) → C (after s st t).kept ≤ C (after s st t).labels
  unfolding after
  kept-now st t = go (eqb st.made 0 || ltb (C (swapped st.labels t)) (C st.kept)) refl
    where
      go : (b : Bool) → eqb st.made 0 || ltb (C (swapped st.labels t)) (C st.kept) ≡ b → C (cond b (swapped st.labels t) st.kept) ≤ C (swapped st.labels t)
      go true e = omega arith
      go false e = ltb-false (C (swapped st.labels t)) (C st.kept) (or-false (eqb st.made 0) (ltb (C (swapped st.labels t)) (C st.kept)) e).1

  kept-before : (st : State) (t : Swap) → 0 < st.made → C (after s st t).kept ≤ C st.kept
  unfolding after
  kept-before st t l = rw (ne_eqb st.made 0 (λ q. omega arith)) (go (ltb (C (swapped st.labels t)) (C st.kept)) refl)
    where
      go : (b : Bool) → ltb (C (swapped st.labels t)) (C st.kept) ≡ b → C (cond b (swapped st.labels t) st.kept) ≤ C st.kept
      go true e = let k = ltb-true (C (swapped st.labels t)) (C st.kept) e in omega arith
      go false e = omega arith

  made_more : (st : State) (t : Swap) → (after s st t).made ≡ st.made + 1
  unfolding after
  made_more st t = refl

  labels-after : (st : State) (t : Swap) → (after s st t).labels ≡ swapped st.labels t
  unfolding after
  labels-after st t = refl

  -- what the swap keeps, where it is not the first and where it is
  kept-later : (st : State) (t : Swap) → 0 < st.made → (after s st t).kept ≡ cond (ltb (C (swapped st.labels t)) (C st.kept)) (after s st t).labels st.kept
  unfolding after
  kept-later st t l = rw (ne_eqb st.made 0 (λ q. omega arith))

  kept-first : (st : State) (t : Swap) → st.made ≡ 0 → (after s st t).kept ≡ (after s st t).labels
  unfolding after
  kept-first st t z = rw (eq-eqb st.made 0 z)

  -- once a swap is made, the cut of the labels kept never rises
  never-rises : (k : ℕ) (st : State) → 0 < st.made → C (walk s k st).kept ≤ C st.kept
  never-rises zero st l = rw (walk_none s 0 st refl) (omega arith)
  never-rises (suc k) st l = go (pair s st.labels st.gains st.locks) refl (never-rises k)
    where
      go : (o : Option Swap) → pair s st.labels st.gains st.locks ≡ o → ((u : State) → 0 < u.made → C (walk s k u).kept ≤ C u.kept) → C (walk s (suc k) st).kept ≤ C st.kept
      go none e ih = rw (walk-stop s (suc k) st e) (omega arith)
      go (some t) e ih =
          let a = ih (after s st t) (rw (made_more st t) (omega arith)) in
          let b = kept-before st t l in
          rw (walk_step s k st t e) (omega arith)

  -- of the states that the walk goes through, those after at least one more swap
  least-after : (k j : ℕ) (st : State) → j ≤ k → st.made < (walk s j st).made → C (walk s k st).kept ≤ C (walk s j st).labels
  least-after k zero st l m = let e = ap (λ (x : State). x.made) (walk_none s 0 st refl) in absurd (omega arith)
  least-after zero (suc j) st l m = absurd (omega arith)
  least-after (suc k) (suc j) st l m = go (pair s st.labels st.gains st.locks) refl (least-after k j)
    where
      go : (o : Option Swap) → pair s st.labels st.gains st.locks ≡ o → ((u : State) → j ≤ k → u.made < (walk s j u).made → C (walk s k u).kept ≤ C (walk s j u).labels) → C (walk s (suc k) st).kept ≤ C (walk s (suc j) st).labels
      go none e ih = let q = ap (λ (x : State). x.made) (walk-stop s (suc j) st e) in absurd (omega arith)
      go (some t) e ih =
          let u = after s st t in
          rw (walk_step s k st t e, walk_step s j st t e)
          (⊎_elim
          (λ (q : walk s j u ≡ u). let a = never-rises k u (rw (made_more st t) (omega arith)) in let b = kept-now st t in rw q (omega arith))
          (λ (q : u.made < (walk s j u).made). ih u (omega arith) q)
          (made-grows s j u))

  -- the state after j swaps, where that many are made
  pub rewinds-to-least : (w j : ℕ) (p : List ℕ) → j ≤ most s w p → 0 < (walk s j (start s p)).made → C (pass s w p) ≤ C (walk s j (start s p)).labels
  unfolding pass start
  rewinds-to-least w j p l m = least-after (most s w p) j (start s p) l m

  -- the state of those labels: the walk to it is of j swaps at most, and each state before it has a higher cut
  pub record First (k : ℕ) (st : State) : Type 0 where
    pub swaps : ℕ
    pub upto : swaps ≤ k
    pub made : st.made < (walk s swaps st).made
    pub is : (walk s k st).kept ≡ (walk s swaps st).labels
    pub earlier : (i : ℕ) → i < swaps → st.made < (walk s i st).made → C (walk s k st).kept < C (walk s i st).labels

  -- the step from u, the state after one swap, back to st; `same` is that of u itself
  module _ (k : ℕ) (st : State) (t : Swap) (e : pair s st.labels st.gains st.locks ≡ some t) where
    abbrev u : State
    u = after s st t

    kept_is : (walk s (suc k) st).kept ≡ (walk s k u).kept
    kept_is = ap (λ (x : State). x.kept) (walk_step s k st t e)

    -- the labels of u itself
    first-here : (walk s k u).kept ≡ u.labels → First (suc k) st
    first-here q =
        let one = walk_step s 0 st t e ∙ walk_none s 0 u refl in
        record {
          swaps = 1;
          upto = omega arith;
          made = rw (one, made_more st t) (omega arith);
          is = kept_is ∙ q ∙ sym (ap (λ (x : State). x.labels) one);
          earlier = λ i l m. (let z : i ≡ 0 = omega arith in let n = ap (λ (x : State). x.made) (walk_none s i st z) in absurd (omega arith));
        }

    -- or of a later state
    first-later : First k u → C (walk s k u).kept < C u.kept → First (suc k) st
    first-later f low =
        record {
          swaps = suc f.swaps;
          upto = let a = f.upto in omega arith;
          made = rw (walk_step s f.swaps st t e) (let a = f.made in let b = made_more st t in omega arith);
          is = kept_is ∙ f.is ∙ sym (ap (λ (x : State). x.labels) (walk_step s f.swaps st t e));
          earlier = λ i l m. before i l m;
        }
      where
        before : (i : ℕ) → i < suc f.swaps → st.made < (walk s i st).made → C (walk s (suc k) st).kept < C (walk s i st).labels
        before zero l m = let n = ap (λ (x : State). x.made) (walk_none s 0 st refl) in absurd (omega arith)
        before (suc i) l m =
            rw (walk_step s k st t e, walk_step s i st t e)
            (⊎_elim
            (λ (q : walk s i u ≡ u). let b = kept-now st t in rw q (omega arith))
            (λ (q : u.made < (walk s i u).made). f.earlier i (omega arith) q)
            (made-grows s i u))

  -- after a first swap: the labels kept then, or those of a later state whose cut is lower
  first_of : (k : ℕ) (st : State) → 0 < st.made → ((walk s k st).kept ≡ st.kept) ⊎ (First k st × (C (walk s k st).kept < C st.kept))
  first_of zero st l = inl (ap (λ (x : State). x.kept) (walk_none s 0 st refl))
  first_of (suc k) st l = go (pair s st.labels st.gains st.locks) refl (first_of k)
    where
      here : (t : Swap) → pair s st.labels st.gains st.locks ≡ some t → (b : Bool) → ltb (C (swapped st.labels t)) (C st.kept) ≡ b → (after s st t).kept ≡ cond b (after s st t).labels st.kept → (after s st t).labels ≡ swapped st.labels t → (walk s k (after s st t)).kept ≡ (after s st t).kept → ((walk s (suc k) st).kept ≡ st.kept) ⊎ (First (suc k) st × (C (walk s (suc k) st).kept < C st.kept))
      here t e true b c d q = inr (first-here k st t e (q ∙ c), rw (kept_is k st t e ∙ q ∙ c ∙ d) (ltb-true (C (swapped st.labels t)) (C st.kept) b))
      here t e false b c d q = inl (kept_is k st t e ∙ q ∙ c)

      go : (o : Option Swap) → pair s st.labels st.gains st.locks ≡ o → ((v : State) → 0 < v.made → ((walk s k v).kept ≡ v.kept) ⊎ (First k v × (C (walk s k v).kept < C v.kept))) → ((walk s (suc k) st).kept ≡ st.kept) ⊎ (First (suc k) st × (C (walk s (suc k) st).kept < C st.kept))
      go none e ih = inl (ap (λ (x : State). x.kept) (walk-stop s (suc k) st e))
      go (some t) e ih =
          ⊎_elim
          (λ (q : (walk s k (after s st t)).kept ≡ (after s st t).kept). here t e (ltb (C (swapped st.labels t)) (C st.kept)) refl (kept-later st t l) (labels-after st t) q)
          (λ (q : First k (after s st t) × (C (walk s k (after s st t)).kept < C (after s st t).kept)). (let b = kept-before st t l in let c = q.1 in inr (first-later k st t e q.0 q.1, rw (kept_is k st t e) (omega arith))))
          (ih (after s st t) (rw (made_more st t) (omega arith)))

  -- a pass that makes a swap
  pub rewinds-to-first : (w : ℕ) (p : List ℕ) → 0 < (walk s (most s w p) (start s p)).made → First (most s w p) (start s p)
  rewinds-to-first w p m = go (most s w p) m
    where
      step : (k : ℕ) (o : Option Swap) → pair s (start s p).labels (start s p).gains (start s p).locks ≡ o → 0 < (walk s (suc k) (start s p)).made → First (suc k) (start s p)
      step k none e m = let q = ap (λ (x : State). x.made) (walk-stop s (suc k) (start s p) e) in let z = start-made s p in absurd (omega arith)
      step k (some t) e m =
          ⊎_elim
          (λ (q : (walk s k (after s (start s p) t)).kept ≡ (after s (start s p) t).kept). first-here k (start s p) t e (q ∙ kept-first (start s p) t (start-made s p)))
          (λ (q : First k (after s (start s p) t) × (C (walk s k (after s (start s p) t)).kept < C (after s (start s p) t).kept)). first-later k (start s p) t e q.0 q.1)
          (first_of k (after s (start s p) t) (rw (made_more (start s p) t) (omega arith)))

      go : (k : ℕ) → 0 < (walk s k (start s p)).made → First k (start s p)
      go zero m = let q = ap (λ (x : State). x.made) (walk_none s 0 (start s p) refl) in let z = start-made s p in absurd (omega arith)
      go (suc k) m = step k (pair s (start s p).labels (start s p).gains (start s p).locks) refl m

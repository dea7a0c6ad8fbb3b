-- The pair that a swap takes, case by case. Assumes nothing.
use mathlib.Core.Path.{◌≡◌, refl, sym, ap, ◌∙◌}
use mathlib.Core.Bool.{Bool, true, false, cond, ◌&&◌}
use mathlib.Core.List.{List}
use mathlib.Core.Option.{Option, none, some}
use Prim.Native.Nat.{ℕ, ◌<◌}
use native.Mathlib.Omega.{arith}
use lib.ListN.{length, get_or}
use lib.Dec.{eqb}
use lib.IntN.{ℤ, pos, ◌+ℤ◌}
use lib.Signed.{le_z}
use Rattle.lists.proofs.Bests.{best-in}
use Rattle.imbalance.specs.Load.{part}
use Rattle.kernighan_lin_pass.specs.Gain.{added, updated, on_side, largest}
use Rattle.kernighan_lin_pass.specs.Pass.{Terms, Swap, pair}
use Rattle.std.specs.Prelude.{Option as Found, Some, None}
use Rattle.kernighan_lin_pass.specs.inner.Steps.{found, pair_at, Chose}
use Rattle.kernighan_lin_pass.specs.declared.choose.Pair.{Pair}

-- the vertex taken is one of the n, may move, is unlocked, and is on its side
pub largest-in : (movable : ℕ → Bool) (first : ℕ) (side : Bool) (p : List ℕ) (gains : List ℤ) (locks : List ℕ) (v : ℕ) → largest movable first side p gains locks ≡ some v → (v < length p) × (movable v && (eqb (get_or locks v 0) 0 && on_side side first (part p v)) ≡ true)
unfolding largest
largest-in movable first side p gains locks v e =
    best-in (λ u. movable u && (eqb (get_or locks u 0) 0 && on_side side first (part p u))) (λ i u. le_z (get_or gains u (pos 0)) (get_or gains i (pos 0))) (length p) v e

-- what the code found is the vertex chosen, and it found none where none is
pub found-none : (o : Option ℕ) (r : Found ℕ) → r ≡ found o → r ≡ None → o ≡ none
found-none none r e q = refl
found-none (some u) r e q = let o : ◌≡◌ {A = ℕ} 0 1 = clash (sym q ∙ e) in absurd (omega arith)
  where
    clash : ◌≡◌ {A = Found ℕ} None (Some u) → ◌≡◌ {A = ℕ} 0 1
    clash f = cc

pub found-some : (o : Option ℕ) (r : Found ℕ) (v : ℕ) → r ≡ found o → r ≡ Some v → o ≡ some v
found-some none r v e q = let o : ◌≡◌ {A = ℕ} 0 1 = clash (sym e ∙ q) in absurd (omega arith)
  where
    clash : ◌≡◌ {A = Found ℕ} None (Some v) → ◌≡◌ {A = ℕ} 0 1
    clash f = cc
found-some (some u) r v e q = ap some (same (sym e ∙ q))
  where
    same : Some u ≡ Some v → u ≡ v
    same f = cc

module _ (s : Terms) (p : List ℕ) (before : List ℤ) (locks : List ℕ) where
  abbrev gains : List ℤ
  gains = added s.graph p before

  abbrev choice-one : Option ℕ
  choice-one = largest s.movable s.first true p gains locks

  abbrev choice-two : ℕ → Option ℕ
  choice-two v = largest s.movable s.first false p (updated s.graph p v gains) locks

  abbrev stop : ℕ → ℕ → Bool
  stop v w = le_z (get_or gains v (pos 0) +ℤ get_or (updated s.graph p v gains) w (pos 0)) (pos 0) && eqb s.bad_limit 0

  -- "a part has no unlocked vertex left"
  pub pair-one-out : choice-one ≡ none → pair s p before locks ≡ none
  unfolding pair
  pair-one-out e = rw (e, pair)

  pub pair-two-out : (v : ℕ) → choice-one ≡ some v → choice-two v ≡ none → pair s p before locks ≡ none
  unfolding pair
  pair-two-out v e f = rw (e, pair) (rw f)

  pub pair-stops : (v w : ℕ) → choice-one ≡ some v → choice-two v ≡ some w → stop v w ≡ true → pair s p before locks ≡ none
  unfolding pair
  pair-stops v w e f t = rw (e, pair) (rw f (rw t))

  -- "If the two sum to 0 or less and the bad limit is 0, the pass ends": a sum of 0 is bad, so such a pair is not swapped.
  pub zero-is-bad : (v w : ℕ) → choice-one ≡ some v → choice-two v ≡ some w → get_or gains v (pos 0) +ℤ get_or (updated s.graph p v gains) w (pos 0) ≡ pos 0 → s.bad_limit ≡ 0 → pair s p before locks ≡ none
  zero-is-bad v w e f z b = pair-stops v w e f (rw (z, b) refl)

  pub pair_goes : (v w : ℕ) → choice-one ≡ some v → choice-two v ≡ some w → stop v w ≡ false → pair s p before locks ≡ some (record { one = v; two = w })
  unfolding pair
  pair_goes v w e f t = rw (e, pair) (rw f (rw t))

  -- what a pair is: two vertices, unlocked, of the first part and of another
  pub pair-in : (t : Swap) → pair s p before locks ≡ some t → (choice-one ≡ some t.one) × (choice-two t.one ≡ some t.two)
  unfolding pair
  pair-in t e = go choice-one refl e
    where
      last : (v w : ℕ) → choice-one ≡ some v → choice-two v ≡ some w → (b : Bool) → ◌≡◌ {A = Option Swap} (cond b none (some (record { one = v; two = w }))) (some t) → (choice-one ≡ some t.one) × (choice-two t.one ≡ some t.two)
      last v w q r true e = let o : ◌≡◌ {A = ℕ} 0 1 = cc in absurd (omega arith)
      last v w q r false e =
          let x : record { one = v; two = w } ≡ t = cc in
          let y : v ≡ t.one = ap (λ (z : Swap). z.one) x in
          let z : w ≡ t.two = ap (λ (z : Swap). z.two) x in
          (q ∙ ap some y, rw y at r ∙ ap some z)

      second : (v : ℕ) → choice-one ≡ some v → (o : Option ℕ) → choice-two v ≡ o → elim o [ none ↦ none | some w ↦ cond (stop v w) none (some (record { one = v; two = w })) ] ≡ some t → (choice-one ≡ some t.one) × (choice-two t.one ≡ some t.two)
      second v q none r e = let o : ◌≡◌ {A = ℕ} 0 1 = cc in absurd (omega arith)
      second v q (some w) r e = last v w q r (stop v w) e

      go : (o : Option ℕ) → choice-one ≡ o → elim o [ none ↦ none | some v ↦ elim (choice-two v) [ none ↦ none | some w ↦ cond (stop v w) none (some (record { one = v; two = w })) ] ] ≡ some t → (choice-one ≡ some t.one) × (choice-two t.one ≡ some t.two)
      go none q e = let o : ◌≡◌ {A = ℕ} 0 1 = cc in absurd (omega arith)
      go (some v) q e = second v q (choice-two v) refl e

  -- what the code answers
  pub chose_none : (r : Found Pair) (left : List ℤ) → pair s p before locks ≡ none → r ≡ None → Chose s p before locks r left
  chose_none r left e q =
      record {
        pair_is = q ∙ ap pair_at (sym e);
        gains_are = λ t f. (let o : ◌≡◌ {A = ℕ} 0 1 = clash t (sym e ∙ f) in absurd (omega arith));
      }
    where
      clash : (t : Swap) → ◌≡◌ {A = Option Swap} none (some t) → ◌≡◌ {A = ℕ} 0 1
      clash t f = cc

  pub chose-some : (v w : ℕ) (left : List ℤ) → pair s p before locks ≡ some (record { one = v; two = w }) → left ≡ updated s.graph p v gains → Chose s p before locks (Some (record { one = v; two = w })) left
  chose-some v w left e q =
      record {
        pair_is = ap pair_at (sym e);
        gains_are = λ t f. q ∙ ap (λ (x : ℕ). updated s.graph p x gains) (same t (sym e ∙ f));
      }
    where
      same : (t : Swap) → some (record { one = v; two = w }) ≡ some t → v ≡ t.one
      same t f = let x : record { one = v; two = w } ≡ t = cc in ap (λ (z : Swap). z.one) x

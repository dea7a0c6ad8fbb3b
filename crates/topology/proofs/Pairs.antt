-- The cut of a symmetric table of weights, before and after one vertex changes its part. Assumes nothing.
use mathlib.Core.Path.{◌≡◌, refl, sym, ap, ap₂, ◌∙◌}
use mathlib.Core.Bool.{Bool, true, false, not, ◌&&◌}
use Prim.Native.Nat.{ℕ, ◌+◌, ◌<◌}
use native.Mathlib.Omega.{arith}
use native.Mathlib.Nat.{add-zero, zero-add}
use lib.Dec.{ltb, eqb}
use borrow.Author.Tests.{lt-ltb, le-ltb, ltb-true, ltb-false, eqb-true, eqb-false}
use Rattle.lists.specs.Sum.{sum, weigh}
use Rattle.lists.proofs.Bools.{eqb-sym, weigh-zero, weigh-split}
use Rattle.lists.proofs.Totals.{sum-ext, sum-add, sum-apart}

-- n vertices, a table w, and labels p
module _ (n : ℕ) (w : ℕ → ℕ → ℕ) where
  -- the cut, each pair by its higher vertex
  abbrev pub pair_row : (ℕ → ℕ) → ℕ → ℕ → ℕ
  pair_row p u x = weigh (ltb x u && not (eqb (p x) (p u))) (w u x)

  abbrev pub pair_cut : (ℕ → ℕ) → ℕ
  pair_cut p = sum n (λ u. sum n (pair_row p u))

  module _ (p : ℕ → ℕ) (v : ℕ) (lv : v < n) (sy : (u : ℕ) → u < n → w u v ≡ w v u) (loop : w v v ≡ 0) where
    -- what does not speak of v
    abbrev rest : ℕ → ℕ
    rest u = sum n (λ x. weigh (not (eqb v x)) (pair_row p u x))

    abbrev all-pairs : ℕ
    all-pairs = sum n (λ u. weigh (not (eqb v u)) (rest u)) + sum n (w v)

    module _ (q : ℕ → ℕ) (same : (x : ℕ) → (v ≡ x → ⊥) → q x ≡ p x) where
      -- the pairs of v with a higher vertex u, and with a lower vertex x
      abbrev up : ℕ → ℕ
      up u = weigh (not (eqb v u)) (weigh (ltb v u && not (eqb (q v) (p u))) (w v u))

      abbrev down : ℕ → ℕ
      down x = pair_row q v x

      abbrev own : ℕ → ℕ
      own x = weigh (eqb (p x) (q v)) (w v x)

      row-off : (u : ℕ) → u < n → weigh (not (eqb v u)) (sum n (pair_row q u)) ≡ weigh (not (eqb v u)) (rest u) + up u
      row-off u lu = go (eqb v u) refl
        where
          off : (v ≡ u → ⊥) → (x : ℕ) → x < n → (b : Bool) → eqb v x ≡ b → weigh (not b) (pair_row q u x) ≡ weigh (not b) (pair_row p u x)
          off ne x lx true e = refl
          off ne x lx false e = rw (same x (eqb-false v x e), same u ne)

          go : (b : Bool) → eqb v u ≡ b → weigh (not b) (sum n (pair_row q u)) ≡ weigh (not b) (rest u) + weigh (not b) (weigh (ltb v u && not (eqb (q v) (p u))) (w v u))
          go true e = refl
          go false e =
              let ne = eqb-false v u e in
              sum-apart n v (pair_row q u) lv
              ∙ ap₂ ◌+◌ (sum-ext n _ _ (λ x lx. off ne x lx (eqb v x) refl)) (rw (sy u lu, same u ne))

      point : (x : ℕ) → x < n → (up x + down x) + own x ≡ w v x
      point x lx = go (eqb v x) refl
        where
          low : (b : Bool) → ltb v x ≡ b → (v ≡ x → ⊥) → (weigh (ltb v x && not (eqb (q v) (p x))) (w v x) + weigh (ltb x v && not (eqb (p x) (q v))) (w v x)) + weigh (eqb (p x) (q v)) (w v x) ≡ w v x
          low true e ne =
              let l = ltb-true v x e in
              rw (e, le-ltb x v (omega arith), eqb-sym (q v) (p x), add-zero) (weigh-split (eqb (p x) (q v)) (w v x))
          low false e ne =
              let l = ltb-false v x e in
              rw (e, lt-ltb x v (omega (arith, ne)), zero-add) (weigh-split (eqb (p x) (q v)) (w v x))

          go : (b : Bool) → eqb v x ≡ b → (up x + down x) + own x ≡ w v x
          go true e = rw (← eqb-true v x e) (simp (loop, weigh-zero))
          go false e = let ne = eqb-false v x e in rw (e, same x ne) (low (ltb v x) refl ne)

      pub pair-count : pair_cut q + sum n own ≡ all-pairs
      pair-count =
          let e1 : pair_cut q ≡ sum n (λ u. weigh (not (eqb v u)) (sum n (pair_row q u))) + sum n down = sum-apart n v (λ u. sum n (pair_row q u)) lv in
          let e2 : sum n (λ u. weigh (not (eqb v u)) (sum n (pair_row q u))) ≡ sum n (λ u. weigh (not (eqb v u)) (rest u)) + sum n up =
          sum-ext n _ _ row-off ∙ sum-add n (λ u. weigh (not (eqb v u)) (rest u)) up in
          let e3 : (sum n up + sum n down) + sum n own ≡ sum n (w v) =
          ap (λ (k : ℕ). k + sum n own) (sym (sum-add n up down)) ∙ sym (sum-add n (λ x. up x + down x) own) ∙ sum-ext n _ _ point in
          omega arith

-- one vertex moves: the cut falls by the weight into its new part, and rises by the weight into its old one
pub pair-move :
    (n : ℕ) (w : ℕ → ℕ → ℕ) (p q : ℕ → ℕ) (v : ℕ)
    → v < n
    → ((u : ℕ) → u < n → w u v ≡ w v u)
    → w v v ≡ 0
    → ((x : ℕ) → (v ≡ x → ⊥) → q x ≡ p x)
    → pair_cut n w q + sum n (λ x. weigh (eqb (p x) (q v)) (w v x)) ≡ pair_cut n w p + sum n (λ x. weigh (eqb (p x) (p v)) (w v x))
pair-move n w p q v lv sy loop same = pair-count n w p v lv sy loop q same ∙ sym (pair-count n w p v lv sy loop p (λ x ne. refl))

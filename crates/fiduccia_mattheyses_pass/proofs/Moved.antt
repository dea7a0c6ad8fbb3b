-- The vertices moved so far in a pass, as a list: none stands twice, and each is counted once. Assumes nothing.
use mathlib.Core.Path.{◌≡◌, refl, sym, ap, ◌∙◌}
use mathlib.Core.Bool.{Bool, true, false, not, ◌||◌}
use mathlib.Core.List.{List, [], ◌∷◌, ◌++◌}
use Prim.Native.Nat.{ℕ, zero, suc, ◌+◌, ◌≤◌, ◌<◌}
use native.Mathlib.Omega.{arith}
use lib.Dec.{ltb, eqb}
use lib.ListN.{length, get_or, length-append, get_or-append}
use lib.Seq.{get_or-append-add}
use borrow.Author.Tests.{eq-eqb, ne_eqb, eqb-false, ltb-true, ltb-false}
use Rattle.lists.specs.Sum.{sum, weigh}
use Rattle.lists.proofs.Bools.{or-true, or-none, or-false, weigh-most}
use Rattle.lists.proofs.Totals.{sum-change, sum-apart, sum_below}
use Rattle.fiduccia_mattheyses_choice.specs.Choice.{member}
use Rattle.fiduccia_mattheyses_pass.specs.inner.Standing.{Apart}

sum_ones : (m : ℕ) → sum m (λ x. 1) ≡ m
unfolding sum
sum_ones zero = refl
sum_ones (suc m) = rw (sum_ones m) (omega arith)

pub member-more : (x v : ℕ) (l : List ℕ) → member x (l ++ (v ∷ [])) ≡ member x l || eqb x v
unfolding member
member-more x v [] = or-none (eqb x v)
member-more x v (u ∷ l) = rw (member-more x v l) (or_assoc (eqb x u) (member x l) (eqb x v))
  where
    or_assoc : (a b c : Bool) → a || (b || c) ≡ a || b || c
    or_assoc true b c = refl
    or_assoc false b c = refl

pub member-at : (v : ℕ) (l : List ℕ) → member v l ≡ false → (i : ℕ) → i < length l → get_or l i 0 ≡ v → ⊥
unfolding member
member-at v [] m i h e = omega arith
member-at v (u ∷ l) m zero h e = eqb-false v u (or-false (eqb v u) (member v l) m).0 (sym e)
member-at v (u ∷ l) m (suc i) h e = member-at v l (or-false (eqb v u) (member v l) m).1 i (omega arith) e

-- no more vertices are moved than there are
pub count-few : (n : ℕ) (l : List ℕ) → sum n (λ x. weigh (member x l) 1) ≡ length l → length l ≤ n
count-few n l e =
    let a = sum_below n (λ x. weigh (member x l) 1) (λ x. 1) (λ x k. weigh-most (member x l) 1) in
    omega (arith, sum_ones n)

module _ (v : ℕ) (l : List ℕ) where
  last_is : get_or (l ++ (v ∷ [])) (length l) 0 ≡ v
  last_is = let e : length l + 0 ≡ length l = omega arith in rw e at (get_or-append-add l (v ∷ []) 0 0)

  pub at_more : (P : ℕ → Type 0) → ((i : ℕ) → i < length l → P (get_or l i 0)) → P v → (i : ℕ) → i < length (l ++ (v ∷ [])) → P (get_or (l ++ (v ∷ [])) i 0)
  at_more P h pv i k = go (ltb i (length l)) refl
    where
      go : (t : Bool) → ltb i (length l) ≡ t → P (get_or (l ++ (v ∷ [])) i 0)
      go true t = let b = ltb-true i (length l) t in rw (get_or-append l (v ∷ []) 0 i b) (h i b)
      go false t =
          let a = ltb-false i (length l) t in
          let b = length-append l (v ∷ []) in
          let e : i ≡ length l = omega arith in
          rw (e, last_is) pv

  pub apart_more : Apart l → member v l ≡ false → Apart (l ++ (v ∷ []))
  apart_more h m i j lt k e = go (ltb j (length l)) refl
    where
      go : (t : Bool) → ltb j (length l) ≡ t → ⊥
      go true t =
          let b = ltb-true j (length l) t in
          h i j lt b (sym (get_or-append l (v ∷ []) 0 i (omega arith)) ∙ e ∙ get_or-append l (v ∷ []) 0 j b)
      go false t =
          let a = ltb-false j (length l) t in
          let b = length-append l (v ∷ []) in
          let q : j ≡ length l = omega arith in
          member-at v l m i (omega arith) (sym (get_or-append l (v ∷ []) 0 i (omega arith)) ∙ e ∙ ap (λ (x : ℕ). get_or (l ++ (v ∷ [])) x 0) q ∙ last_is)

  -- one vertex more is counted once
  pub count-more : (n : ℕ) → v < n → member v l ≡ false → sum n (λ x. weigh (member x l) 1) ≡ length l → sum n (λ x. weigh (member x (l ++ (v ∷ []))) 1) ≡ length l + 1
  count-more n lv m e =
      let F : ℕ → ℕ = λ x. weigh (member x (l ++ (v ∷ []))) 1 in
      let H : ℕ → ℕ = λ x. weigh (member x l) 1 in
      let c = sum-change n v F H lv (λ x ne. rw (member-more x v l, ne_eqb x v (λ q. ne (sym q)), or-none (member x l))) in
      let a : F v ≡ 1 = rw (member-more v v l, eq-eqb v v refl, or-true (member v l)) in
      let b : H v ≡ 0 = rw m in
      omega arith

  -- a vertex not counted yet leaves room for it
  pub count-leaves-one : (n : ℕ) → v < n → member v l ≡ false → sum n (λ x. weigh (member x l) 1) ≡ length l → length l + 1 ≤ n
  count-leaves-one n lv m e =
      let F : ℕ → ℕ = λ x. weigh (member x l) 1 in
      let O : ℕ → ℕ = λ x. 1 in
      let a = sum-apart n v F lv in
      let b : F v ≡ 0 = rw m in
      let c = sum_below n (λ i. weigh (not (eqb v i)) (F i)) (λ i. weigh (not (eqb v i)) 1) (λ i k. less (eqb v i) (member i l)) in
      let d = sum-apart n v O lv in
      omega (arith, sum_ones n)
    where
      less : (t u : Bool) → weigh (not t) (weigh u 1) ≤ weigh (not t) 1
      less true u = omega arith
      less false true = omega arith
      less false false = omega arith

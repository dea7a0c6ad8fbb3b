-- What the row rules and the rule of equal opposites give: a symmetric graph without loops. Assumes nothing.
use mathlib.Core.Path.{◌≡◌, refl, sym, ap, ◌∙◌}
use mathlib.Core.Bool.{Bool, true, false, not, ◌&&◌, ◌||◌}
use Prim.Native.Nat.{ℕ, suc, ◌+◌, ◌-◌, ◌≤◌, ◌<◌}
use native.Mathlib.Omega.{arith}
use native.Mathlib.Nat.{le_antisymm}
use lib.Dec.{ltb, eqb}
use borrow.Author.Tests.{eq-eqb, ne_eqb, eqb-true, eqb-false, ltb-true, ltb-false, not-true, not-false}
use Rattle.lists.specs.Sum.{sum, between, weigh}
use Rattle.lists.specs.All.{all}
use Rattle.lists.proofs.Bools.{and_left, and_right}
use Rattle.lists.proofs.Totals.{sum-ext, sum-zero, sum-only, sum-holds}
use Rattle.lists.proofs.Alls.{all-at, all-witness}
use Rattle.topology.proofs.Rises.{chain, arc-rule, step-rises}
use Rattle.topology.proofs.EqualOpposites.{opposites}
use Rattle.topology.specs.Graph.{Graph, first, past, neighbour, weight, arcs, joins}
use Rattle.topology.specs.Rule.{arc_ok, rows_ok, answered, Symmetric}
use Rattle.topology.specs.Rules.{Arc}

-- a row of m arcs whose ends rise
module _ (m : ℕ) (to wt : ℕ → ℕ) (rises : (i : ℕ) → suc i < m → to i < to (suc i)) where
  apart : (i j : ℕ) → i < m → j < m → (i ≡ j → ⊥) → to i ≡ to j → ⊥
  apart i j li lj ne e = go (ltb i j) refl
    where
      go : (b : Bool) → ltb i j ≡ b → ⊥
      go true t = let a = chain 0 m to (λ k l r. rises k r) i j (omega arith) (ltb-true i j t) lj in omega arith
      go false t = let k = ltb-false i j t in let a = chain 0 m to (λ k l r. rises k r) j i (omega arith) (omega (arith, ne)) li in omega arith

  -- the one arc to x
  lone : (i x : ℕ) → i < m → to i ≡ x → sum m (λ k. weigh (eqb (to k) x) (wt k)) ≡ wt i
  lone i x li q = sum-ext m (λ k. weigh (eqb (to k) x) (wt k)) (λ k. weigh (eqb i k) (wt k)) (λ k lk. ap (λ (b : Bool). weigh b (wt k)) (same k lk (eqb i k) refl)) ∙ sum-only m i wt li
    where
      same : (k : ℕ) → k < m → (b : Bool) → eqb i k ≡ b → eqb (to k) x ≡ eqb i k
      same k lk true e = eq-eqb (to k) x (ap to (sym (eqb-true i k e)) ∙ q) ∙ sym e
      same k lk false e = ne_eqb (to k) x (λ r. apart i k li lk (eqb-false i k e) (q ∙ sym r)) ∙ sym e

nowhere : (m x : ℕ) (to wt : ℕ → ℕ) → ((k : ℕ) → k < m → eqb (to k) x ≡ false) → sum m (λ k. weigh (eqb (to k) x) (wt k)) ≡ 0
nowhere m x to wt h = sum-ext m (λ k. weigh (eqb (to k) x) (wt k)) (λ k. 0) (λ k l. rw (h k l)) ∙ sum-zero m

module _ (n : ℕ) (g : Graph) (rows : rows_ok n g ≡ true) where
  pub arc-below : (u e : ℕ) → u < n → first g u ≤ e → e < past g u → neighbour g e < n
  unfolding arc_ok
  arc-below u e lu a b =
      let t = neighbour g e in
      let r = eqb e (first g u) || ltb (neighbour g (e - 1)) t in
      ltb-true t n (and_left (ltb t n) (not (eqb t u)) (and_left (ltb t n && not (eqb t u)) r (arc-rule n g rows u lu e a b)))

  pub arc-other : (u e : ℕ) → u < n → first g u ≤ e → e < past g u → eqb (neighbour g e) u ≡ false
  unfolding arc_ok
  arc-other u e lu a b =
      let t = neighbour g e in
      let r = eqb e (first g u) || ltb (neighbour g (e - 1)) t in
      not-true (eqb t u) (and_right (ltb t n) (not (eqb t u)) (and_left (ltb t n && not (eqb t u)) r (arc-rule n g rows u lu e a b)))

  arc-rises : (u i : ℕ) → u < n → suc i < past g u - first g u → neighbour g (first g u + i) < neighbour g (first g u + suc i)
  arc-rises u i lu l =
      let k : first g u + suc i ≡ suc (first g u + i) = omega arith in
      rw k (step-rises n g rows u lu (first g u + i) (omega arith) (omega arith))

  no_loop : (u : ℕ) → u < n → joins g u u ≡ 0
  unfolding joins arcs between
  no_loop u lu = nowhere (past g u - first g u) u (λ k. neighbour g (first g u + k)) (λ k. weight g (first g u + k)) (λ k l. arc-other u (first g u + k) lu (omega arith) (omega arith))

  module _ (evens : answered n g ≡ true) where
    one_way : (u x : ℕ) → u < n → x < n → joins g u x ≤ joins g x u
    unfolding joins arcs between
    one_way u x lu lx = go (all m (λ k. not (eqb (to k) x))) refl
      where
        m : ℕ
        m = past g u - first g u

        to : ℕ → ℕ
        to k = neighbour g (first g u + k)

        wt : ℕ → ℕ
        wt k = weight g (first g u + k)

        m' : ℕ
        m' = past g x - first g x

        to' : ℕ → ℕ
        to' k = neighbour g (first g x + k)

        wt' : ℕ → ℕ
        wt' k = weight g (first g x + k)

        found : (i : ℕ) → i < m → to i ≡ x → sum m (λ k. weigh (eqb (to k) x) (wt k)) ≤ sum m' (λ k. weigh (eqb (to' k) u) (wt' k))
        found i li q =
            let o : Arc g x u (wt i) = rw q at ((opposites n g).0 evens u (first g u + i) lu (omega arith, omega arith)) in
            let a = lone m to wt (λ k l. arc-rises u k lu l) i x li q in
            let from = o.1.0 in
            let upto = o.1.1 in
            let j = o.0 - first g x in
            let at : first g x + j ≡ o.0 = omega arith in
            let b = rw (at, eq-eqb (neighbour g o.0) u o.2) at (sum-holds m' j (λ k. weigh (eqb (to' k) u) (wt' k)) (omega arith)) in
            let w = o.3 in
            omega arith

        go : (b : Bool) → all m (λ k. not (eqb (to k) x)) ≡ b → sum m (λ k. weigh (eqb (to k) x) (wt k)) ≤ sum m' (λ k. weigh (eqb (to' k) u) (wt' k))
        go true e = rw (nowhere m x to wt (λ k l. not-true (eqb (to k) x) (all-at m k (λ k. not (eqb (to k) x)) e l))) (omega arith)
        go false e =
            let w = all-witness m (λ k. not (eqb (to k) x)) e in
            found w.0 w.1 (eqb-true (to w.0) x (not-false (eqb (to w.0) x) w.2))

    pub symmetric : Symmetric n g
    symmetric = record { below = arc-below; equal = λ u x lu lx. le_antisymm (one_way u x lu lx) (one_way x u lx lu); loopless = no_loop }

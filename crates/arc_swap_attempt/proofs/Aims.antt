-- The target of largest gain is the part of the largest sum, as one walk over the sixteen sums finds it. Assumes nothing.
use mathlib.Core.Path.{◌≡◌, refl, sym, ap, ◌∙◌}
use mathlib.Core.Bool.{Bool, true, false, not}
use mathlib.Core.List.{List}
use mathlib.Core.Option.{Option, none, some}
use Prim.Native.Nat.{ℕ, ◌+◌, ◌≤◌, ◌<◌}
use native.Mathlib.Omega.{arith}
use native.Mathlib.Numerals.{add-one}
use lib.ListN.{get_or}
use lib.Dec.{ltb, leb, eqb}
use lib.IntN.{pos}
use lib.Signed.{le_z}
use borrow.Author.Tests.{lt-ltb, le-ltb, le-leb, lt-leb, eq-eqb, ne_eqb, leb-true, leb-false}
use Rattle.lists.specs.Best.{best, offer}
use Rattle.lists.specs.Fill.{table}
use Rattle.lists.proofs.Bests.{best-ext, best-in}
use Rattle.lists.proofs.Tables.{table_at}
use Rattle.lists.proofs.Differences.{at_most, at-most-none}
use Rattle.imbalance.specs.Load.{part}
use Rattle.topology.specs.Graph.{Graph, into, gain}
use Rattle.arc_swap_attempt.specs.Trial.{aim, has_gain}
use Rattle.arc_swap_attempt.specs.inner.Steps.{picked, best_by}
use Rattle.arc_swap_attempt.specs.declared.Target.{Target}

-- ---- the walk over the sums
module _ (sums : ℕ → ℕ) (own : ℕ) where
  pub none_passed : record { part = own; sum = 0 } ≡ picked own sums (best_by sums own 0)
  unfolding best
  none_passed = refl

  module _ (t : ℕ) (c : Target) (e : c ≡ picked own sums (best_by sums own t)) where
    -- the own part is passed over
    pub pass-own : t ≡ own → c ≡ picked own sums (best_by sums own (t + 1))
    unfolding best
    pass-own q = e ∙ rw (add-one, eq-eqb t own q)

    -- a part of no smaller sum takes the place
    pub pass-take : (t ≡ own → ⊥) → c.sum ≤ sums t → record { part = t; sum = sums t } ≡ picked own sums (best_by sums own (t + 1))
    unfolding best
    pass-take ne l = rw (add-one, ne_eqb t own ne) (go (best_by sums own t) refl)
      where
        go : (o : Option ℕ) → best_by sums own t ≡ o → record { part = t; sum = sums t } ≡ picked own sums (offer true (λ a b. leb (sums b) (sums a)) t o)
        go none q = refl
        go (some u) q =
            let r : c.sum ≡ sums u = ap (λ (x : Target). x.sum) (e ∙ ap (picked own sums) q) in
            rw (le-leb (sums u) (sums t) (omega arith))

    -- one of a smaller sum does not
    pub pass-by : (t ≡ own → ⊥) → sums t < c.sum → c ≡ picked own sums (best_by sums own (t + 1))
    unfolding best
    pass-by ne l = rw (add-one, ne_eqb t own ne) (go (best_by sums own t) refl)
      where
        go : (o : Option ℕ) → best_by sums own t ≡ o → c ≡ picked own sums (offer true (λ a b. leb (sums b) (sums a)) t o)
        go none q =
            let r : c.sum ≡ 0 = ap (λ (x : Target). x.sum) (e ∙ ap (picked own sums) q) in
            absurd (omega arith)
        go (some u) q =
            let r : c.sum ≡ sums u = ap (λ (x : Target). x.sum) (e ∙ ap (picked own sums) q) in
            rw (lt-leb (sums u) (sums t) (omega arith)) (e ∙ ap (picked own sums) q)

-- ---- the gains differ from the sums by one and the same number
module _ (g : Graph) (k : ℕ) (p : List ℕ) (v : ℕ) where
  gain-order : (t u : ℕ) → le_z (gain g p v u) (gain g p v t) ≡ leb (into g p v u) (into g p v t)
  unfolding gain
  gain-order t u = at_most (into g p v u) (into g p v (part p v)) (into g p v t) (into g p v (part p v)) ∙ go (leb (into g p v u) (into g p v t)) refl
    where
      go : (b : Bool) → leb (into g p v u) (into g p v t) ≡ b → leb (into g p v u + into g p v (part p v)) (into g p v t + into g p v (part p v)) ≡ leb (into g p v u) (into g p v t)
      go true e = let l = leb-true (into g p v u) (into g p v t) e in le-leb (into g p v u + into g p v (part p v)) (into g p v t + into g p v (part p v)) (omega arith) ∙ sym e
      go false e = let l = leb-false (into g p v u) (into g p v t) e in lt-leb (into g p v u + into g p v (part p v)) (into g p v t + into g p v (part p v)) (omega arith) ∙ sym e

  pub aim-is : aim g k p v ≡ best_by (into g p v) (part p v) k
  unfolding aim
  aim-is = best-ext (λ t. not (eqb t (part p v))) (λ t. not (eqb t (part p v))) (λ t u. le_z (gain g p v u) (gain g p v t)) (λ t u. leb (into g p v u) (into g p v t)) k (λ i l. refl) (λ i j l m a b. gain-order i j)

  -- a gain that is not above 0
  pub gain-none : (t : ℕ) → le_z (gain g p v t) (pos 0) ≡ leb (into g p v t) (into g p v (part p v))
  unfolding gain
  gain-none t = at-most-none (into g p v t) (into g p v (part p v))

  -- what the walk over the row's sums finds is the aim
  pub target_is :
      (at : List ℕ) (c : Target) → k ≤ 16 → at ≡ table 16 (into g p v)
      → c ≡ picked (part p v) (λ t. get_or at t 0) (best_by (λ t. get_or at t 0) (part p v) k)
      → c ≡ picked (part p v) (into g p v) (aim g k p v)
  target_is at c few e h = h ∙ go (best_by (λ t. get_or at t 0) (part p v) k) refl
    where
      each : (t : ℕ) → t < k → get_or at t 0 ≡ into g p v t
      each t l = rw e (table_at 16 t 0 (into g p v) (omega arith))

      same : best_by (λ t. get_or at t 0) (part p v) k ≡ aim g k p v
      same =
          best-ext (λ t. not (eqb t (part p v))) (λ t. not (eqb t (part p v))) (λ t u. leb (get_or at u 0) (get_or at t 0)) (λ t u. leb (into g p v u) (into g p v t)) k (λ i l. refl) (λ i j l m a b. rw (each i l, each j m))
          ∙ sym aim-is

      go : (o : Option ℕ) → best_by (λ t. get_or at t 0) (part p v) k ≡ o → picked (part p v) (λ t. get_or at t 0) o ≡ picked (part p v) (into g p v) (aim g k p v)
      go none q = rw (← same, q)
      go (some t) q =
          let l = best-in (λ t. not (eqb t (part p v))) (λ t u. leb (get_or at u 0) (get_or at t 0)) k t q in
          rw (← same, q) (ap (λ (x : ℕ). record { part = t; sum = x }) (each t l.0))

  -- "whose largest gain is now positive", by the sums
  pub has-gain-is : (c : Target) → c ≡ picked (part p v) (into g p v) (aim g k p v) → ltb (into g p v (part p v)) c.sum ≡ has_gain g k p v
  unfolding has_gain
  has-gain-is c h = go (aim g k p v) refl
    where
      turn : (a b : ℕ) → ltb b a ≡ not (leb a b)
      turn a b = by (leb a b) refl
        where
          by : (t : Bool) → leb a b ≡ t → ltb b a ≡ not (leb a b)
          by true e = le-ltb b a (leb-true a b e) ∙ ap not (sym e)
          by false e = lt-ltb b a (leb-false a b e) ∙ ap not (sym e)

      go : (o : Option ℕ) → aim g k p v ≡ o → ltb (into g p v (part p v)) c.sum ≡ elim o [ none ↦ false | some t ↦ not (le_z (gain g p v t) (pos 0)) ]
      go none q =
          let r : c.sum ≡ 0 = ap (λ (x : Target). x.sum) (h ∙ ap (picked (part p v) (into g p v)) q) in
          le-ltb (into g p v (part p v)) c.sum (omega arith)
      go (some t) q =
          let r : c.sum ≡ into g p v t = ap (λ (x : Target). x.sum) (h ∙ ap (picked (part p v) (into g p v)) q) in
          ap (ltb (into g p v (part p v))) r ∙ turn (into g p v t) (into g p v (part p v)) ∙ ap not (sym (gain-none t))

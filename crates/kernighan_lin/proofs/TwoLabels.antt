-- Two labels are counted exactly where two different labels occur and no other does. Assumes nothing.
use mathlib.Core.Path.{◌≡◌, refl, sym, ◌∙◌}
use mathlib.Core.Bool.{Bool, true, false, not, ◌&&◌}
use mathlib.Core.List.{List}
use mathlib.Core.Logic.{◌↔◌, ◌⊎◌, inl, inr, ⊎_elim}
use Prim.Native.Nat.{ℕ, ◌+◌, ◌≤◌, ◌<◌}
use native.Mathlib.Omega.{arith}
use lib.ListN.{length}
use lib.Dec.{eqb}
use borrow.Author.Tests.{eq-eqb, ne_eqb, eqb-true, eqb-false, not-true, not-false}
use Rattle.lists.specs.Sum.{sum, weigh}
use Rattle.lists.specs.All.{any}
use Rattle.lists.proofs.Bools.{and_left, and_right, and-false, or-false}
use Rattle.lists.proofs.Orders.{clash}
use Rattle.lists.proofs.Alls.{any-holds, any_at, any-witness}
use Rattle.lists.proofs.Totals.{sum-ext, sum-zero, sum-apart, sum-holds}
use Rattle.imbalance.specs.Limit.{label_above}
use Rattle.imbalance.specs.Load.{part}
use Rattle.imbalance.specs.Rules.{NoneAbove}
use Rattle.imbalance.proofs.Refusals.{labelled}
use Rattle.kernighan_lin.specs.Entry.{uses, different, mislabelled}
use Rattle.kernighan_lin.specs.Rules.{Occurs, TwoLabels, Labelled}

-- how many of the numbers below n pass the test
abbrev count : ℕ → (ℕ → Bool) → ℕ
count n f = sum n (λ i. weigh (f i) 1)

-- the same test, at s no longer passed
abbrev without : ℕ → (ℕ → Bool) → ℕ → Bool
without s f i = not (eqb s i) && f i

module _ (n : ℕ) (f : ℕ → Bool) where
  -- one that passes, and the others
  count-apart : (s : ℕ) → s < n → f s ≡ true → count n f ≡ count n (without s f) + 1
  count-apart s l t =
      let a = sum-apart n s (λ i. weigh (f i) 1) l in
      let b : sum n (λ i. weigh (not (eqb s i)) (weigh (f i) 1)) ≡ count n (without s f) = sum-ext n _ _ (λ i k. both (not (eqb s i)) (f i)) in
      let c : weigh (f s) 1 ≡ 1 = rw t in
      omega arith
    where
      both : (s t : Bool) → weigh s (weigh t 1) ≡ weigh (s && t) 1
      both true t = refl
      both false t = refl

  -- where none is counted none passes
  count_none : count n f ≡ 0 → (i : ℕ) → i < n → f i ≡ false
  count_none e i l = go (f i) refl
    where
      go : (t : Bool) → f i ≡ t → t ≡ false
      go true t = let h : weigh true 1 ≤ count n f = rw t at (sum-holds n i (λ j. weigh (f j) 1) l) in absurd (omega arith)
      go false t = refl

  none-count : ((i : ℕ) → i < n → f i ≡ false) → count n f ≡ 0
  none-count h = sum-ext n (λ i. weigh (f i) 1) (λ i. 0) (λ i l. rw (h i l)) ∙ sum-zero n

  -- where some are counted, one of them, and the others
  count-one : (k : ℕ) → count n f ≡ k + 1 → (s : ℕ) × (s < n) × (f s ≡ true) × (count n (without s f) ≡ k)
  count-one k e = go (any n f) refl
    where
      go : (b : Bool) → any n f ≡ b → (s : ℕ) × (s < n) × (f s ≡ true) × (count n (without s f) ≡ k)
      go true b = let w = any-witness n f b in let a = count-apart w.0 w.1 w.2 in (w.0, w.1, w.2, omega arith)
      go false b = let z = none-count (λ i l. any_at n i f b l) in absurd (omega arith)

occurs : (labels : List ℕ) (t : ℕ) → (uses labels t ≡ true) ↔ Occurs labels t
unfolding uses
occurs labels t = (
  (λ h. let w = any-witness (length labels) has h in (w.0, w.1, eqb-true (part labels w.0) t w.2)),
  λ o. any-holds (length labels) o.0 has o.1 (eq-eqb (part labels o.0) t o.2),
)
  where
    has : ℕ → Bool
    has v = eqb (part labels v) t

module _ (labels : List ℕ) (named : NoneAbove 15 labels) where
  below : (t : ℕ) → Occurs labels t → t < 16
  below t o = let l = named o.0 o.1 in let e = o.2 in omega arith

  two_labels : (different labels ≡ 2) ↔ TwoLabels labels
  unfolding different
  two_labels = (there, back)
    where
      there : different labels ≡ 2 → TwoLabels labels
      there e =
          let a = count-one 16 (uses labels) 1 e in
          let b = count-one 16 (without a.0 (uses labels)) 0 a.3 in
          let off = not-true (eqb a.0 b.0) (and_left (not (eqb a.0 b.0)) (uses labels b.0) b.2) in
          let used = and_right (not (eqb a.0 b.0)) (uses labels b.0) b.2 in
          record {
            one = a.0;
            two = b.0;
            differ = eqb-false a.0 b.0 off;
            one_occurs = (occurs labels a.0).0 a.2;
            two_occurs = (occurs labels b.0).0 used;
            no_other = λ v l. (let x = part labels v in let o : Occurs labels x = (v, l, refl) in either a.0 b.0 x (count_none 16 (without b.0 (without a.0 (uses labels))) b.3 x (below x o)) ((occurs labels x).1 o) (eqb a.0 x) refl (eqb b.0 x) refl);
          }
        where
          either : (s t x : ℕ) → without t (without s (uses labels)) x ≡ false → uses labels x ≡ true → (p : Bool) → eqb s x ≡ p → (q : Bool) → eqb t x ≡ q → (x ≡ s) ⊎ (x ≡ t)
          either s t x h u true p q e = inl (sym (eqb-true s x p))
          either s t x h u false p true e = inr (sym (eqb-true t x e))
          either s t x h u false p false e = clash (uses labels x) u (rw (p, e) at h)

      back : TwoLabels labels → different labels ≡ 2
      back k =
          let s = k.one in
          let t = k.two in
          let a = count-apart 16 (uses labels) s (below s k.one_occurs) ((occurs labels s).1 k.one_occurs) in
          let b = count-apart 16 (without s (uses labels)) t (below t k.two_occurs) (rw (ne_eqb s t k.differ) ((occurs labels t).1 k.two_occurs)) in
          let c = none-count 16 (without t (without s (uses labels))) (λ x l. other x (uses labels x) refl) in
          omega arith
        where
          other : (x : ℕ) (u : Bool) → uses labels x ≡ u → without k.two (without k.one (uses labels)) x ≡ false
          other x true u =
              let o = (occurs labels x).0 u in
              ⊎_elim
              (λ e. rw (eq-eqb k.one x (sym e ∙ o.2)) (and-false (not (eqb k.two x))))
              (λ e. rw (eq-eqb k.two x (sym e ∙ o.2)))
              (k.no_other o.0 o.1)
          other x false u = rw (u, and-false) (and-false (not (eqb k.two x)))

pub labelled-so : (labels : List ℕ) → (mislabelled labels ≡ false) ↔ Labelled labels
unfolding mislabelled
labelled-so labels = (there, back)
  where
    there : mislabelled labels ≡ false → Labelled labels
    there h =
        let b = or-false (label_above 15 labels) (not (eqb (different labels) 2)) h in
        let named = (labelled 15 labels).0 b.0 in
        record { none_above = named; two_labels = (two_labels labels named).0 (eqb-true (different labels) 2 (not-false (eqb (different labels) 2) b.1)) }

    back : Labelled labels → mislabelled labels ≡ false
    back k = rw ((labelled 15 labels).1 k.none_above, eq-eqb (different labels) 2 ((two_labels labels k.none_above).1 k.two_labels))

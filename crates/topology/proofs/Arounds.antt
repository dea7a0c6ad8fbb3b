-- The parts around a vertex, as one bit a part counts them, and their sum over the vertices. Assumes nothing.
use mathlib.Core.Path.{◌≡◌, refl, sym, ◌∙◌}
use mathlib.Core.Bool.{Bool, true, false, not, cond, ◌&&◌, ◌||◌}
use mathlib.Core.List.{List}
use Prim.Native.Nat.{ℕ, ◌+◌, ◌*◌, ◌≤◌, ◌<◌}
use native.Mathlib.Omega.{arith}
use native.Mathlib.Nat.{mul-le-mul}
use lib.ListN.{length, get_or}
use lib.Bits.{bit_or}
use lib.Dec.{eqb}
use borrow.Author.Tests.{eq-eqb, ne_eqb, eqb-true, eqb-false}
use Rattle.lists.specs.Sum.{sum, weigh}
use Rattle.lists.specs.All.{any_from}
use Rattle.lists.proofs.Bools.{and-false, or-true, or-false}
use Rattle.lists.proofs.Alls.{any-from-empty, any-from-more}
use Rattle.lists.proofs.Sums.{sum-none, sum_step}
use Rattle.lists.proofs.Totals.{sum-ext, sum-change, sum_below, sum-zero}
use Rattle.imbalance.specs.Load.{part, Loadable}
use Rattle.imbalance.proofs.Limits.{label-most}
use Rattle.topology.specs.Graph.{Graph, first, past, neighbour}
use Rattle.topology.specs.Cut.{touches, parts_around, lambda}
use Rattle.topology.specs.inner.Row.{Row, word_bound}
use Rattle.topology.proofs.Digits.{digit, bit, with-bit, bit-alone}
use Rattle.topology.proofs.RowWalks.{Walk, enters, further, at-end}

-- a label is below 16
pub label-below : {weights labels : List ℕ} → Loadable weights labels → (v : ℕ) → v < length labels → part labels v < 16
label-below {weights} {labels} ok v l = let a = label-most 15 labels ok.named v l in omega arith

-- an arc from a up to e goes into part t
abbrev meets : Graph → List ℕ → ℕ → ℕ → ℕ → Bool
meets g p a e t = any_from a e (λ i. eqb (part p (neighbour g i)) t)

-- a part's bit once the arcs from a up to e are passed, and what the part counts
abbrev mark : Graph → List ℕ → ℕ → ℕ → ℕ → ℕ → ℕ
mark g p u a e t = weigh (eqb t (part p u) || meets g p a e t) 1

abbrev term : Graph → List ℕ → ℕ → ℕ → ℕ → ℕ → ℕ
term g p u a e t = weigh (not (eqb t (part p u)) && meets g p a e t) 1

-- the arcs from a up to e are passed
pub record Met (g : Graph) (p : List ℕ) (u a b e met count : ℕ) : Type 0 where
  pub walk : Walk (length p) g.neighbours a b e
  pub marks : (t : ℕ) → t < 16 → digit met t ≡ mark g p u a e t
  pub count-is : count ≡ sum 16 (term g p u a e)

-- an arc changes nothing of a part that it does not go into, nor of one that was met or is the vertex's own
stays : (own met into : Bool) → (into ≡ true → own || met ≡ true) → (own || (met || into) ≡ own || met) × (not own && (met || into) ≡ not own && met)
stays true met into h = (refl, refl)
stays false true into h = (refl, refl)
stays false false true h = let q = h refl in (sym q, sym q)
stays false false false h = (refl, refl)

-- a weight of 1 by whether it counts
weighs-one : (b : Bool) → (weigh b 1 ≡ 0 → ⊥) → b ≡ true
weighs-one true h = refl
weighs-one false h = absurd (h refl)

weighs-none : (b : Bool) → weigh b 1 ≡ 0 → b ≡ false
weighs-none true h = absurd (omega arith)
weighs-none false h = refl

weighs-little : (b : Bool) → weigh b 1 ≤ 1
weighs-little true = omega arith
weighs-little false = omega arith

module _ (g : Graph) (p : List ℕ) (u a b : ℕ) where
  -- at most one for each part
  at_most : (e : ℕ) → sum 16 (term g p u a e) ≤ 16
  unfolding sum
  at_most e = sum_below 16 (term g p u a e) (λ t. 1) (λ t l. weighs-little (not (eqb t (part p u)) && meets g p a e t))

  pub begins : Row (length p) g.neighbours (first g u) (past g u) → a ≡ first g u → b ≡ past g u → (own : ℕ) → own ≡ part p u → own < 16 → Met g p u a b a (bit own) 0
  begins row q r own o l = record {
    walk = enters (rw (q, r) row);
    marks = λ t k. bit-alone own t l ∙ at t (eqb own t) refl;
    count-is = sym (sum-ext 16 (term g p u a a) (λ t. 0) (λ t k. rw (unmet t, and-false)) ∙ sum-zero 16);
  }
    where
      unmet : (t : ℕ) → meets g p a a t ≡ false
      unmet t = any-from-empty a 0 (λ i. eqb (part p (neighbour g i)) t)

      at : (t : ℕ) (s : Bool) → eqb own t ≡ s → cond s 1 0 ≡ mark g p u a a t
      at t true n = rw (← eqb-true own t n, ← o, eq-eqb own own refl)
      at t false n = rw (unmet t, ← o, ne_eqb t own (λ q. eqb-false own t n (sym q)))

  module _ (e met count : ℕ) (inv : Met g p u a b e met count) where
    pub few : count ≤ 16
    few = let c = inv.count-is in let m = at_most e in omega arith

    pub ended : a ≡ first g u → b ≡ past g u → b ≤ e → count ≡ parts_around g p u
    unfolding parts_around touches
    ended q r l = rw (at-end inv.walk l, q, r) at inv.count-is

    -- arc e goes to v, of part t
    module _ (l : e < b) (v t : ℕ) (v-is : v ≡ neighbour g e) (t-is : t ≡ part p v) (t-below : t < 16) where
      meets-more : (x : ℕ) → meets g p a (e + 1) x ≡ meets g p a e x || eqb t x
      meets-more x = rw (t-is, v-is) (any-from-more a e (λ i. eqb (part p (neighbour g i)) x) inv.walk.from)

      same : (x : ℕ) → (eqb t x ≡ true → eqb x (part p u) || meets g p a e x ≡ true) → (mark g p u a (e + 1) x ≡ mark g p u a e x) × (term g p u a (e + 1) x ≡ term g p u a e x)
      same x h =
          let r = stays (eqb x (part p u)) (meets g p a e x) (eqb t x) h in
          (rw (meets-more x, r.0), rw (meets-more x, r.1))

      other : (x : ℕ) → eqb t x ≡ false → eqb t x ≡ true → eqb x (part p u) || meets g p a e x ≡ true
      other x q r = let o : ◌≡◌ {A = ℕ} 0 1 = cc in absurd (omega arith)

      -- the part's bit is put in, whether it was there or not
      marked : (x : ℕ) → x < 16 → digit (bit_or met (bit t)) x ≡ mark g p u a (e + 1) x
      marked x k = with-bit met t x t-below ∙ at (eqb t x) refl
        where
          at : (s : Bool) → eqb t x ≡ s → cond s 1 (digit met x) ≡ mark g p u a (e + 1) x
          at true q = rw (meets-more x, q, or-true, or-true)
          at false q = inv.marks x k ∙ sym (same x (other x q)).0

      -- the part was met, or is u's own
      pub turn-known : (digit met t ≡ 0 → ⊥) → Met g p u a b (e + 1) (bit_or met (bit t)) count
      turn-known h = record {
        walk = further inv.walk l;
        marks = marked;
        count-is = inv.count-is ∙ sum-ext 16 (term g p u a e) (term g p u a (e + 1)) (λ x k. sym (same x (known x)).1);
      }
        where
          known : (x : ℕ) → eqb t x ≡ true → eqb x (part p u) || meets g p a e x ≡ true
          known x q = rw (← eqb-true t x q) (weighs-one (eqb t (part p u) || meets g p a e t) (λ z. h (inv.marks t t-below ∙ z)))

      -- the part is a new one
      pub turn-new : digit met t ≡ 0 → Met g p u a b (e + 1) (bit_or met (bit t)) (count + 1)
      turn-new h = record {
        walk = further inv.walk l;
        marks = marked;
        count-is = omega (arith, counts, inv.count-is, before, after);
      }
        where
          unmet : (eqb t (part p u) ≡ false) × (meets g p a e t ≡ false)
          unmet = or-false (eqb t (part p u)) (meets g p a e t) (weighs-none (eqb t (part p u) || meets g p a e t) (sym (inv.marks t t-below) ∙ h))

          before : term g p u a e t ≡ 0
          before = rw (unmet.0, unmet.1)

          after : term g p u a (e + 1) t ≡ 1
          after = rw (meets-more t, unmet.0, eq-eqb t t refl, or-true)

          counts : sum 16 (term g p u a e) + term g p u a (e + 1) t ≡ sum 16 (term g p u a (e + 1)) + term g p u a e t
          counts = sum-change 16 t (term g p u a e) (term g p u a (e + 1)) t-below (λ x ne. sym (same x (other x (ne_eqb t x ne))).1)

-- what a vertex counts in the lambda cut
abbrev share : Graph → List ℕ → List ℕ → ℕ → ℕ
share g weights p u = parts_around g p u * get_or weights u 0

-- what a vertex counts at most: sixteen weights of 32 bits
abbrev pub share_bound : ℕ
share_bound = 16 * word_bound

-- the vertices before u are counted
pub record Counted (g : Graph) (weights p : List ℕ) (u so_far : ℕ) : Type 0 where
  pub upto : u ≤ length p
  pub sum_is : so_far ≡ sum u (share g weights p)
  pub small : so_far ≤ share_bound * u

pub share-small : (parts w : ℕ) → parts ≤ 16 → w < word_bound → parts * w ≤ share_bound
share-small parts w a b = let c : w ≤ word_bound = omega arith in mul-le-mul a c

module _ (g : Graph) (weights p : List ℕ) where
  pub none-counted : Counted g weights p 0 0
  none-counted = record { upto = omega arith; sum_is = sym (sum-none (share g weights p)); small = omega arith }

  module _ (u so_far : ℕ) (inv : Counted g weights p u so_far) where
    -- the next vertex, around which there are `parts` parts, weighs w
    pub one-counted :
        u < length p → (parts w : ℕ) → (parts ≡ parts_around g p u) × (parts ≤ 16) → w ≡ get_or weights u 0 → w < word_bound
        → Counted g weights p (u + 1) (so_far + parts * w)
    one-counted l parts w parts_are w-is fits =
        let s = inv.small in
        let a = share-small parts w parts_are.1 fits in
        record {
          upto = omega arith;
          sum_is = sum_step u so_far (parts * w) (share g weights p) inv.sum_is (rw (parts_are.0, w-is));
          small = omega arith;
        }

    pub all-counted : length p ≤ u → so_far ≡ lambda g weights p
    unfolding lambda
    all-counted l =
        let k = inv.upto in
        let q : u ≡ length p = omega arith in
        rw q at inv.sum_is

-- Looking an arc up: the halving of a row, and why the one place that it finds settles whether the arc is there. Assumes nothing.
use mathlib.Core.Path.{◌≡◌, refl, sym, ◌∙◌}
use mathlib.Core.Bool.{Bool, true, false, ◌&&◌}
use mathlib.Core.List.{List}
use Prim.Native.Nat.{ℕ, ◌+◌, ◌-◌, ◌/◌, ◌≤◌, ◌<◌}
use native.Mathlib.Omega.{arith}
use lib.ListN.{length, get_or}
use lib.Dec.{ltb, eqb}
use borrow.Author.Tests.{eq-eqb, ne_eqb, ltb-true, ltb-false}
use Rattle.lists.proofs.Alls.{any-from-only, any-from-none}
use Rattle.topology.specs.Graph.{Graph, first, past, neighbour, weight}
use Rattle.topology.specs.Rule.{rows_ok, has_arc, Rows}
use Rattle.topology.specs.inner.Lookup.{Rises, Halved, Answerable}
use Rattle.topology.proofs.Rises.{row-rises}
use Rattle.topology.proofs.RowWalks.{row_of}

-- a and b close in on the place: below u before a, u or above from b on
pub record Halving (ns : List ℕ) (lo hi u a b : ℕ) : Type 0 where
  pub from : lo ≤ a
  pub ordered : a ≤ b
  pub upto : b ≤ hi
  pub under : (e : ℕ) → lo ≤ e → e < a → get_or ns e 0 < u
  pub over : (e : ℕ) → b ≤ e → e < hi → u ≤ get_or ns e 0

abbrev middle : ℕ → ℕ → ℕ
middle a b = a + (b - a) / 2

module _ (ns : List ℕ) (lo hi u : ℕ) (row : Rises ns lo hi) where
  pub begins : Halving ns lo hi u lo hi
  begins = record { from = omega arith; ordered = row.ordered; upto = omega arith; under = λ e l k. absurd (omega arith); over = λ e l k. absurd (omega arith) }

  module _ (a b : ℕ) (inv : Halving ns lo hi u a b) where
    pub ended : b ≤ a → Halved ns lo hi u a
    ended l =
        let o = inv.ordered in
        let t = inv.upto in
        record { from = inv.from; upto = omega arith; under = inv.under; over = λ e k j. inv.over e (omega arith) j }

    -- v stands in the middle
    module _ (l : a < b) (v : ℕ) (v-is : v ≡ get_or ns (middle a b) 0) where
      -- it is below u, and so is what stands before it
      pub higher : v < u → Halving ns lo hi u (middle a b + 1) b
      higher h =
          let f = inv.from in
          record { from = omega arith; ordered = omega arith; upto = inv.upto; under = λ e i k. at e (ltb e (middle a b)) refl i k; over = inv.over }
        where
          at : (e : ℕ) (t : Bool) → ltb e (middle a b) ≡ t → lo ≤ e → e < middle a b + 1 → get_or ns e 0 < u
          at e true t i k = let n = inv.upto in let r = row.rises e (middle a b) i (ltb-true e (middle a b) t) (omega arith) in omega arith
          at e false t i k = let r = ltb-false e (middle a b) t in let q : e ≡ middle a b = omega arith in rw (q, ← v-is) h

      -- it is u or above, and so is what stands after it
      pub lower : u ≤ v → Halving ns lo hi u a (middle a b)
      lower h =
          let n = inv.upto in
          record { from = inv.from; ordered = omega arith; upto = omega arith; under = inv.under; over = λ e i k. at e (ltb (middle a b) e) refl i k }
        where
          at : (e : ℕ) (t : Bool) → ltb (middle a b) e ≡ t → middle a b ≤ e → e < hi → u ≤ get_or ns e 0
          at e true t i k = let f = inv.from in let r = row.rises (middle a b) e (omega arith) (ltb-true (middle a b) e t) k in omega arith
          at e false t i k = let r = ltb-false (middle a b) e t in let q : e ≡ middle a b = omega arith in rw (q, ← v-is) h

-- r parts row v, which stands from lo up to hi
module _
    (g : Graph)
    (v u w lo hi r : ℕ)
    (lo-is : lo ≡ first g v)
    (hi-is : hi ≡ past g v)
    (row : Rises g.neighbours (first g v) (past g v))
    (found : Halved g.neighbours lo hi u r) where
  abbrev test : ℕ → Bool
  test e = eqb (neighbour g e) u && eqb (weight g e) w

  other : (e : ℕ) → (neighbour g e ≡ u → ⊥) → test e ≡ false
  other e ne = rw (ne_eqb (neighbour g e) u ne)

  -- every neighbour is below u
  pub not-reached : hi ≤ r → false ≡ has_arc g v u w
  unfolding has_arc
  not-reached l = sym (any-from-none (first g v) (past g v) test (λ e a b. let k = found.under e (omega arith) (omega arith) in other e (λ q. omega arith)))

  module _ (l : r < hi) where
    elsewhere : (e : ℕ) → first g v ≤ e → e < past g v → (e ≡ r → ⊥) → test e ≡ false
    elsewhere e a b ne = go (ltb e r) refl
      where
        go : (t : Bool) → ltb e r ≡ t → test e ≡ false
        go true t = let k = found.under e (omega arith) (ltb-true e r t) in other e (λ q. omega arith)
        go false t =
            let h = ltb-false e r t in
            let f = found.from in
            let o = found.over r (omega arith) l in
            let k = row.rises r e (omega arith) (omega (arith, ne)) b in
            other e (λ q. omega arith)

    at_place : test r ≡ has_arc g v u w
    unfolding has_arc
    at_place = let f = found.from in sym (any-from-only (first g v) (past g v) test r (omega arith) (omega arith) elsewhere)

    module _ (x : ℕ) (x-is : x ≡ neighbour g r) where
      -- the first neighbour that is not below u is above it
      pub passed_over : (x ≡ u → ⊥) → false ≡ has_arc g v u w
      passed_over ne = sym (other r (λ q. ne (x-is ∙ q))) ∙ at_place

      -- u itself stands there, and nowhere else
      pub settled : x ≡ u → (b : Bool) → b ≡ eqb (weight g r) w → b ≡ has_arc g v u w
      settled q b e = e ∙ rw (eq-eqb (neighbour g r) u (sym x-is ∙ q)) at at_place

-- what looking up the opposites of row u asks, of a graph that keeps the row rules
pub answerable :
    {n : ℕ} {g : Graph} → Rows n g → rows_ok n g ≡ true → (u lo hi : ℕ) → u < n → lo ≡ first g u → hi ≡ past g u
    → Answerable g.starts g.neighbours g.weights lo hi
answerable {n} {g} ok rows u lo hi l p q =
    let k : n ≡ length g.starts - 1 = omega (arith, ok.counted) in
    record { row = rw k at (row_of ok u lo hi l p q); rises = λ v b. row-rises n g rows v (omega (arith, ok.counted)) ok; paired = ok.paired }

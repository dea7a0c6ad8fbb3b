-- What the row rules say of a row: each arc keeps its rule, and the neighbours rise strictly. Assumes nothing.
use mathlib.Core.Path.{◌≡◌, refl}
use mathlib.Core.Bool.{Bool, true, false, not, ◌&&◌, ◌||◌}
use Prim.Native.Nat.{ℕ, zero, suc, ◌-◌, ◌≤◌, ◌<◌}
use native.Mathlib.Omega.{arith}
use lib.Dec.{ltb, eqb}
use borrow.Author.Tests.{ne_eqb, eqb-true, eqb-false, ltb-true}
use Rattle.lists.specs.All.{all}
use Rattle.lists.proofs.Bools.{and_right}
use Rattle.lists.proofs.Alls.{all-at, from_at}
use Rattle.topology.specs.Graph.{Graph, first, past, neighbour}
use Rattle.topology.specs.Rule.{starts_ok, arc_ok, row_ok, rows_ok, Rows}
use Rattle.topology.specs.inner.Lookup.{Rises}

-- numbers from lo up to hi, each above the one before it: a later one is above every earlier one
pub chain : (lo hi : ℕ) (f : ℕ → ℕ) → ((i : ℕ) → lo ≤ i → suc i < hi → f i < f (suc i)) → (i j : ℕ) → lo ≤ i → i < j → j < hi → f i < f j
chain lo hi f up i zero a l b = absurd (omega arith)
chain lo hi f up i (suc j) a l b = go (eqb i j) refl (chain lo hi f up i j a)
  where
    go : (t : Bool) → eqb i j ≡ t → (i < j → j < hi → f i < f j) → f i < f (suc j)
    go true e ih = rw (eqb-true i j e) (up j (omega arith) b)
    go false e ih = let ne = eqb-false i j e in omega (arith, ih (omega (arith, ne)) (omega arith), up j (omega arith) b)

module _ (n : ℕ) (g : Graph) (rows : rows_ok n g ≡ true) (u : ℕ) (below : u < n) where
  pub arc-rule : (e : ℕ) → first g u ≤ e → e < past g u → arc_ok n g u (first g u) e ≡ true
  unfolding rows_ok
  arc-rule e a b = from_at (first g u) (past g u) (arc_ok n g u (first g u)) e (all-at n u (row_ok n g) (and_right (starts_ok n g) (all n (row_ok n g)) rows) below) a b

  pub step-rises : (e : ℕ) → first g u ≤ e → suc e < past g u → neighbour g e < neighbour g (suc e)
  unfolding arc_ok
  step-rises e a b =
      let v = neighbour g (suc e) in
      let r = and_right (ltb v n && not (eqb v u)) (eqb (suc e) (first g u) || ltb (neighbour g (suc e - 1)) v) (arc-rule (suc e) (omega arith) b) in
      let q : eqb (suc e) (first g u) ≡ false = ne_eqb (suc e) (first g u) (λ x. omega arith) in
      let k : suc e - 1 ≡ e = omega arith in
      rw k at (ltb-true (neighbour g (suc e - 1)) v (rw q at r))

  pub row-rises : Rows n g → Rises g.neighbours (first g u) (past g u)
  row-rises ok = record { ordered = ok.rise u below; inside = ok.inside u below; rises = chain (first g u) (past g u) (neighbour g) step-rises }

-- The cut is at most the weight of all arcs. Assumes nothing.
use mathlib.Core.Path.{◌≡◌, ap}
use mathlib.Core.Bool.{not, ◌&&◌}
use mathlib.Core.List.{List}
use Prim.Native.Nat.{ℕ, zero, suc, ◌+◌, ◌-◌, ◌≤◌}
use native.Mathlib.Omega.{arith}
use native.Mathlib.Numerals.{add-one}
use lib.ListN.{length, get_or}
use lib.Dec.{ltb, eqb}
use Rattle.lists.specs.Sum.{sum, between, total}
use Rattle.lists.proofs.Bools.{weigh-most}
use Rattle.lists.proofs.Totals.{sum_below, sum-grows}
use Rattle.imbalance.specs.Load.{part}
use Rattle.topology.specs.Graph.{Graph, first, past, neighbour, weight}
use Rattle.topology.specs.Rule.{Rows}
use Rattle.topology.specs.Cut.{crossing, row_cut, cut}

-- a sum in two parts
sum-parts : (a d : ℕ) (f : ℕ → ℕ) → sum (d + a) f ≡ sum a f + sum d (λ i. f (a + i))
unfolding sum
sum-parts a zero f = let q : 0 + a ≡ a = omega arith in rw q (omega arith)
sum-parts a (suc d) f =
    let q : suc d + a ≡ suc (d + a) = omega arith in
    let r : d + a ≡ a + d = omega arith in
    let h = sum-parts a d f in
    let e = ap f r in
    rw q (omega arith)

module _ (n : ℕ) (g : Graph) (ok : Rows n g) where
  rows-within : (m : ℕ) → m ≤ n → sum m (λ u. between (first g u) (past g u) (weight g)) ≤ sum (first g m) (weight g)
  unfolding sum between
  rows-within zero l = omega arith
  rows-within (suc m) l =
      let k = ok.rise m (omega arith) in
      let h = rows-within m (omega arith) in
      let q : past g m - first g m + first g m ≡ past g m = omega arith in
      let e = ap (λ (x : ℕ). sum x (weight g)) q in
      let r = sum-parts (first g m) (past g m - first g m) (weight g) in
      let z = ap (λ (x : ℕ). sum (get_or g.starts x 0) (weight g)) (add-one m) in
      omega arith

  row-crossing : (p : List ℕ) (u : ℕ) → row_cut g p u ≤ between (first g u) (past g u) (weight g)
  unfolding between
  row-crossing p u = sum_below (past g u - first g u) (λ i. crossing g p u (first g u + i)) (λ i. weight g (first g u + i)) (λ i l. weigh-most (ltb (neighbour g (first g u + i)) u && not (eqb (part p (neighbour g (first g u + i))) (part p u))) (weight g (first g u + i)))

  last_within : (m : ℕ) → m ≤ n → sum m (λ u. between (first g u) (past g u) (weight g)) ≤ total g.weights
  unfolding total sum
  last_within zero l = omega arith
  last_within (suc m) l =
      let i = ok.inside m (omega arith) in
      let z = ap (λ (x : ℕ). get_or g.starts x 0) (add-one m) in
      let a = rows-within (suc m) l in
      let b = sum-grows (first g (suc m)) (length g.weights) (weight g) (omega (arith, ok.paired)) in
      omega arith

  pub cut-light : (p : List ℕ) → length p ≡ n → cut g p ≤ total g.weights
  unfolding cut
  cut-light p e =
      let a = sum_below (length p) (row_cut g p) (λ u. between (first g u) (past g u) (weight g)) (λ u l. row-crossing p u) in
      let b = last_within (length p) (omega arith) in
      omega arith

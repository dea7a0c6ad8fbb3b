-- How large sums of a row's arcs, cuts and gains can be (document 01: the arc weights sum to at most 2,147,483,647). Assumes nothing.
use mathlib.Core.Path.{◌≡◌}
use mathlib.Core.Bool.{Bool, not, ◌&&◌}
use mathlib.Core.List.{List}
use Prim.Native.Nat.{ℕ, ◌*◌, ◌≤◌, ◌<◌}
use native.Mathlib.Omega.{arith}
use lib.ListN.{length}
use lib.Dec.{ltb, eqb}
use lib.IntN.{ℤ}
use lib.Signed.{mag}
use Rattle.lists.specs.Sum.{sum, between, weigh, total}
use Rattle.lists.proofs.Bools.{weigh-most}
use Rattle.lists.proofs.Totals.{sum_below, sum-most, between-most}
use Rattle.lists.proofs.Differences.{by_sign}
use Rattle.imbalance.specs.Limit.{most_vertices, most_weight}
use Rattle.imbalance.specs.Load.{part}
use Rattle.topology.specs.Graph.{Graph, first, past, neighbour, weight, arcs, into, joins}
use Rattle.topology.specs.Cut.{cut, row_cut}
use Rattle.kernighan_lin_pass.specs.Gain.{fresh}
use Rattle.kernighan_lin_pass.specs.inner.Steps.{Fit}

module _ (n : ℕ) (g : Graph) (fit : Fit n g) where
  -- some of the arcs from a up to b
  pub part_small : (a b : ℕ) → a ≤ b → b ≤ length g.neighbours → (t : ℕ → Bool) → between a b (λ e. weigh (t e) (weight g e)) ≤ most_weight
  unfolding total between
  part_small a b h l t =
      let k = fit.rows.paired in
      let s : between a b (λ e. weigh (t e) (weight g e)) ≤ sum (length g.weights) (λ e. weigh (t e) (weight g e)) = between-most a b (length g.weights) (λ e. weigh (t e) (weight g e)) h (omega arith) in
      let m : sum (length g.weights) (λ e. weigh (t e) (weight g e)) ≤ sum (length g.weights) (weight g) = sum_below (length g.weights) (λ e. weigh (t e) (weight g e)) (weight g) (λ i q. weigh-most (t i) (weight g i)) in
      omega (arith, fit.light)

  module _ (u : ℕ) (below : u < n) where
    pub arcs-small : (t : ℕ → Bool) → arcs g u t ≤ most_weight
    unfolding arcs
    arcs-small t = part_small (first g u) (past g u) (fit.rows.rise u below) (fit.rows.inside u below) (λ e. t (neighbour g e))

    pub joins-small : (x : ℕ) → joins g u x ≤ most_weight
    unfolding joins
    joins-small x = arcs-small (λ v. eqb v x)

    pub fresh-small : (p : List ℕ) → mag (fresh g p u) ≤ most_weight
    unfolding fresh into
    fresh-small p =
        let there = arcs-small (λ v. not (eqb (part p v) (part p u))) in
        let here = arcs-small (λ v. eqb (part p v) (part p u)) in
        by_sign (λ (z : ℤ). mag z ≤ most_weight) (arcs g u (λ v. not (eqb (part p v) (part p u)))) (arcs g u (λ v. eqb (part p v) (part p u))) (λ l. omega arith) (λ l. omega arith)

  pub cut_small : (p : List ℕ) → length p ≡ n → cut g p ≤ most_vertices * most_weight
  unfolding cut arcs
  cut_small p e =
      let few = fit.rows.few in
      let s : cut g p ≤ length p * most_weight = sum-most (length p) most_weight (row_cut g p) (λ u l. arcs-small u (omega arith) (λ x. ltb x u && not (eqb (part p x) (part p u)))) in
      omega arith

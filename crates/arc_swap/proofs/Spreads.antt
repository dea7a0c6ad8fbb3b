-- What a move pushes: few vertices, each of them a vertex of the graph. Assumes nothing.
use mathlib.Core.Bool.{Bool, true, false, cond, ◌&&◌}
use mathlib.Core.List.{List, ◌∷◌, ◌++◌}
use Prim.Native.Nat.{ℕ, zero, suc, ◌+◌, ◌-◌, ◌≤◌, ◌<◌}
use native.Mathlib.Omega.{arith}
use lib.ListN.{length}
use Rattle.imbalance.specs.Limit.{most_arcs}
use Rattle.topology.specs.Graph.{Graph, first, past, neighbour}
use Rattle.topology.specs.Rule.{Rows}
use Rattle.arc_swap_attempt.specs.Trial.{has_gain, pushed}
use Rattle.arc_swap.specs.inner.Steps.{Inside, no_vertex, also}

pub inside_both : {n : ℕ} {xs ys : List ℕ} → Inside n xs → Inside n ys → Inside n (xs ++ ys)
inside_both no_vertex b = b
inside_both (also l a) b = also l (inside_both a b)

pub inside-top : {n x : ℕ} {xs : List ℕ} → Inside n (x ∷ xs) → x < n
inside-top (also l a) = l

pub inside-rest : {n x : ℕ} {xs : List ℕ} → Inside n (x ∷ xs) → Inside n xs
inside-rest (also l a) = a

module _ (g : Graph) (k : ℕ) (movable : ℕ → Bool) (p : List ℕ) (v : ℕ) where
  pub pushed-few : (m : ℕ) → length (pushed g k movable p v m) ≤ m
  unfolding pushed
  pushed-few zero = omega arith
  pushed-few (suc m) = go (movable (neighbour g (first g v + m)) && has_gain g k p (neighbour g (first g v + m))) (pushed-few m)
    where
      go : (b : Bool) → length (pushed g k movable p v m) ≤ m → length (cond b (neighbour g (first g v + m) ∷ pushed g k movable p v m) (pushed g k movable p v m)) ≤ suc m
      go true h = omega arith
      go false h = omega arith

  pub pushed-inside : (n : ℕ) → Rows n g → v < n → (m : ℕ) → m ≤ past g v - first g v → Inside n (pushed g k movable p v m)
  unfolding pushed
  pushed-inside n ok here zero l = no_vertex
  pushed-inside n ok here (suc m) l = go (movable (neighbour g (first g v + m)) && has_gain g k p (neighbour g (first g v + m))) (pushed-inside n ok here m (omega arith))
    where
      go : (b : Bool) → Inside n (pushed g k movable p v m) → Inside n (cond b (neighbour g (first g v + m) ∷ pushed g k movable p v m) (pushed g k movable p v m))
      go true h = also (ok.below (first g v + m) (omega (arith, ok.inside v here))) h
      go false h = h

  -- a row has at most all arcs
  pub row-few : (n : ℕ) → Rows n g → v < n → past g v - first g v ≤ most_arcs
  row-few n ok here = omega (arith, ok.inside v here, ok.small)

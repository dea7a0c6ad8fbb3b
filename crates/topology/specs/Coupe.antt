-- The edge cut and the lambda cut in the words of coupe's comments (topology/mod.rs of the Rust), and the lambda cut as its code counts it.
use Rattle.std.specs.Prelude.{not, ◌||◌, List, ℕ, ◌-◌, ◌*◌, length, get_or, eqb}
use Rattle.lists.specs.Sum.{sum, weigh}
use Rattle.imbalance.specs.Load.{part}
use Rattle.topology.specs.Graph.{Graph, arcs}
use Rattle.topology.specs.Cut.{touches}

-- "the total weight of the edges that link graph nodes of different parts", over all arcs: an edge is two arcs, one each way, and counts twice
unfoldable pub linking : Graph → List ℕ → ℕ
linking g p = sum (length p) (λ u. arcs g u (λ v. not (eqb (part p v) (part p u))))

-- "the number of different parts in its neighborhood"
unfoldable pub parts_near : Graph → List ℕ → ℕ → ℕ
parts_near g p u = sum 16 (λ t. weigh (touches g p u t) 1)

-- "the sum, for each vertex, of the number of different parts in its neighborhood times its communication weight"
unfoldable pub lambda_near : Graph → List ℕ → List ℕ → ℕ
lambda_near g weights p = sum (length p) (λ u. parts_near g p u * get_or weights u 0)

-- the weight of the vertices that have a neighbour in their own part
unfoldable pub own_near : Graph → List ℕ → List ℕ → ℕ
own_near g weights p = sum (length p) (λ u. weigh (touches g p u (part p u)) (get_or weights u 0))

-- coupe's set `neighbor_parts`: the vertex's own part and those of its neighbours
unfoldable pub parts_with_own : Graph → List ℕ → ℕ → ℕ
parts_with_own g p u = sum 16 (λ t. weigh (eqb t (part p u) || touches g p u t) 1)

-- coupe's code: the sum of `neighbor_parts.len() - 1` times the vertex's weight
unfoldable pub lambda_counted : Graph → List ℕ → List ℕ → ℕ
lambda_counted g weights p = sum (length p) (λ u. (parts_with_own g p u - 1) * get_or weights u 0)

-- The gains that KL keeps, and the vertex that it takes (document 01, "KL").
use Rattle.std.specs.Prelude.{Bool, true, false, not, cond, ◌&&◌, List, ℕ, ◌*◌, length, get_or, eqb, ℤ, pos, ◌+ℤ◌, ◌-ℤ◌}
use Rattle.std.proofs.Math.Option.{Option}
use Rattle.std.proofs.Math.IntN.{sub_ℕ}
use Rattle.std.specs.Int.Signed.{le_z}
use Rattle.lists.specs.Best.{best}
use Rattle.lists.specs.Fill.{table}
use Rattle.imbalance.specs.Load.{part}
use Rattle.topology.specs.Graph.{Graph, arcs, into, joins}

-- what u gains by going to the other part: arc weight to vertices of another part less arc weight to those of its own
unfoldable pub fresh : Graph → List ℕ → ℕ → ℤ
fresh g p u = sub_ℕ (arcs g u (λ v. not (eqb (part p v) (part p u)))) (into g p u (part p u))

-- "at every swap, fresh gains are added onto what is there"
unfoldable pub added : Graph → List ℕ → List ℤ → List ℤ
added g p gains = table (length p) (λ u. get_or gains u (pos 0) +ℤ fresh g p u)

-- "for its neighbours add twice the arc weight if in its part, subtract it otherwise": v is taken, and joins g v u is the weight of its arcs to u, 0 where u is no neighbour
unfoldable pub updated : Graph → List ℕ → ℕ → List ℤ → List ℤ
updated g p v gains =
    table (length p) (λ u.
    cond (eqb (part p u) (part p v))
    (get_or gains u (pos 0) +ℤ pos (2 * joins g v u))
    (get_or gains u (pos 0) -ℤ pos (2 * joins g v u)))

-- whether a vertex with this label is on the side asked for: in the first part, or out of it
abbrev pub on_side : Bool → ℕ → ℕ → Bool
on_side true first label = eqb label first
on_side false first label = not (eqb label first)

-- "the largest .. among unlocked vertices, last index among equals": a lock is 0 where the vertex is unlocked
unfoldable pub largest : (ℕ → Bool) → ℕ → Bool → List ℕ → List ℤ → List ℕ → Option ℕ
largest movable first side p gains locks =
    best
    (λ v. movable v && (eqb (get_or locks v 0) 0 && on_side side first (part p v)))
    (λ i v. le_z (get_or gains v (pos 0)) (get_or gains i (pos 0)))
    (length p)

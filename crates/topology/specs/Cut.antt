-- Edge cut and lambda cut (document 01, "The graph and its numbers").
use Rattle.std.specs.Prelude.{Bool, not, ◌&&◌, List, ℕ, ◌*◌, length, get_or, ltb, eqb, ℤ}
use Rattle.std.proofs.Math.IntN.{sub_ℕ}
use Rattle.lists.specs.Sum.{sum, between, weigh}
use Rattle.lists.specs.All.{any_from}
use Rattle.imbalance.specs.Load.{part}
use Rattle.topology.specs.Graph.{Graph, first, past, neighbour, weight}

-- what arc e of row u counts in the cut: its weight, where it goes to a lower vertex of another part
abbrev pub crossing : Graph → List ℕ → ℕ → ℕ → ℕ
crossing g p u e = weigh (ltb (neighbour g e) u && not (eqb (part p (neighbour g e)) (part p u))) (weight g e)

abbrev pub row_cut : Graph → List ℕ → ℕ → ℕ
row_cut g p u = between (first g u) (past g u) (crossing g p u)

-- "Edge cut: each pair of different parts counted once, by its higher vertex" u
unfoldable pub cut : Graph → List ℕ → ℕ
cut g p = sum (length p) (row_cut g p)

-- how far the cut falls where the labels p become q, negative where it rises: `sub_ℕ a b` is the whole number a - b
abbrev pub fall : Graph → List ℕ → List ℕ → ℤ
fall g p q = sub_ℕ (cut g p) (cut g q)

-- u has a neighbour in part t
unfoldable pub touches : Graph → List ℕ → ℕ → ℕ → Bool
touches g p u t = any_from (first g u) (past g u) (λ e. eqb (part p (neighbour g e)) t)

-- "the number of parts among neighbours other than the vertex's own"
unfoldable pub parts_around : Graph → List ℕ → ℕ → ℕ
parts_around g p u = sum 16 (λ t. weigh (not (eqb t (part p u)) && touches g p u t) 1)

-- "Lambda cut: over vertices, the number of parts among neighbours other than the vertex's own, times its weight."
unfoldable pub lambda : Graph → List ℕ → List ℕ → ℕ
lambda g weights p = sum (length p) (λ u. parts_around g p u * get_or weights u 0)

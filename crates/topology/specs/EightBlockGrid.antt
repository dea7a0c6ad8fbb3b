-- The eight-block grid (document 01, "The eight-block grid"): 0-1-2-3, 4-5-6-7, 0-4, 1-5, 2-6, 3-7, weights 1.
use Rattle.std.specs.Prelude.{List, [], ◌∷◌, ℕ}
use Rattle.topology.specs.Graph.{Graph, in_rows}

abbrev pub grid : Graph
grid =
    in_rows
    (0 ∷ 2 ∷ 5 ∷ 8 ∷ 10 ∷ 12 ∷ 15 ∷ 18 ∷ 20 ∷ [])
    (1 ∷ 4 ∷ 0 ∷ 2 ∷ 5 ∷ 1 ∷ 3 ∷ 6 ∷ 2 ∷ 7 ∷ 0 ∷ 5 ∷ 1 ∷ 4 ∷ 6 ∷ 2 ∷ 5 ∷ 7 ∷ 3 ∷ 6 ∷ [])
    (1 ∷ 1 ∷ 1 ∷ 1 ∷ 1 ∷ 1 ∷ 1 ∷ 1 ∷ 1 ∷ 1 ∷ 1 ∷ 1 ∷ 1 ∷ 1 ∷ 1 ∷ 1 ∷ 1 ∷ 1 ∷ 1 ∷ 1 ∷ [])

abbrev pub ones : List ℕ
ones = 1 ∷ 1 ∷ 1 ∷ 1 ∷ 1 ∷ 1 ∷ 1 ∷ 1 ∷ []

abbrev pub A : List ℕ
A = 0 ∷ 0 ∷ 1 ∷ 1 ∷ 0 ∷ 1 ∷ 0 ∷ 1 ∷ []

abbrev pub B : List ℕ
B = 0 ∷ 0 ∷ 1 ∷ 1 ∷ 0 ∷ 0 ∷ 1 ∷ 1 ∷ []

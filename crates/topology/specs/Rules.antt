-- The rules of a graph, each in document 01's words ("The graph and its numbers"), and those of the stand-alone cuts by number.
use Rattle.std.specs.Prelude.{◌≡◌, List, [], ◌∷◌, ◌++◌, ℕ, ◌+◌, ◌≤◌, ◌<◌, length}
use Rattle.lists.specs.Sum.{total}
use Rattle.lists.specs.Smallest.{NoRule}
use Rattle.imbalance.specs.Limit.{most_vertices, most_arcs, most_weight}
use Rattle.imbalance.specs.Rules.{NoneAbove}
use Rattle.topology.specs.Graph.{Graph, first, past, neighbour, weight}

-- 1: "n+1 row starts, a neighbours and a arc weights"
pub record Lengths (n : ℕ) (g : Graph) : Type 0 where
  pub started : length g.starts ≡ n + 1
  pub paired : length g.neighbours ≡ length g.weights

-- 2: "n at most 4,096; a at most 65,535"
pub record Limits (n : ℕ) (g : Graph) : Type 0 where
  pub few : n ≤ most_vertices
  pub few_arcs : length g.neighbours ≤ most_arcs

-- arc e stands in row u
abbrev pub InRow : Graph → ℕ → ℕ → Type 0
InRow g u e = (first g u ≤ e) × (e < past g u)

-- 3: "Starts begin at 0, never fall and end at a. Each row's neighbours rise strictly, are below n, and are not the row itself."
pub record RowRules (n : ℕ) (g : Graph) : Type 0 where
  pub begin : first g 0 ≡ 0
  pub climb : (u : ℕ) → u < n → first g u ≤ past g u
  pub end : first g n ≡ length g.neighbours
  pub rise : (u d e : ℕ) → u < n → InRow g u d → InRow g u e → d < e → neighbour g d < neighbour g e
  pub below : (u e : ℕ) → u < n → InRow g u e → neighbour g e < n
  pub other : (u e : ℕ) → u < n → InRow g u e → neighbour g e ≡ u → ⊥

-- an arc of row v to u of weight w
abbrev pub Arc : Graph → ℕ → ℕ → ℕ → Type 0
Arc g v u w = (e : ℕ) × (InRow g v e) × (neighbour g e ≡ u) × (weight g e ≡ w)

-- 4: "Arc u to v needs arc v to u of equal weight"
abbrev pub Opposites : ℕ → Graph → Type 0
Opposites n g = (u e : ℕ) → u < n → InRow g u e → Arc g (neighbour g e) u (weight g e)

-- the rules of a graph of n vertices, by number
abbrev pub rows_rules : ℕ → Graph → List (Type 0)
rows_rules n g = NoRule ∷ Lengths n g ∷ Limits n g ∷ RowRules n g ∷ Opposites n g ∷ []

-- the same with the vertex weights: 1 asks for n of them too, and 5 is "The vertex weights sum to at most 2,147,483,647, and so do the arc weights."
abbrev pub graph_rules : ℕ → List ℕ → Graph → List (Type 0)
graph_rules n weights g =
    NoRule
    ∷ ((length weights ≡ n) × Lengths n g)
    ∷ Limits n g
    ∷ RowRules n g
    ∷ Opposites n g
    ∷ ((total weights ≤ most_weight) × (total g.weights ≤ most_weight))
    ∷ []

-- the rules of the stand-alone edge cut, which takes no vertex weights: 5 of the arcs alone, and 6
abbrev pub edge_cut_rules : Graph → List ℕ → List (Type 0)
edge_cut_rules g labels = rows_rules (length labels) g ++ (total g.weights ≤ most_weight) ∷ NoneAbove 15 labels ∷ []

-- the rules of the stand-alone lambda cut: all of 1 to 5, and 6
abbrev pub lambda_cut_rules : Graph → List ℕ → List ℕ → List (Type 0)
lambda_cut_rules g weights labels = graph_rules (length labels) weights g ++ NoneAbove 15 labels ∷ []

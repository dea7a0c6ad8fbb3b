-- The tests of a graph (document 01, "The graph and its numbers"): numbers 1 to 5, each as its line of the table. Rules.antt has the rules that they test.
use Rattle.std.specs.Prelude.{◌≡◌, Bool, not, cond, ◌&&◌, ◌||◌, List, ℕ, ◌+◌, ◌-◌, ◌≤◌, ◌<◌, length, ltb, leb, eqb}
use Rattle.lists.specs.All.{all, all_from, any_from}
use Rattle.lists.specs.Number.{or_else}
use Rattle.lists.specs.Sum.{total}
use Rattle.imbalance.specs.Limit.{most_vertices, most_arcs, most_weight, heavy}
use Rattle.topology.specs.Graph.{Graph, first, past, neighbour, weight, joins}

-- 1: "starts not n+1, or neighbours and arc weights differ in count"
unfoldable pub misfit : ℕ → Graph → Bool
misfit n g = not (eqb (length g.starts) (n + 1)) || not (eqb (length g.neighbours) (length g.weights))

-- 2: "n or a over its limit"
unfoldable pub oversize : ℕ → ℕ → Bool
oversize n a = ltb most_vertices n || ltb most_arcs a

-- a start is not above the next
abbrev pub falls_not : Graph → ℕ → Bool
falls_not g u = leb (first g u) (past g u)

-- "Starts begin at 0, never fall and end at a."
unfoldable pub starts_ok : ℕ → Graph → Bool
starts_ok n g = eqb (first g 0) 0 && eqb (first g n) (length g.neighbours) && all n (falls_not g)

-- "Each row's neighbours rise strictly, are below n, and are not the row itself": arc e of row u, whose first arc is `lo`
unfoldable pub arc_ok : ℕ → Graph → ℕ → ℕ → ℕ → Bool
arc_ok n g u lo e =
    ltb (neighbour g e) n && not (eqb (neighbour g e) u) && (eqb e lo || ltb (neighbour g (e - 1)) (neighbour g e))

abbrev pub row_ok : ℕ → Graph → ℕ → Bool
row_ok n g u = all_from (first g u) (past g u) (arc_ok n g u (first g u))

-- 3 is the number where these rules do not all hold
unfoldable pub rows_ok : ℕ → Graph → Bool
rows_ok n g = starts_ok n g && all n (row_ok n g)

-- row v has an arc to u of weight w
unfoldable pub has_arc : Graph → ℕ → ℕ → ℕ → Bool
has_arc g v u w = any_from (first g v) (past g v) (λ e. eqb (neighbour g e) u && eqb (weight g e) w)

-- "Arc u to v needs arc v to u of equal weight": every arc of row u
abbrev pub row_answered : Graph → ℕ → Bool
row_answered g u = all_from (first g u) (past g u) (λ e. has_arc g (neighbour g e) u (weight g e))

-- 4 is the number where an arc has no equal opposite
unfoldable pub answered : ℕ → Graph → Bool
answered n g = all n (row_answered g)

-- the first of 1 to 4 that applies to a graph of n vertices, else 0
unfoldable pub rows_number : ℕ → Graph → ℕ
rows_number n g =
    cond (misfit n g) 1
    (cond (oversize n (length g.neighbours)) 2
    (cond (not (rows_ok n g)) 3
    (cond (not (answered n g)) 4 0)))

-- the first of 1 to 5 that applies to a graph of n vertices with their weights, else 0: "weights not n" joins 1, "a weight sum over its limit" is 5
unfoldable pub graph_number : ℕ → List ℕ → Graph → ℕ
graph_number n weights g =
    cond (not (eqb (length weights) n)) 1
    (or_else (rows_number n g)
    (cond (heavy weights || heavy g.weights) 5 0))

-- What follows where 1, 2 and 3 do not apply, and what the loops ask: every row within the arcs, every neighbour a vertex. The rules themselves are `Lengths`, `Limits` and `RowRules` of Rules.antt.
pub record Rows (n : ℕ) (g : Graph) : Type 0 where
  pub few : n ≤ most_vertices
  pub counted : length g.starts ≡ n + 1
  pub paired : length g.weights ≡ length g.neighbours
  pub small : length g.neighbours ≤ most_arcs
  pub rise : (u : ℕ) → u < n → first g u ≤ past g u
  pub inside : (u : ℕ) → u < n → past g u ≤ length g.neighbours
  pub below : (e : ℕ) → e < length g.neighbours → neighbour g e < n

-- A symmetric graph without loops: every arc goes to one of the n vertices, equal weights both ways, none to itself.
pub record Symmetric (n : ℕ) (g : Graph) : Type 0 where
  pub below : (u e : ℕ) → u < n → first g u ≤ e → e < past g u → neighbour g e < n
  pub equal : (u x : ℕ) → u < n → x < n → joins g u x ≡ joins g x u
  pub loopless : (u : ℕ) → u < n → joins g u u ≡ 0

-- What follows where no number from 1 to 5 applies, and what the refiners ask. The rules themselves are `graph_rules` of Rules.antt.
pub record Sound (n : ℕ) (weights : List ℕ) (g : Graph) : Type 0 where
  pub rows : Rows n g
  pub symmetric : Symmetric n g
  pub weighed : length weights ≡ n
  pub light : total weights ≤ most_weight
  pub light_arcs : total g.weights ≤ most_weight

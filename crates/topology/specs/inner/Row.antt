-- What a walk over the arcs of a row asks of the lists, and the bounds on what it sums.
use Rattle.std.specs.Prelude.{◌≡◌, List, ℕ, ◌+◌, ◌*◌, ◌^◌, ◌≤◌, ◌<◌, length, get_or}
use Rattle.imbalance.specs.Limit.{most_arcs}

-- every u32 is below it
abbrev pub word_bound : ℕ
word_bound = 2 ^ 32

-- what at most 65,535 arcs weigh, each of 32 bits
abbrev pub row_bound : ℕ
row_bound = word_bound * 2 ^ 16

-- The arcs from a up to b stand in the list, and each goes to one of the n vertices; past the list a neighbour reads as 0, which is one of them too.
pub record Row (n : ℕ) (neighbours : List ℕ) (a b : ℕ) : Type 0 where
  pub ordered : a ≤ b
  pub inside : b ≤ length neighbours
  pub few : length neighbours ≤ most_arcs
  pub below : (e : ℕ) → get_or neighbours e 0 < n

-- Every vertex has such a row, from its start up to the next.
pub record RowsAlone (n : ℕ) (starts neighbours : List ℕ) : Type 0 where
  pub counted : length starts ≡ n + 1
  pub row : (u : ℕ) → u < n → Row n neighbours (get_or starts u 0) (get_or starts (u + 1) 0)

-- What looking an arc up by halving its row asks and answers.
use Rattle.std.specs.Prelude.{◌≡◌, List, ℕ, ◌+◌, ◌-◌, ◌≤◌, ◌<◌, length, get_or}
use Rattle.topology.specs.inner.Row.{Row}

-- the neighbours from lo up to hi stand in the list and rise strictly
pub record Rises (neighbours : List ℕ) (lo hi : ℕ) : Type 0 where
  pub ordered : lo ≤ hi
  pub inside : hi ≤ length neighbours
  pub rises : (i j : ℕ) → lo ≤ i → i < j → j < hi → get_or neighbours i 0 < get_or neighbours j 0

-- r parts the row: below u before it, u or above from it on
pub record Halved (neighbours : List ℕ) (lo hi u r : ℕ) : Type 0 where
  pub from : lo ≤ r
  pub upto : r ≤ hi
  pub under : (e : ℕ) → lo ≤ e → e < r → get_or neighbours e 0 < u
  pub over : (e : ℕ) → r ≤ e → e < hi → u ≤ get_or neighbours e 0

-- What looking up the opposites of the arcs from lo up to hi asks: each goes to one of the vertices, of which there is one fewer than starts, and every row rises.
pub record Answerable (starts neighbours weights : List ℕ) (lo hi : ℕ) : Type 0 where
  pub row : Row (length starts - 1) neighbours lo hi
  pub rises : (v : ℕ) → v + 1 < length starts → Rises neighbours (get_or starts v 0) (get_or starts (v + 1) 0)
  pub paired : length weights ≡ length neighbours

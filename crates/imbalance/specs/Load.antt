-- The load of each part (document 01, "Part loads are one record of sixteen numbers by value").
use Rattle.std.specs.Prelude.{◌≡◌, ℕ, ◌≤◌, false, List, length, ◌==◌, slice_index}
use Rattle.lists.specs.Sum.{sum, weigh, total}
use Rattle.lists.specs.Fill.{table}
use Rattle.imbalance.specs.Limit.{most_vertices, most_weight, label_above}
use Rattle.imbalance.specs.declared.Loads.{Loads}

-- the part that v's label names
abbrev pub part : List ℕ → ℕ → ℕ
part labels v = slice_index labels v

-- the vertex weights of part t, summed
unfoldable pub load : List ℕ → List ℕ → ℕ → ℕ
load weights labels t = sum (length labels) (λ v. weigh (part labels v == t) (slice_index weights v))

-- one record of sixteen numbers
abbrev pub loads_of : List ℕ → List ℕ → Loads
loads_of weights labels = record { at = table 16 (load weights labels) }

-- What the unchecked functions ask: one weight a label, few enough vertices, weights within the limit, labels below 16.
pub record Loadable (weights labels : List ℕ) : Type 0 where
  pub paired : length weights ≡ length labels
  pub few : length labels ≤ most_vertices
  pub light : total weights ≤ most_weight
  pub named : label_above 15 labels ≡ false

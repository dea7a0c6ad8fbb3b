-- The rules of weights, labels and a ceiling's settings, each in document 01's words, and those of the stand-alone loads by number.
use Rattle.std.specs.Prelude.{◌≡◌, ℕ, ◌<◌, ◌≤◌, true, List, [], ◌∷◌, length, slice_index}
use Rattle.std.specs.Float.Ieee.{le}
use Rattle.lists.specs.Sum.{total}
use Rattle.lists.specs.Smallest.{NoRule}
use Rattle.imbalance.specs.Limit.{most_vertices, most_weight}
use Rattle.imbalance.specs.Ceiling.{zero64, most64}
use Rattle.imbalance.specs.declared.Ceiling.{Ceiling}

-- 6: no label is above `most`
abbrev pub NoneAbove : ℕ → List ℕ → Type 0
NoneAbove most labels = (v : ℕ) → v < length labels → slice_index labels v ≤ most

-- 7, of the ceiling: not "choice 2 with e NaN, below 0 or above 64", nor a choice from 4 on, where document 02's A4 has it begin. "Legal e: 0.0 to 64.0, both ends and -0.0 in."
pub record FitChoice (asked : Ceiling) : Type 0 where
  pub known : asked.choice ≤ 3
  pub least : asked.choice ≡ 2 → le zero64 asked.imbalance ≡ true
  pub most : asked.choice ≡ 2 → le asked.imbalance most64 ≡ true

-- the rules of the stand-alone loads, which "refuse by 1 to 5, as far as their inputs show these, then 6 for a label above 15"
abbrev pub loads_rules : List ℕ → List ℕ → List (Type 0)
loads_rules weights labels =
    NoRule
    -- 1: n weights
    ∷ (length weights ≡ length labels)
    -- 2: "n at most 4,096"
    ∷ (length labels ≤ most_vertices)
    -- 3 and 4 are of the graph
    ∷ NoRule
    ∷ NoRule
    -- 5: "The vertex weights sum to at most 2,147,483,647"
    ∷ (total weights ≤ most_weight)
    -- 6
    ∷ NoneAbove 15 labels
    ∷ []

-- The limits on counts, weights and labels (document 01, "The graph and its numbers" and "Numbers a call gives back").
use Rattle.std.specs.Prelude.{ℕ, Bool, ltb, List, length, nat_lt, slice_index}
use Rattle.lists.specs.Sum.{total}
use Rattle.lists.specs.All.{any}

-- "n at most 4,096"
abbrev pub most_vertices : ℕ
most_vertices = 4096

-- "a at most 65,535"
abbrev pub most_arcs : ℕ
most_arcs = 65535

-- "The vertex weights sum to at most 2,147,483,647, and so do the arc weights."
abbrev pub most_weight : ℕ
most_weight = 2147483647

-- "pass limit above 1,024 (FM, KL)" is number 7
abbrev pub most_passes : ℕ
most_passes = 1024

-- number 5's test of one list: its weights sum to more than the limit
unfoldable pub heavy : List ℕ → Bool
heavy ws = nat_lt most_weight (total ws)

-- number 6's test: some label is above `most`
unfoldable pub label_above : ℕ → List ℕ → Bool
label_above most labels = any (length labels) (λ v. ltb most (slice_index labels v))

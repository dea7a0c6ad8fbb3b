-- The rules of a call of KL, by document 01's numbers.
use Rattle.std.specs.Prelude.{◌≡◌, List, [], ◌∷◌, ◌++◌, ◌⊎◌, ℕ, ◌/◌, ◌≤◌, ◌<◌, length}
use Rattle.imbalance.specs.Limit.{most_passes}
use Rattle.imbalance.specs.Load.{part}
use Rattle.imbalance.specs.Rules.{NoneAbove}
use Rattle.topology.specs.Rules.{graph_rules}
use Rattle.topology.specs.Given.{graph_of}
use Rattle.kernighan_lin.specs.Entry.{Given, Lent}

-- some vertex has label t
abbrev pub Occurs : List ℕ → ℕ → Type 0
Occurs labels t = (v : ℕ) × (v < length labels) × (part labels v ≡ t)

-- "exactly two different labels": two labels that differ occur, and every vertex has one of them
pub record TwoLabels (labels : List ℕ) : Type 0 where
  pub one : ℕ
  pub two : ℕ
  pub differ : one ≡ two → ⊥
  pub one_occurs : Occurs labels one
  pub two_occurs : Occurs labels two
  pub no_other : (v : ℕ) → v < length labels → (part labels v ≡ one) ⊎ (part labels v ≡ two)

-- 6: not "above 15, or not exactly two different labels"
pub record Labelled (labels : List ℕ) : Type 0 where
  pub none_above : NoneAbove 15 labels
  pub two_labels : TwoLabels labels

-- 8: no "lent working list is too short". "Lists: gains n, locks n, swaps n/2 rounded down."
pub record LongEnough (l : Lent) : Type 0 where
  pub gains : length l.labels ≤ length l.gains
  pub locks : length l.labels ≤ length l.locks
  pub swaps : length l.labels / 2 ≤ length l.swaps

-- 1 to 5 of the graph; 6; 7 is a "pass limit above 1,024"; 8
abbrev pub rules : Given → Lent → List (Type 0)
rules p l =
    graph_rules (length l.labels) p.weights (graph_of p)
    ++ Labelled l.labels ∷ (p.settings.passes ≤ most_passes) ∷ LongEnough l ∷ []

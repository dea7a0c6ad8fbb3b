-- The rules of a call of arc-swap, by document 01's numbers.
use Rattle.std.specs.Prelude.{List, [], ◌∷◌, ◌++◌, ℕ, length}
use Rattle.imbalance.specs.Rules.{NoneAbove, FitChoice}
use Rattle.topology.specs.Rules.{graph_rules}
use Rattle.topology.specs.Given.{graph_of}
use Rattle.arc_swap.specs.Entry.{Given}

-- 1 to 5 of the graph; 6 is a label "above 15"; 7, of the ceiling's choice. The stack "never gives 8".
abbrev pub rules : Given → List ℕ → List (Type 0)
rules p labels =
    graph_rules (length labels) p.weights (graph_of p)
    ++ NoneAbove 15 labels ∷ FitChoice p.settings.ceiling ∷ []

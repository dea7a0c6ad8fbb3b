-- The rules of a call of FM, by document 01's numbers.
use Rattle.std.specs.Prelude.{List, [], ◌∷◌, ◌++◌, ℕ, ◌≤◌, length}
use Rattle.imbalance.specs.Limit.{most_passes}
use Rattle.imbalance.specs.Rules.{NoneAbove, FitChoice}
use Rattle.topology.specs.Rules.{graph_rules}
use Rattle.fiduccia_mattheyses.specs.declared.Settings.{Settings}
use Rattle.topology.specs.Given.{graph_of}
use Rattle.fiduccia_mattheyses.specs.Entry.{Given, Lent}

-- 7: not "pass limit above 1,024", and the ceiling's choice is fit
pub record FitSettings (s : Settings) : Type 0 where
  pub few_passes : s.passes ≤ most_passes
  pub fit_choice : FitChoice s.ceiling

-- 8: no "lent working list is too short". "Lists: gains n, moves n, two row lists of P."
pub record LongEnough (passes : ℕ) (l : Lent) : Type 0 where
  pub gains : length l.labels ≤ length l.gains
  pub moves : length l.labels ≤ length l.moves
  pub made : passes ≤ length l.made
  pub rewound : passes ≤ length l.rewound

-- 1 to 5 of the graph; 6 is a "label above 1"; 7 and 8
abbrev pub rules : Given → Lent → List (Type 0)
rules p l =
    graph_rules (length l.labels) p.weights (graph_of p)
    ++ NoneAbove 1 l.labels ∷ FitSettings p.settings ∷ LongEnough p.settings.passes l ∷ []

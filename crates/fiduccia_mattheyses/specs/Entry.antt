-- The call of FM: its number, its report, and what it leaves in each lent list (document 01, "FM" and "Numbers a call gives back").
use Rattle.std.specs.Prelude.{◌≡◌, Bool, true, cond, ◌||◌, List, map, ℕ, length, ltb, eqb, ℤ, pos}
use Rattle.lists.specs.Sum.{total}
use Rattle.lists.specs.Fill.{filled, table, over}
use Rattle.lists.specs.Number.{or_else}
use Rattle.imbalance.specs.Limit.{most_passes, label_above}
use Rattle.imbalance.specs.Load.{load, loads_of}
use Rattle.imbalance.specs.Ceiling.{unfit_choice, ceilings}
use Rattle.imbalance.specs.Number.{no_loads}
use Rattle.topology.specs.Graph.{Graph}
use Rattle.topology.specs.Given.{GivenWith, graph_of}
use Rattle.topology.specs.Rule.{graph_number}
use Rattle.topology.specs.Cut.{cut}
use Rattle.fiduccia_mattheyses_pass.specs.declared.Move.{Move}
use Rattle.fiduccia_mattheyses.specs.declared.Settings.{Settings}
use Rattle.fiduccia_mattheyses.specs.declared.Report.{Report}
use Rattle.fiduccia_mattheyses.specs.declared.Lengths.{Lengths}
use Rattle.fiduccia_mattheyses_choice.specs.Choice.{Terms}
use Rattle.fiduccia_mattheyses_pass.specs.Pass.{Pass, no_move}
use Rattle.fiduccia_mattheyses.specs.Run.{Run, run}

-- what is only read
abbrev pub Given : Type 0
Given = GivenWith Settings

-- the same, but for the move limit
abbrev pub with_moves : Given → ℕ → Given
with_moves p k =
    record {
      starts = p.starts;
      neighbours = p.neighbours;
      arcs = p.arcs;
      weights = p.weights;
      settings = record { passes = p.settings.passes; moves = k; bad = p.settings.bad; ceiling = p.settings.ceiling };
    }

-- what is lent: the labels, the gains, the moves and the two row lists
pub record Lent : Type 0 where
  pub labels : List ℕ
  pub gains : List ℤ
  pub moves : List Move
  pub made : List ℕ
  pub rewound : List ℕ

-- 7: "pass limit above 1,024 (FM, KL); choice 2 with e NaN, below 0 or above 64" (FM, arc-swap), and "7 and 12 now begin at choice 4"
unfoldable pub unfit : Settings → Bool
unfit s = ltb most_passes s.passes || unfit_choice s.ceiling

-- the lengths of the lent lists
abbrev pub lengths_of : Lent → Lengths
lengths_of l = record { gains = length l.gains; moves = length l.moves; made = length l.made; rewound = length l.rewound }

-- 8: "a lent working list is too short". "Lists: gains n, moves n, two row lists of P."
unfoldable pub short : ℕ → ℕ → Lengths → Bool
short n passes lengths = ltb lengths.gains n || (ltb lengths.moves n || (ltb lengths.made passes || ltb lengths.rewound passes))

-- "The smallest number that applies is given; 0 only if none does."
unfoldable pub number_of : Graph → List ℕ → List ℕ → Lengths → Settings → ℕ
number_of g weights labels lengths s =
    or_else (graph_number (length labels) weights g)
    (cond (label_above 1 labels) 6
    (cond (unfit s) 7
    (cond (short (length labels) s.passes lengths) 8 0)))

abbrev pub number : Given → Lent → ℕ
number p l = number_of (graph_of p) p.weights l.labels (lengths_of l) p.settings

-- what stands still during the run: the ceilings are worked out once, from the loads at the start, over 2 parts; every vertex may move
abbrev pub terms_of : Given → Lent → Terms
terms_of p l =
    record {
      graph = graph_of p;
      weights = p.weights;
      ceilings = ceilings (table 16 (load p.weights l.labels)) (total p.weights) 2 p.settings.ceiling;
      movable = λ v. true;
      bad_limit = p.settings.bad;
      move_limit = p.settings.moves;
    }

-- the run that the call makes
abbrev pub run_of : Given → Lent → Run
run_of p l = run (terms_of p l) p.settings.passes l.labels

-- a report of zeros but for the number and the end
abbrev pub bare : ℕ → ℕ → Report
bare number end = record { number = number; end = end; passes = 0; first = 0; last = 0; loads = no_loads }

-- "A refusal writes nothing anywhere and answers a zero report" with its number
abbrev pub refused : ℕ → Report
refused number = bare number 0

-- "FM and arc-swap with n = 0 come before all checks: done, end 3, all else zero"
abbrev pub empty : Report
empty = bare 0 3

-- "Report: end, passes, first and last cut, loads."
unfoldable pub report_of : Given → Lent → Report
report_of p l =
    record {
      number = 0;
      end = (run_of p l).end;
      passes = length (run_of p l).rows;
      first = cut (graph_of p) l.labels;
      last = cut (graph_of p) (run_of p l).labels;
      loads = loads_of p.weights (run_of p l).labels;
    }

-- "After a done call, the gain, move, lock and swap lists hold zeros up to the needed length and are unchanged past it." "Rows after the last pass keep their values."
unfoldable pub left_by : Given → Lent → Lent
left_by p l =
    record {
      labels = (run_of p l).labels;
      gains = filled (pos 0) (length l.labels) l.gains;
      moves = filled no_move (length l.labels) l.moves;
      made = over (map (λ (r : Pass). r.made) (run_of p l).rows) l.made;
      rewound = over (map (λ (r : Pass). r.rewound) (run_of p l).rows) l.rewound;
    }

-- THE ANSWER
unfoldable pub answer : Given → Lent → Report
answer p l =
    cond (eqb (length l.labels) 0) empty
    (cond (eqb (number p l) 0) (report_of p l)
    (refused (number p l)))

-- THE LISTS: a refusal and n = 0 write nothing
unfoldable pub left : Given → Lent → Lent
left p l =
    cond (eqb (length l.labels) 0) l
    (cond (eqb (number p l) 0) (left_by p l)
    l)

-- THE PROMISE: of what is given p, the lists l at entry, a report r and the lists k at exit
pub record Refined (p : Given) (l : Lent) (r : Report) (k : Lent) : Type 0 where
  pub answered : r ≡ answer p l
  pub labels : k.labels ≡ (left p l).labels
  pub gains : k.gains ≡ (left p l).gains
  pub moves : k.moves ≡ (left p l).moves
  pub made : k.made ≡ (left p l).made
  pub rewound : k.rewound ≡ (left p l).rewound

-- What the functions inside the entry ask and answer: where a run begins, a pass's row, the passes, the run.
use Rattle.std.specs.Prelude.{◌≡◌, false, List, map, ℕ, ◌+◌, ◌-◌, ◌≤◌, ◌<◌, length, set, drop, ℤ}
use Rattle.lists.specs.Fill.{table, over}
use Rattle.lists.specs.Sum.{total}
use Rattle.imbalance.specs.Limit.{most_vertices, most_passes, label_above}
use Rattle.imbalance.specs.Ceiling.{unfit_choice, ceilings}
use Rattle.topology.specs.Rule.{Sound}
use Rattle.imbalance.specs.Load.{load, loads_of}
use Rattle.topology.specs.Cut.{cut}
use Rattle.fiduccia_mattheyses_choice.specs.Choice.{Terms}
use Rattle.fiduccia_mattheyses_pass.specs.Pass.{Pass}
use Rattle.fiduccia_mattheyses_pass.specs.declared.Move.{Move}
use Rattle.fiduccia_mattheyses.specs.declared.Ended.{Ended}
use Rattle.fiduccia_mattheyses.specs.declared.Begun.{Begun}
use Rattle.lists.specs.End.{end_number}
use Rattle.fiduccia_mattheyses.specs.Run.{run}
use Rattle.topology.specs.Given.{graph_of}
use Rattle.fiduccia_mattheyses.specs.Entry.{Given, Lent, report_of, left_by}
use Rattle.fiduccia_mattheyses.specs.declared.Report.{Report}
use Rattle.fiduccia_mattheyses_pass.specs.inner.Steps.{PassAsked}

-- What beginning a run asks: none of the numbers 1 to 7.
pub record Beginnable (p : Given) (labels : List ℕ) : Type 0 where
  pub sound : Sound (length labels) p.weights (graph_of p)
  pub labelled : label_above 1 labels ≡ false
  pub fit : unfit_choice p.settings.ceiling ≡ false

-- What a run begins with: the ceilings, the limits of the settings, and the loads and the cut of the labels.
pub record Begins (p : Given) (labels : List ℕ) (b : Begun) : Type 0 where
  pub capped : b.limits.ceilings.at ≡ ceilings (table 16 (load p.weights labels)) (total p.weights) 2 p.settings.ceiling
  pub bad_is : b.limits.bad ≡ p.settings.bad
  pub moves_are : b.limits.moves ≡ p.settings.moves
  pub loaded : b.loads ≡ loads_of p.weights labels
  pub cut_is : b.cut ≡ cut (graph_of p) labels

-- What a pass's row asks: a place in both lists, and counts that fit.
pub record RowAsked (rows_made rows-rewound : List ℕ) (passes made kept : ℕ) : Type 0 where
  pub in_made : passes < length rows_made
  pub in_rewound : passes < length rows-rewound
  pub few_passes : passes < most_passes
  pub few : made ≤ most_vertices
  pub kept_within : kept ≤ made

-- What it answers: "Row: moves made, moves rewound", and the passes made then.
pub record RowDone (rows_made rows-rewound : List ℕ) (passes made kept : ℕ) (rows-made' rows-rewound' : List ℕ) (r : ℕ) : Type 0 where
  pub made_are : rows-made' ≡ set rows_made passes made
  pub rewound_are : rows-rewound' ≡ set rows-rewound passes (made - kept)
  pub passes_are : r ≡ passes + 1

-- What the passes ask besides: a place for a row a pass.
pub record PassesAsked (s : Terms) (limit : ℕ) (labels : List ℕ) (gains : List ℤ) (moves : List Move) (made rewound loads : List ℕ) (cut₀ : ℕ) : Type 0 where
  pub begun : PassAsked s labels gains moves loads cut₀
  pub in_made : limit ≤ length made
  pub in_rewound : limit ≤ length rewound
  pub few_passes : limit ≤ most_passes

-- What the passes answer: the defined run from p, its rows written, the cut and the loads of the labels left.
pub record PassesDone (s : Terms) (limit : ℕ) (p : List ℕ) (moves₀ : List Move) (made₀ rewound₀ labels : List ℕ) (moves : List Move) (made rewound : List ℕ) (r : Ended) : Type 0 where
  pub labelled : labels ≡ (run s limit p).labels
  pub end_is : end_number r.end ≡ (run s limit p).end
  pub passes_are : r.passes ≡ length (run s limit p).rows
  pub cut_is : r.cut ≡ cut s.graph labels
  pub loaded : r.loads.at ≡ table 16 (load s.weights labels)
  pub made_are : made ≡ over (map (λ (x : Pass). x.made) (run s limit p).rows) made₀
  pub rewound_are : rewound ≡ over (map (λ (x : Pass). x.rewound) (run s limit p).rows) rewound₀
  pub moves_long : length moves ≡ length moves₀
  pub moves_past : drop (length p) moves ≡ drop (length p) moves₀

-- What the run asks: a vertex, and no number that applies.
pub record Ready (p : Given) (l : Lent) : Type 0 where
  pub a_vertex : 0 < length l.labels
  pub beginnable : Beginnable p l.labels
  pub few_passes : p.settings.passes ≤ most_passes
  pub in_gains : length l.labels ≤ length l.gains
  pub in_moves : length l.labels ≤ length l.moves
  pub in_made : p.settings.passes ≤ length l.made
  pub in_rewound : p.settings.passes ≤ length l.rewound

-- What the run answers.
pub record Ran (p : Given) (l : Lent) (r : Report) (k : Lent) : Type 0 where
  pub answered : r ≡ report_of p l
  pub labels : k.labels ≡ (left_by p l).labels
  pub gains : k.gains ≡ (left_by p l).gains
  pub moves : k.moves ≡ (left_by p l).moves
  pub made : k.made ≡ (left_by p l).made
  pub rewound : k.rewound ≡ (left_by p l).rewound

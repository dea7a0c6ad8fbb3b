-- How many passes and moves a run has: "Passes are at most starting cut + 1; moves in a pass at most n." (document 01, "FM").
use Rattle.std.specs.Prelude.{◌≡◌, Bool, true, ◌&&◌, List, [], ◌∷◌, ℕ, ◌+◌, ◌≤◌, ◌<◌, length, get_or, leb}
use Rattle.fiduccia_mattheyses_pass.specs.Pass.{Pass}
use Rattle.fiduccia_mattheyses.specs.declared.Report.{Report}
use Rattle.fiduccia_mattheyses.specs.Entry.{Given, Lent}

-- no pass makes more than n moves, or rewinds more than it made
unfoldable pub counted : ℕ → List Pass → Bool
counted n [] = true
counted n (r ∷ rows) = leb r.made n && leb r.rewound r.made && counted n rows

-- The counts of a call that is done: of what is given p, the lists l at entry, the report r and the lists k at exit.
pub record CountsKept (p : Given) (l : Lent) (r : Report) (k : Lent) : Type 0 where
  -- "Passes are at most starting cut + 1", and at most the pass limit; with n = 0 there are none
  pub passes : r.passes ≤ r.first + 1
  pub limit : r.passes ≤ p.settings.passes
  pub no_vertex : length l.labels ≡ 0 → r.passes ≡ 0
  -- each pass has its row in both lists
  pub in_made : r.passes ≤ length k.made
  pub in_rewound : r.passes ≤ length k.rewound
  -- "moves in a pass at most n", and no pass rewinds more moves than it made
  pub made : (i : ℕ) → i < r.passes → get_or k.made i 0 ≤ length l.labels
  pub rewound : (i : ℕ) → i < r.passes → get_or k.rewound i 0 ≤ get_or k.made i 0

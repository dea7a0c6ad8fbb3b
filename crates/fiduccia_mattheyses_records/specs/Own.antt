-- The call of FM whose list of move records is the function's own (document 01, "FM": "The moves of a pass stand in a lent list of move records").
use Rattle.std.specs.Prelude.{◌≡◌, List, ℕ, replicate, ℤ}
use Rattle.fiduccia_mattheyses_pass.specs.declared.Move.{Move}
use Rattle.fiduccia_mattheyses.specs.declared.Report.{Report}
use Rattle.fiduccia_mattheyses_pass.specs.Pass.{no_move}
use Rattle.fiduccia_mattheyses.specs.Entry.{Given, Lent, answer, left}

-- what the caller lends: every list of FM's but the moves
pub record Lists : Type 0 where
  pub labels : List ℕ
  pub gains : List ℤ
  pub made : List ℕ
  pub rewound : List ℕ

-- m records of no move
abbrev pub blank : ℕ → List Move
blank m = replicate m no_move

-- what FM is lent: the caller's lists, and m records of no move
abbrev pub lent_with : ℕ → Lists → Lent
lent_with m l = record { labels = l.labels; gains = l.gains; moves = blank m; made = l.made; rewound = l.rewound }

-- THE PROMISE: of m records, what is given p, the lists l at entry, a report r and the lists k at exit. It is FM's, with the records lent as m of no move; fewer records than vertices give number 8.
pub record RefinedWith (m : ℕ) (p : Given) (l : Lists) (r : Report) (k : Lists) : Type 0 where
  pub answered : r ≡ answer p (lent_with m l)
  pub labels : k.labels ≡ (left p (lent_with m l)).labels
  pub gains : k.gains ≡ (left p (lent_with m l)).gains
  pub made : k.made ≡ (left p (lent_with m l)).made
  pub rewound : k.rewound ≡ (left p (lent_with m l)).rewound

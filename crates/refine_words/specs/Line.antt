-- The lines that the refine program prints (document 01, the end of "The eight-block grid": "Fields: end; first and last cut; load of each part of the run; passes; moves and rewound moves; labels").
use Rattle.std.specs.Prelude.{List, [], ◌∷◌, ◌++◌, ℕ, zero, suc, get_or}
use Rattle.refine_words.specs.Text.{ascii, line}

-- "A refusal prints only `refused` and the number."
unfoldable pub refusal : ℕ → List ℕ
refusal number = line (ascii "refused") (number ∷ [])

-- `end`
unfoldable pub end_line : ℕ → List ℕ
end_line end = line (ascii "end") (end ∷ [])

-- `cut`: "first and last cut"
unfoldable pub cut_line : ℕ → ℕ → List ℕ
cut_line first last = line (ascii "cut") (first ∷ last ∷ [])

-- `loads`: "load of each part of the run"
unfoldable pub loads_line : List ℕ → List ℕ
loads_line loads = line (ascii "loads") loads

-- `passes`
unfoldable pub passes_line : ℕ → List ℕ
passes_line passes = line (ascii "passes") (passes ∷ [])

-- the four lines with which a run begins
unfoldable pub opening : ℕ → ℕ → ℕ → List ℕ → ℕ → List ℕ
opening end first last loads passes = end_line end ++ cut_line first last ++ loads_line loads ++ passes_line passes

-- `pass`: "moves and rewound moves"
unfoldable pub pass_line : ℕ → ℕ → List ℕ
pass_line made rewound = line (ascii "pass") (made ∷ rewound ∷ [])

-- a line for each of the first so many passes
unfoldable pub pass_lines : ℕ → List ℕ → List ℕ → List ℕ
pass_lines zero made rewound = []
pass_lines (suc i) made rewound = pass_lines i made rewound ++ pass_line (get_or made i 0) (get_or rewound i 0)

-- "Arc-swap has, in place of the pass lines, `counts` with attempts, moves, no-gain and bad-balance."
unfoldable pub counts_line : ℕ → ℕ → ℕ → ℕ → List ℕ
counts_line attempts moves no_gain bad_balance = line (ascii "counts") (attempts ∷ moves ∷ no_gain ∷ bad_balance ∷ [])

-- `labels`
unfoldable pub labels_line : List ℕ → List ℕ
labels_line labels = line (ascii "labels") labels

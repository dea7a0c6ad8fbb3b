-- A pass of FM: a walk from state to state, then back to the earliest state of least cut (document 01, "FM").
use Rattle.std.specs.Prelude.{cond, ◌&&◌, List, [], ◌∷◌, ◌++◌, ℕ, zero, suc, ◌+◌, ◌-◌, length, take, ltb, leb}
use Rattle.std.proofs.Math.Option.{Option, none, some}
use Rattle.topology.specs.Cut.{cut}
use Rattle.fiduccia_mattheyses_pass.specs.declared.Move.{Move}
use Rattle.fiduccia_mattheyses_choice.specs.Choice.{Terms, flip, choice, is_bad}

-- the vertices vs go to the other part, one after the other
unfoldable pub flips : List ℕ → List ℕ → List ℕ
flips p [] = p
flips p (v ∷ vs) = flips (flip p v) vs

-- "The moves of a pass stand in a lent list of move records: vertex and part before": the record of no move
abbrev pub no_move : Move
no_move = record { vertex = 0; part = 0 }

-- Where a pass stands: the labels, the vertices moved, in order, the bad counter, the least cut so far, and after how many moves it was first met.
pub record State : Type 0 where
  pub labels : List ℕ
  pub moved : List ℕ
  pub bad : ℕ
  pub least : ℕ
  pub kept : ℕ

-- A pass: moves made, moves rewound, the least cut, and the labels left.
pub record Pass : Type 0 where
  pub made : ℕ
  pub rewound : ℕ
  pub least : ℕ
  pub labels : List ℕ

module _ (s : Terms) where
  -- "At a pass's start all vertices are free"
  abbrev pub start : List ℕ → State
  start p = record { labels = p; moved = []; bad = 0; least = cut s.graph p; kept = 0 }

  -- v moves and is locked; a move of gain 0 or less "adds one to the counter and a positive one clears it"
  unfoldable pub move_on : State → ℕ → State
  move_on st v =
      let p = flip st.labels v in
      let c = cut s.graph p in
      record {
        labels = p;
        moved = st.moved ++ (v ∷ []);
        bad = cond (is_bad s st.labels v) (st.bad + 1) 0;
        least = cond (ltb c st.least) c st.least;
        kept = cond (ltb c st.least) (length st.moved + 1) st.kept;
      }

  -- "None: pass ends. If its gain is 0 or less and the bad counter has reached the bad limit, the pass ends"
  unfoldable pub next : State → Option State
  next st =
      elim (choice s st.labels st.moved) [
        | none ↦ none
        | some v ↦ cond (is_bad s st.labels v && leb s.bad_limit st.bad) none (some (move_on st v))
      ]

  -- at most k moves: "The pass also ends at the move limit."
  unfoldable pub walk : ℕ → State → State
  walk zero st = st
  walk (suc k) st = elim (next st) [ none ↦ st | some t ↦ walk k t ]

  -- "Then it rewinds to the earliest state of least cut, counting the start. Row: moves made, moves rewound."
  unfoldable pub pass : List ℕ → Pass
  pass p =
      let e = walk s.move_limit (start p) in
      record { made = length e.moved; rewound = length e.moved - e.kept; least = e.least; labels = flips p (take e.kept e.moved) }

-- Demand 3, in its own words: what a run of two-part FM leaves (document 01, "FM"; document 02, A4: `Demand 3 reads "the target board's ceiling" and "its own ceiling" from then on`).
use Rattle.std.specs.Prelude.{◌≡◌, true, cond, List, [], ◌∷◌, ◌++◌, ℕ, zero, suc, max, ◌≤◌, ◌<◌, length, get_or, ltb}
use Rattle.std.proofs.Math.Option.{none, some}
use Rattle.imbalance.specs.Load.{load}
use Rattle.topology.specs.Cut.{cut}
use Rattle.fiduccia_mattheyses_choice.specs.Choice.{Terms, flip, fits}
use Rattle.fiduccia_mattheyses_pass.specs.Pass.{State, start, next, pass}
use Rattle.fiduccia_mattheyses.specs.declared.Report.{Report}
use Rattle.fiduccia_mattheyses.specs.Entry.{Given, Lent, terms_of}

-- x, unless a later one of the list has a lower measure: the earliest of those of least measure
unfoldable pub earliest : (List ℕ → ℕ) → List ℕ → List (List ℕ) → List ℕ
earliest measure x [] = x
earliest measure x (y ∷ ys) = cond (ltb (measure y) (measure x)) (earliest measure y ys) (earliest measure x ys)

-- What such a one is, with no word of how it is found: x stands in the list at some position, its measure is at most that of each element, and less than that of each element before that position.
pub record EarliestOfLeast (measure : List ℕ → ℕ) (all : List (List ℕ)) (x : List ℕ) : Type 0 where
  pub position : ℕ
  pub inside : position < length all
  pub there : get_or all position [] ≡ x
  pub least : (j : ℕ) → j < length all → measure x ≤ measure (get_or all j [])
  pub first : (j : ℕ) → j < position → measure x < measure (get_or all j [])

module _ (s : Terms) where
  -- the states after each of at most k moves of a pass, in order
  unfoldable pub states_from : ℕ → State → List (List ℕ)
  states_from zero st = []
  states_from (suc k) st = elim (next s st) [ none ↦ [] | some t ↦ t.labels ∷ states_from k t ]

  -- the states after each move made in at most k passes, in order
  unfoldable pub states : ℕ → List ℕ → List (List ℕ)
  states zero p = []
  states (suc k) p =
      cond (ltb (pass s p).least (cut s.graph p))
      (states_from s.move_limit (start s p) ++ states k (pass s p).labels)
      (states_from s.move_limit (start s p))

  -- of the start p and the states after each move made, the labels left are the earliest of least cut
  abbrev pub LeavesTheLeast : ℕ → List ℕ → List ℕ → Type 0
  LeavesTheLeast k p left = left ≡ earliest (cut s.graph) p (states k p)

  -- no block that may move can go from the labels p to the other board within the target board's ceiling and lower the cut
  abbrev pub NoSingleBlock : List ℕ → Type 0
  NoSingleBlock p = (v : ℕ) → v < length p → s.movable v ≡ true → fits s p v ≡ true → cut s.graph p ≤ cut s.graph (flip p v)

  -- no board's load is above the larger of its own ceiling and its load at the start p
  abbrev pub NoBoardAbove : List ℕ → List ℕ → Type 0
  NoBoardAbove p left = (t : ℕ) → t < 2 → load s.weights left t ≤ max (get_or s.ceilings t 0) (load s.weights p t)

-- Demand 3 of a call that is done: of what is given p, the lists l at entry, the report r and the lists k at exit. Number 0 says that the graph is symmetric and without loops and its weights within the limits, or that there are no vertices.
pub record DemandThree (p : Given) (l : Lent) (r : Report) (k : Lent) : Type 0 where
  -- "On a symmetric graph without loops, whole weights within the limits, the two-part FM run leaves the labels of the least cut among its start and the states after each move made, the earliest of equals."
  pub least : LeavesTheLeast (terms_of p l) p.settings.passes l.labels k.labels
  -- "If it ended on a gainless pass and each pass was allowed at least one move, no single block can go to the other board within the target board's ceiling and lower the cut."
  pub single : r.end ≡ 1 → 0 < p.settings.moves → NoSingleBlock (terms_of p l) k.labels
  -- "No board ends above the larger of its own ceiling and its starting load."
  pub boards : NoBoardAbove (terms_of p l) l.labels k.labels

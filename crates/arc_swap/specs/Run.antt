-- A run of arc-swap on one thread (document 01, "Arc-swap").
use Rattle.std.specs.Prelude.{◌≡◌, Bool, true, false, not, cond, ◌&&◌, List, [], ◌∷◌, ◌++◌, ℕ, zero, suc, ◌+◌, ◌-◌, ◌*◌, length, set, ltb, leb, eqb, ℤ}
use Rattle.lists.specs.All.{any_from}
use Rattle.imbalance.specs.Load.{part}
use Rattle.topology.specs.Graph.{Graph, first, past, neighbour, gain}
use Rattle.topology.specs.Cut.{cut}
use Rattle.arc_swap_attempt.specs.Trial.{pushed, trial}
use Rattle.arc_swap_attempt.specs.declared.Trial.{Trial}
use Rattle.arc_swap_attempt.specs.declared.Trial.TheVariants.{NoGain, BadBalance, Goes}
use Rattle.arc_swap.specs.declared.RunRecord.{RunRecord}

-- What stands still during a run: the graph, the vertex weights, the ceiling of each part, the vertices that may move, the number of parts k, and the length of the lent stack.
pub record Terms : Type 0 where
  pub graph : Graph
  pub weights : List ℕ
  pub ceilings : List ℕ
  pub movable : ℕ → Bool
  pub parts : ℕ
  pub places : ℕ

-- Where a run stands: the labels, the stack, its top first, the counts, the gains of the moves made, the last first, and whether pushes did not fit.
pub record State : Type 0 where
  pub labels : List ℕ
  pub stack : List ℕ
  pub counts : RunRecord
  pub gains : List ℤ
  pub full : Bool

-- A run's end, its passes and where it stands then.
pub record Run : Type 0 where
  pub end : ℕ
  pub passes : ℕ
  pub state : State

-- "each attempt updates its counts": attempts and one of the three others
abbrev pub noted : Trial → RunRecord → RunRecord
noted NoGain r = record { attempts = r.attempts + 1; moves = r.moves; no_gain = r.no_gain + 1; bad_balance = r.bad_balance }
noted BadBalance r = record { attempts = r.attempts + 1; moves = r.moves; no_gain = r.no_gain; bad_balance = r.bad_balance + 1 }
noted (Goes t x) r = record { attempts = r.attempts + 1; moves = r.moves + 1; no_gain = r.no_gain; bad_balance = r.bad_balance }

-- every attempt is a move, one without a gain or one at a part that is too heavy
abbrev pub Summed : RunRecord → Type 0
Summed r = r.attempts ≡ r.moves + r.no_gain + r.bad_balance

-- v has "a neighbour in another part"
unfoldable pub on_cut : Graph → List ℕ → ℕ → Bool
on_cut g p v = any_from (first g v) (past g v) (λ e. not (eqb (part p (neighbour g e)) (part p v)))

module _ (s : Terms) where
  -- v was popped and `rest` is left: "If the pushes of one move .. do not all fit, none is pushed and the run ends with 2; the move stands"
  unfoldable pub after : Trial → State → List ℕ → ℕ → State
  after NoGain st rest v = record { labels = st.labels; stack = rest; counts = noted NoGain st.counts; gains = st.gains; full = false }
  after BadBalance st rest v = record { labels = st.labels; stack = rest; counts = noted BadBalance st.counts; gains = st.gains; full = false }
  after (Goes t x) st rest v =
      let p = set st.labels v t in
      let new = pushed s.graph s.parts s.movable p v (past s.graph v - first s.graph v) in
      let fits = leb (length new + length rest) s.places in
      record {
        labels = p;
        stack = cond fits (new ++ rest) rest;
        counts = noted (Goes t x) st.counts;
        gains = gain s.graph st.labels v t ∷ st.gains;
        full = not fits;
      }

  unfoldable pub attempt : State → List ℕ → ℕ → State
  attempt st rest v = after (trial s.graph s.parts s.weights s.ceilings st.labels v) st rest v

  -- "the stack is emptied", unless pushes do not fit; at most n attempts
  unfoldable pub drain : ℕ → State → State
  drain zero st = st
  drain (suc n) st =
      elim st.full [
        | true ↦ st
        | false ↦ elim st.stack [ [] ↦ st | v ∷ rest ↦ drain n (attempt st rest v) ]
      ]

  -- attempts enough to empty the stack: each takes one vertex off it or lowers the cut
  abbrev pub enough : State → ℕ
  enough st = (cut s.graph st.labels + 1) * (s.places + 1)

  -- v alone on the stack, or where that has no place "the run ends with 2"
  unfoldable pub first_push : State → ℕ → State
  first_push st v =
      cond (eqb s.places 0)
      (record { labels = st.labels; stack = []; counts = st.counts; gains = st.gains; full = true })
      (record { labels = st.labels; stack = v ∷ []; counts = st.counts; gains = st.gains; full = false })

  -- v's turn: "one with a neighbour in another part is pushed, and then the stack is emptied"; only one that may move
  unfoldable pub turn : State → ℕ → State
  turn st v = cond (s.movable v && on_cut s.graph st.labels v) (drain (enough st) (first_push st v)) st

  -- "Vertices in order", those below n, until pushes do not fit
  unfoldable pub sweep : ℕ → State → State
  sweep zero st = st
  sweep (suc n) st = cond (sweep n st).full (sweep n st) (turn (sweep n st) n)

  -- at most n passes more, of which i are made: "A pass of gain 0 ends the run", which then ends with 1; with 2 "the pass begun counts"
  unfoldable pub run : ℕ → ℕ → State → Run
  run zero i st = record { end = 1; passes = i; state = st }
  run (suc n) i st =
      let t = sweep (length st.labels) st in
      cond t.full (record { end = 2; passes = i + 1; state = t })
      (cond (ltb (cut s.graph t.labels) (cut s.graph st.labels)) (run n (i + 1) t)
      (record { end = 1; passes = i + 1; state = t }))

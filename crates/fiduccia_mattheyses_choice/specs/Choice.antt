-- Which vertex FM moves next (document 01, "FM").
use Rattle.std.specs.Prelude.{◌≡◌, Bool, true, false, not, ◌&&◌, ◌||◌, List, [], ◌∷◌, ℕ, ◌+◌, ◌-◌, ◌<◌, length, get_or, set, ltb, leb, eqb, ℤ, pos}
use Rattle.std.proofs.Math.Option.{Option}
use Rattle.std.specs.Int.Signed.{lt_z, le_z}
use Rattle.lists.specs.Best.{best}
use Rattle.imbalance.specs.Load.{part, load}
use Rattle.topology.specs.Graph.{Graph, gain}

-- What stands still during a run: the graph, the vertex weights, the ceiling of each part, the vertices that may move, the bad limit and the move limit.
pub record Terms : Type 0 where
  pub graph : Graph
  pub weights : List ℕ
  pub ceilings : List ℕ
  pub movable : ℕ → Bool
  pub bad_limit : ℕ
  pub move_limit : ℕ

-- the same terms, but for the move limit
abbrev pub with_move_limit : Terms → ℕ → Terms
with_move_limit s k = record { graph = s.graph; weights = s.weights; ceilings = s.ceilings; movable = s.movable; bad_limit = s.bad_limit; move_limit = k }

-- the other of the two parts
abbrev pub other : ℕ → ℕ
other t = 1 - t

-- v goes to the other part
unfoldable pub flip : List ℕ → ℕ → List ℕ
flip p v = set p v (other (part p v))

unfoldable pub member : ℕ → List ℕ → Bool
member v [] = false
member v (u ∷ us) = eqb v u || member v us

module _ (s : Terms) where
  -- the gain of v's move to the other part
  unfoldable pub worth : List ℕ → ℕ → ℤ
  worth p v = gain s.graph p v (other (part p v))

  -- the load of v's target after the move
  unfoldable pub after : List ℕ → ℕ → ℕ
  after p v = load s.weights p (other (part p v)) + get_or s.weights v 0

  -- "whose target load after the move is not above the ceiling": document 02's A4 has "compare the target's load with the target's own ceiling"
  unfoldable pub fits : List ℕ → ℕ → Bool
  fits p v = leb (after p v) (get_or s.ceilings (other (part p v)) 0)

  -- "among free vertices": v may move and has not been moved in this pass
  unfoldable pub allowed : List ℕ → List ℕ → ℕ → Bool
  allowed p moved v = s.movable v && not (member v moved) && fits p v

  -- "the largest gain, then the smallest such target load", and by `best` "then the lowest vertex"
  unfoldable pub better : List ℕ → ℕ → ℕ → Bool
  better p u v = lt_z (worth p v) (worth p u) || (le_z (worth p v) (worth p u) && ltb (after p u) (after p v))

  unfoldable pub choice : List ℕ → List ℕ → Option ℕ
  choice p moved = best (allowed p moved) (better p) (length p)

  -- What the vertex v that is chosen is, with no word of how it is found: "among free vertices whose target load after the move is not above the ceiling, the largest gain, then the smallest such target load, then the lowest vertex". It is one of the n and allowed, no allowed vertex is better, and it is better than each allowed vertex that is lower.
  pub record Chosen (p moved : List ℕ) (v : ℕ) : Type 0 where
    pub here : v < length p
    pub may : allowed p moved v ≡ true
    pub top : (u : ℕ) → u < length p → allowed p moved u ≡ true → better p u v ≡ false
    pub lowest : (u : ℕ) → u < v → allowed p moved u ≡ true → better p v u ≡ true

  -- "its gain is 0 or less"
  abbrev pub is_bad : List ℕ → ℕ → Bool
  is_bad p v = le_z (worth p v) (pos 0)

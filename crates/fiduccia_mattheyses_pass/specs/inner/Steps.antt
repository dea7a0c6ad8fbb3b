-- What the functions of a pass ask and answer: the moves in their records, the rewind, the pass.
use Rattle.std.specs.Prelude.{◌≡◌, true, List, [], ◌∷◌, ◌++◌, ℕ, zero, suc, ◌+◌, ◌-◌, ◌≤◌, ◌<◌, length, get_or, set, drop, ℤ, pos}
use Rattle.lists.specs.Sum.{total}
use Rattle.lists.specs.Fill.{table}
use Rattle.imbalance.specs.Limit.{most_vertices, most_weight}
use Rattle.imbalance.specs.Load.{part, load}
use Rattle.imbalance.specs.inner.Moved.{loads_moved}
use Rattle.topology.specs.Graph.{Graph}
use Rattle.topology.specs.Cut.{cut}
use Rattle.fiduccia_mattheyses_choice.specs.Choice.{Terms, other, flip}
use Rattle.fiduccia_mattheyses_pass.specs.Pass.{no_move, State, start, flips, pass}
use Rattle.fiduccia_mattheyses_pass.specs.inner.Standing.{Fixed, Stands, Apart}
use Rattle.fiduccia_mattheyses_pass.specs.declared.Frame.{Frame}
use Rattle.fiduccia_mattheyses_pass.specs.declared.Limits.{Limits}
use Rattle.fiduccia_mattheyses_pass.specs.declared.Standing.{Standing}
use Rattle.imbalance.specs.declared.Loads.{Loads}
use Rattle.fiduccia_mattheyses_pass.specs.declared.Move.{Move}
use Rattle.fiduccia_mattheyses_pass.specs.declared.Passed.{Passed}

-- the terms that a function's parameters stand for
abbrev pub terms_by : Graph → List ℕ → Limits → Terms
terms_by graph weights limits =
    record { graph = graph; weights = weights; ceilings = limits.ceilings.at; movable = λ v. true; bad_limit = limits.bad; move_limit = limits.moves }

-- the same of what the code holds together
abbrev pub terms_in : Frame → Terms
terms_in f = terms_by f.graph.now f.weights.now f.limits

-- where a pass starts, with these loads and this cut
abbrev pub first_standing : Loads → ℕ → Standing
first_standing loads cut = record { loads = loads; cut = pos cut; least = pos cut; kept = 0; bad = 0 }

-- "The moves of a pass stand in a lent list of move records: vertex and part before": of the vertices vs, moved in order from the labels p
unfoldable pub records : List ℕ → List ℕ → List Move
records p [] = []
records p (v ∷ vs) = record { vertex = v; part = part p v } ∷ records (flip p v) vs

-- the records at the list's front, and past them what stood there
abbrev pub recorded : List ℕ → List ℕ → List Move → List Move
recorded p vs moves = records p vs ++ drop (length vs) moves

-- What the walk asks: all in order, the code standing at the pass's start, a place for a record a vertex.
pub record WalkAsked (s : Terms) (labels : List ℕ) (gains : List ℤ) (moves : List Move) (first : Standing) : Type 0 where
  pub fixed : Fixed s (length labels)
  pub stands : Stands s (length labels) (start s labels) labels gains first
  pub places : length labels ≤ length moves

-- What the walk answers: the code stands at the end e of the defined walk from p, and each move is recorded.
pub record WalkDone (s : Terms) (p : List ℕ) (moves₀ : List Move) (e : State) (labels : List ℕ) (gains : List ℤ) (moves : List Move) (made : ℕ) (last : Standing) : Type 0 where
  pub stands : Stands s (length p) e labels gains last
  pub moved_from : e.labels ≡ flips p e.moved
  pub recorded_are : moves ≡ recorded p e.moved moves₀
  pub made_is : made ≡ length e.moved
  pub kept_within : e.kept ≤ length e.moved

-- the labels put back by k records from `from` on: "the rewind walks the records from the kept prefix on"
unfoldable pub undone : List Move → ℕ → ℕ → List ℕ → List ℕ
undone moves from zero p = p
undone moves from (suc k) p = set (undone moves from k p) (get_or moves (from + k) no_move).vertex (get_or moves (from + k) no_move).part

-- What taking a move back asks: a vertex with a weight, in the other part of the two than before the move, and loads of sixteen parts from which the weight can go.
pub record UndoAsked (weights labels loads : List ℕ) (m : Move) : Type 0 where
  pub in_labels : m.vertex < length labels
  pub in_weights : m.vertex < length weights
  pub two_labels : part labels m.vertex < 2
  pub before : m.part ≡ other (part labels m.vertex)
  pub sixteen : length loads ≡ 16
  pub weight_within : get_or weights m.vertex 0 ≤ get_or loads (part labels m.vertex) 0
  pub within : get_or loads m.part 0 ≤ most_weight

-- What it answers: the label before the move, and the loads after the vertex went back to that part.
pub record UndoDone (weights labels loads : List ℕ) (m : Move) (labels' loads' : List ℕ) : Type 0 where
  pub labelled : labels' ≡ set labels m.vertex m.part
  pub loaded : loads' ≡ loads_moved loads (part labels m.vertex) m.part (get_or weights m.vertex 0)

-- What the rewind asks: labels that come of moves vs from labels p, no vertex twice, all recorded, and the loads of these labels.
pub record RewindAsked (weights labels : List ℕ) (moves : List Move) (loads : List ℕ) (kept made : ℕ) : Type 0 where
  pub p : List ℕ
  pub vs : List ℕ
  pub before : List Move
  pub labelled : labels ≡ flips p vs
  pub recorded_are : moves ≡ recorded p vs before
  pub places : length vs ≤ length before
  pub made_is : made ≡ length vs
  pub kept_within : kept ≤ made
  pub loaded : loads ≡ table 16 (load weights labels)
  pub weighed : length weights ≡ length p
  pub few : length weights ≤ most_vertices
  pub light : total weights ≤ most_weight
  pub two_labels : (x : ℕ) → part p x < 2
  pub apart : Apart vs
  pub inside : (i : ℕ) → i < length vs → get_or vs i 0 < length p

-- What a pass asks: all in order, the cut and the loads of the labels, places for the gains and the records.
pub record PassAsked (s : Terms) (labels : List ℕ) (gains : List ℤ) (moves : List Move) (loads : List ℕ) (cut₀ : ℕ) : Type 0 where
  pub fixed : Fixed s (length labels)
  pub two_labels : (x : ℕ) → part labels x < 2
  pub gained : length gains ≡ length labels
  pub places : length labels ≤ length moves
  pub loaded : loads ≡ table 16 (load s.weights labels)
  pub cut_is : cut₀ ≡ cut s.graph labels

-- What a pass answers: the defined pass from p, its cut and its loads; the list of moves is unchanged past n.
pub record PassDone (s : Terms) (p : List ℕ) (moves₀ : List Move) (labels : List ℕ) (moves : List Move) (r : Passed) : Type 0 where
  pub labelled : labels ≡ (pass s p).labels
  pub made_is : r.made ≡ (pass s p).made
  pub kept_within : r.kept ≤ r.made
  pub rewound_is : r.made - r.kept ≡ (pass s p).rewound
  pub few : r.made ≤ length p
  pub least_is : r.cut ≡ (pass s p).least
  pub cut_is : r.cut ≡ cut s.graph labels
  pub loaded : r.loads.at ≡ table 16 (load s.weights labels)
  pub two_labels : (x : ℕ) → part labels x < 2
  pub long : length labels ≡ length p
  pub moves_long : length moves ≡ length moves₀
  pub moves_past : drop (length p) moves ≡ drop (length p) moves₀

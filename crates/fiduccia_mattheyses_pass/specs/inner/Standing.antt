-- Where the code of a pass stands after some moves, and what one more move makes of it.
use Rattle.std.specs.Prelude.{◌≡◌, true, cond, List, ℕ, ◌-◌, ◌≤◌, ◌<◌, length, get_or, set, ℤ, pos, ◌-ℤ◌}
use Rattle.std.specs.Int.Signed.{mag, lt_z}
use Rattle.lists.specs.Sum.{sum, total, weigh}
use Rattle.lists.specs.Fill.{written, table}
use Rattle.imbalance.specs.Load.{part, load}
use Rattle.imbalance.specs.Limit.{most_weight}
use Rattle.imbalance.specs.inner.Moved.{loads_moved}
use Rattle.topology.specs.Graph.{Graph, first, past, gain}
use Rattle.topology.specs.Rule.{Rows, Symmetric}
use Rattle.topology.specs.Cut.{cut}
use Rattle.fiduccia_mattheyses_choice.specs.inner.Bounds.{lock_size}
use Rattle.fiduccia_mattheyses_pass.specs.inner.Bounds.{most_gain, most_cut}
use Rattle.fiduccia_mattheyses_choice.specs.Choice.{Terms, other, flip, member, worth}
use Rattle.fiduccia_mattheyses_pass.specs.Pass.{State}
use Rattle.fiduccia_mattheyses_choice.specs.inner.Scan.{Scannable, lock}
use Rattle.fiduccia_mattheyses_pass.specs.inner.Update.{updated}
use Rattle.fiduccia_mattheyses_pass.specs.declared.Standing.{Standing}

-- the gains after v's move: v is locked, and its free neighbours follow
abbrev pub gains_after : Graph → List ℕ → List ℤ → ℕ → List ℤ
gains_after g labels gains v =
    updated g.neighbours g.weights (flip labels v) (part labels v) (first g v) (past g v - first g v) (set gains v lock)

-- after the move numbered `made`, with gain g, where the loads and the bad counter are then these
abbrev pub standing_with : Standing → List ℕ → ℤ → ℕ → ℕ → Standing
standing_with st loads g bad made =
    record {
      loads = record { at = loads };
      cut = st.cut -ℤ g;
      least = cond (lt_z (st.cut -ℤ g) st.least) (st.cut -ℤ g) st.least;
      kept = cond (lt_z (st.cut -ℤ g) st.least) made st.kept;
      bad = bad;
    }

-- the same, of a vertex of weight w that left part old for the other one
abbrev pub standing_after : Standing → ℕ → ℕ → ℤ → ℕ → ℕ → Standing
standing_after st old w g bad made = standing_with st (loads_moved st.loads.at old (other old) w) g bad made

-- the fresh gains: each vertex's to the other part
abbrev pub fresh_gains : Graph → List ℕ → List ℤ → List ℤ
fresh_gains g labels gains = written (λ v. gain g labels v (other (part labels v))) (length labels) gains

-- What a move of v asks besides: rows in order, v a vertex whose weight stands in its part's load, and numbers far from the ends of their types.
pub record Moveable (g : Graph) (gains : List ℤ) (labels weights : List ℕ) (st : Standing) (v : ℕ) (gain : ℤ) : Type 0 where
  pub rows : Rows (length labels) g
  pub scanned : Scannable gains labels weights st.loads.at
  pub here : v < length labels
  pub weight_within : get_or weights v 0 ≤ get_or st.loads.at (part labels v) 0
  pub small_gains : (x : ℕ) → mag (get_or gains x (pos 0)) ≤ lock_size
  pub small_gain : mag gain ≤ most_gain
  pub small_cut : mag st.cut ≤ most_cut
  pub small_least : mag st.least ≤ most_cut

-- the list of gains says what each free vertex's move is worth, and which vertices are locked
abbrev pub entry : Terms → List ℕ → List ℕ → ℕ → ℤ
entry s p locked x = cond (member x locked) lock (worth s p x)

pub record Gains (s : Terms) (p locked : List ℕ) (gs : List ℤ) : Type 0 where
  pub long : length gs ≡ length p
  pub each : (x : ℕ) → x < length p → get_or gs x (pos 0) ≡ entry s p locked x

-- What stands still during a run of n vertices, once no number applies.
pub record Fixed (s : Terms) (n : ℕ) : Type 0 where
  pub rows : Rows n s.graph
  pub symmetric : Symmetric n s.graph
  pub weighed : length s.weights ≡ n
  pub light : total s.weights ≤ most_weight
  pub light_arcs : total s.graph.weights ≤ most_weight
  pub capped : length s.ceilings ≡ 16
  pub all_movable : (v : ℕ) → s.movable v ≡ true

-- no vertex stands twice in the list
abbrev pub Apart : List ℕ → Type 0
Apart vs = (i j : ℕ) → i < j → j < length vs → get_or vs i 0 ≡ get_or vs j 0 → ⊥

-- The code stands where the state says: labels 0 or 1 as many as vertices, gains, loads, cut, least cut, and the two counters.
pub record Stands (s : Terms) (n : ℕ) (st : State) (labels : List ℕ) (gains : List ℤ) (c : Standing) : Type 0 where
  pub labelled : labels ≡ st.labels
  pub long : length labels ≡ n
  pub two_labels : (x : ℕ) → part labels x < 2
  pub gained : Gains s labels st.moved gains
  pub loaded : c.loads.at ≡ table 16 (load s.weights labels)
  pub cut_is : c.cut ≡ pos (cut s.graph labels)
  pub least_is : c.least ≡ pos st.least
  pub least_low : st.least ≤ most_cut
  pub kept_is : c.kept ≡ st.kept
  pub bad_is : c.bad ≡ st.bad
  pub bad_within : st.bad ≤ length st.moved
  pub counted : sum n (λ x. weigh (member x st.moved) 1) ≡ length st.moved
  pub apart : Apart st.moved
  pub inside : (i : ℕ) → i < length st.moved → get_or st.moved i 0 < n

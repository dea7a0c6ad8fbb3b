-- A pass of KL as a walk from state to state (document 01, "KL").
use Rattle.std.specs.Prelude.{Bool, true, false, cond, ◌&&◌, ◌||◌, List, ℕ, zero, suc, ◌+◌, ◌/◌, min, length, get_or, set, ltb, eqb, ℤ, pos, ◌+ℤ◌}
use Rattle.std.proofs.Math.Option.{Option, none, some}
use Rattle.std.specs.Int.Signed.{le_z}
use Rattle.lists.specs.Fill.{table}
use Rattle.topology.specs.Graph.{Graph}
use Rattle.topology.specs.Cut.{cut}
use Rattle.exchange.specs.Exchange.{exchange}
use Rattle.kernighan_lin_pass.specs.Gain.{added, updated, largest}

-- What a swap goes by: the graph, the vertices that may be taken (all of them today), the first part, and the bad limit.
pub record Terms : Type 0 where
  pub graph : Graph
  pub movable : ℕ → Bool
  pub first : ℕ
  pub bad_limit : ℕ

-- Two vertices that exchange their labels: one of the first part, and one of the second.
pub record Swap : Type 0 where
  pub one : ℕ
  pub two : ℕ

unfoldable pub swapped : List ℕ → Swap → List ℕ
swapped p s = exchange p s.one s.two

-- Where a pass stands: the labels, the gains, the locks, the swaps made, and the labels to which the pass rewinds.
pub record State : Type 0 where
  pub labels : List ℕ
  pub gains : List ℤ
  pub locks : List ℕ
  pub made : ℕ
  pub kept : List ℕ

module _ (s : Terms) where
  -- "Gains start at 0 in a pass", and no vertex is locked
  unfoldable pub start : List ℕ → State
  start p = record { labels = p; gains = table (length p) (λ u. pos 0); locks = table (length p) (λ u. 0); made = 0; kept = p }

  -- "Take the largest in the first part ..; then for its neighbours ..; take the second part's largest likewise. If the two sum to 0 or less and the bad limit is 0, the pass ends": the sum takes the first gain before its neighbours are told and the second after. Where a part has no unlocked vertex left the pass ends too.
  unfoldable pub pair : List ℕ → List ℤ → List ℕ → Option Swap
  pair p before locks =
      let gains = added s.graph p before in
      elim (largest s.movable s.first true p gains locks) [
        | none ↦ none
        | some v ↦ (let after = updated s.graph p v gains in
            elim (largest s.movable s.first false p after locks) [
              | none ↦ none
              | some w ↦
                  cond (le_z (get_or gains v (pos 0) +ℤ get_or after w (pos 0)) (pos 0) && eqb s.bad_limit 0) none
                  (some (record { one = v; two = w }))
            ])
      ]

  -- "Otherwise lock, swap, note the cut": the labels to rewind to are those of "the earliest least cut among states after at least one swap"
  unfoldable pub after : State → Swap → State
  after st t =
      let p = swapped st.labels t in
      record {
        labels = p;
        gains = updated s.graph st.labels t.one (added s.graph st.labels st.gains);
        locks = set (set st.locks t.one 1) t.two 1;
        made = st.made + 1;
        kept = cond (eqb st.made 0 || ltb (cut s.graph p) (cut s.graph st.kept)) p st.kept;
      }

  unfoldable pub next : State → Option State
  next st = elim (pair st.labels st.gains st.locks) [ none ↦ none | some t ↦ some (after st t) ]

  -- at most k swaps
  unfoldable pub walk : ℕ → State → State
  walk zero st = st
  walk (suc k) st = elim (next st) [ none ↦ st | some t ↦ walk k t ]

  -- "At most n/2 rounded down and the swap limit."
  abbrev pub most : ℕ → List ℕ → ℕ
  most swap_limit p = min swap_limit (length p / 2)

  -- the labels that a pass leaves; "without a swap it is gainless and changes nothing"
  unfoldable pub pass : ℕ → List ℕ → List ℕ
  pass swap_limit p = (walk (most swap_limit p) (start p)).kept

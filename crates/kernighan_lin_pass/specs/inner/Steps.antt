-- What the inner functions ask and promise.
use Rattle.std.specs.Prelude.{◌≡◌, true, cond, Some, None, ◌||◌, List, ℕ, zero, suc, ◌+◌, ◌-◌, ◌*◌, ◌/◌, ◌%◌, ◌^◌, ◌≤◌, ◌<◌, length, get_or, ltb, eqb, ℤ, pos}
use Rattle.std.specs.Prelude.{Option as Found}
use Rattle.std.proofs.Math.Option.{Option, none, some}
use Rattle.std.specs.Int.Signed.{mag}
use Rattle.lists.specs.Sum.{total}
use Rattle.lists.specs.Fill.{table}
use Rattle.imbalance.specs.Limit.{most_vertices, most_weight}
use Rattle.topology.specs.Graph.{Graph}
use Rattle.topology.specs.Rule.{Rows, Symmetric}
use Rattle.topology.specs.Cut.{cut}
use Rattle.kernighan_lin_pass.specs.Gain.{added, updated}
use Rattle.kernighan_lin_pass.specs.Pass.{Terms, Swap, swapped, pair, start, walk}
use Rattle.kernighan_lin_pass.specs.declared.Frame.{Frame}
use Rattle.kernighan_lin_pass.specs.declared.choose.Pair.{Pair}
use Rattle.kernighan_lin_pass.specs.declared.pass.Walked.{Walked}

-- What follows for a graph of n vertices where no number from 1 to 5 applies, without the vertex weights, which KL does not use. The rules themselves are `graph_rules` of topology's Rules.antt.
pub record Fit (n : ℕ) (g : Graph) : Type 0 where
  pub rows : Rows n g
  pub symmetric : Symmetric n g
  pub light : total g.weights ≤ most_weight

-- no gain is larger than m, without its sign
abbrev pub Within : ℕ → List ℤ → Type 0
Within m gains = (u : ℕ) → mag (get_or gains u (pos 0)) ≤ m

-- what adding a fresh gain changes of a gain at most: a row's weight, and one for the sign
abbrev pub fresh_bound : ℕ
fresh_bound = most_weight + 1

-- what telling changes of a gain at most: twice a row's weight
abbrev pub update_bound : ℕ
update_bound = 2 * most_weight

-- what a swap changes of a gain at most
abbrev pub swap_bound : ℕ
swap_bound = fresh_bound + update_bound

-- no pass makes more swaps: each takes two vertices
abbrev pub most_swaps : ℕ
most_swaps = most_vertices / 2

-- no gain of a pass reaches it: most_swaps times swap_bound is less
abbrev pub most_gain : ℕ
most_gain = 2 ^ 44

-- a choice, as the code answers it
abbrev pub found : {A : Type 0} → Option A → Found A
found none = None
found (some x) = Some x

-- the same of a pair
abbrev pub pair_at : Option Swap → Found Pair
pair_at none = None
pair_at (some t) = Some (record { one = t.one; two = t.two })

-- the terms of a run in which every vertex may be taken
abbrev pub terms_by : Graph → ℕ → ℕ → Terms
terms_by g first bad_limit = record { graph = g; movable = λ v. true; first = first; bad_limit = bad_limit }

-- the same of what the code holds together
abbrev pub terms_in : Frame → Terms
terms_in f = terms_by f.graph.now f.first f.limits.bad

-- What choosing the next pair answers, and leaves in the gains where there is one.
pub record Chose (s : Terms) (p : List ℕ) (before : List ℤ) (locks : List ℕ) (r : Found Pair) (gains : List ℤ) : Type 0 where
  pub pair_is : r ≡ pair_at (pair s p before locks)
  pub gains_are : (t : Swap) → pair s p before locks ≡ some t → gains ≡ updated s.graph p t.one (added s.graph p before)

-- a swap in the lent list is one number: the first vertex times this, and the second, which is below it
abbrev pub code_base : ℕ
code_base = 2 ^ 16

abbrev pub code_of : Swap → ℕ
code_of t = t.one * code_base + t.two

abbrev pub swap_of : ℕ → Swap
swap_of code = record { one = code / code_base; two = code % code_base }

-- the first m swaps of the list are of the n vertices
pub record Coded (n m : ℕ) (codes : List ℕ) : Type 0 where
  pub one : (i : ℕ) → i < m → (swap_of (get_or codes i 0)).one < n
  pub two : (i : ℕ) → i < m → (swap_of (get_or codes i 0)).two < n

-- the last j of the first m swaps undone, the last first
unfoldable pub back : List ℕ → ℕ → ℕ → List ℕ → List ℕ
back codes m zero p = p
back codes m (suc j) p = back codes (m - 1) j (swapped p (swap_of (get_or codes (m - 1) 0)))

-- the walk after one more swap, which leaves this cut: it is the one to rewind to where it is the first, or a lower one
unfoldable pub counted : Walked → ℕ → Walked
counted w after =
    let lower = eqb w.made 0 || ltb after w.least in
    record { made = w.made + 1; kept = cond lower (w.made + 1) w.kept; least = cond lower after w.least }

-- What the swaps of a pass start from: gains and locks at 0, places for the swaps, and the cut.
pub record WalkAsked (s : Terms) (p : List ℕ) (gains : List ℤ) (locks : List ℕ) (places limit before : ℕ) : Type 0 where
  pub fit : Fit (length p) s.graph
  pub gains_are : gains ≡ table (length p) (λ u. pos 0)
  pub locks_are : locks ≡ table (length p) (λ u. 0)
  pub places_for : limit ≤ places
  pub few : limit ≤ most_swaps
  pub cut_is : before ≡ cut s.graph p

-- What they leave: undoing the swaps from the last down to those kept gives the labels that the pass leaves.
pub record WalkDone (s : Terms) (limit : ℕ) (p labels codes : List ℕ) (r : Walked) : Type 0 where
  pub upto : r.made ≤ limit
  pub kept_upto : r.kept ≤ r.made
  pub coded : Coded (length p) r.made codes
  pub long : length labels ≡ length p
  pub back_is : back codes r.made (r.made - r.kept) labels ≡ (walk s limit (start s p)).kept
  pub least_is : r.least ≡ cut s.graph (walk s limit (start s p)).kept

-- What a pass asks of the lists: those lent are as long as is needed.
pub record LentLong (p : List ℕ) (gains : List ℤ) (locks : List ℕ) (places limit : ℕ) : Type 0 where
  pub gains_long : length gains ≡ length p
  pub locks_long : length locks ≡ length p
  pub places_for : limit ≤ places
  pub few : limit ≤ most_swaps

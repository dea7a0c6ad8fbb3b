-- What the functions inside the entry ask and answer: the passes, the run.
use Rattle.std.specs.Prelude.{◌≡◌, List, ℕ, ◌/◌, ◌≤◌, ◌<◌, length, get_or, ℤ, pos}
use Rattle.lists.specs.Fill.{filled}
use Rattle.imbalance.specs.Limit.{most_passes}
use Rattle.topology.specs.Graph.{Graph}
use Rattle.topology.specs.Cut.{cut}
use Rattle.kernighan_lin_pass.specs.Pass.{Terms}
use Rattle.kernighan_lin_pass.specs.inner.Steps.{Fit, terms_by}
use Rattle.kernighan_lin.specs.Run.{run}
use Rattle.kernighan_lin.specs.Entry.{Lent}
use Rattle.kernighan_lin.specs.declared.Settings.{Settings}
use Rattle.kernighan_lin.specs.declared.Report.{Report}

-- What the passes ask.
pub record PassesAsked (g : Graph) (p : List ℕ) (gains : List ℤ) (locks swaps : List ℕ) (passes : ℕ) : Type 0 where
  pub fit : Fit (length p) g
  pub a_vertex : 0 < length p
  pub gains_long : length gains ≡ length p
  pub locks_long : length locks ≡ length p
  pub swaps_long : length swaps ≡ length p / 2
  pub few_passes : passes ≤ most_passes

-- What the passes answer, with at most so many swaps and passes, and the labels that they leave.
pub record PassesDone (s : Terms) (most passes : ℕ) (p : List ℕ) (r : Report) (labels : List ℕ) : Type 0 where
  pub number_is : r.number ≡ 0
  pub end_is : r.end ≡ (run s most passes 0 p).end
  pub passes_are : r.passes ≡ (run s most passes 0 p).passes
  pub first_is : r.first ≡ cut s.graph p
  pub last_is : r.last ≡ cut s.graph (run s most passes 0 p).labels
  pub labels_are : labels ≡ (run s most passes 0 p).labels

-- What the run asks: no number that applies. It is not given the vertex weights, which KL does not use.
pub record Ready (g : Graph) (settings : Settings) (l : Lent) : Type 0 where
  pub fit : Fit (length l.labels) g
  pub a_vertex : 0 < length l.labels
  pub few_passes : settings.passes ≤ most_passes
  pub in_gains : length l.labels ≤ length l.gains
  pub in_locks : length l.labels ≤ length l.locks
  pub in_swaps : length l.labels / 2 ≤ length l.swaps

-- What the run answers and leaves.
pub record Ran (g : Graph) (settings : Settings) (l : Lent) (r : Report) (k : Lent) : Type 0 where
  pub passed : PassesDone (terms_by g (get_or l.labels 0 0) settings.bad) settings.swaps settings.passes l.labels r k.labels
  pub gains : k.gains ≡ filled (pos 0) (length l.labels) l.gains
  pub locks : k.locks ≡ filled 0 (length l.labels) l.locks
  pub swaps : k.swaps ≡ filled 0 (length l.labels / 2) l.swaps

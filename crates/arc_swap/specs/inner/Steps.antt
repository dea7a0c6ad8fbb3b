-- What the functions inside the entry ask and answer: an attempt, a first push, an emptying of the stack, a pass, the passes.
use Rattle.std.specs.Prelude.{◌≡◌, Bool, true, false, not, cond, List, [], ◌∷◌, ℕ, ◌+◌, ◌-◌, ◌*◌, ◌^◌, ◌≤◌, ◌<◌, length, get_or, set, ltb, ℤ, Option, Some, None}
use Rattle.lists.specs.End.{end_number}
use Rattle.lists.specs.declared.end.End.{End}
use Rattle.lists.specs.declared.end.End.TheVariants.{NoGain, StackFull}
use Rattle.lists.specs.Fill.{table}
use Rattle.lists.specs.Sum.{total}
use Rattle.imbalance.specs.Limit.{most_arcs, most_weight, label_above}
use Rattle.imbalance.specs.Load.{load, loads_of}
use Rattle.imbalance.specs.Ceiling.{unfit_choice, ceilings}
use Rattle.topology.specs.Graph.{Graph}
use Rattle.topology.specs.Rule.{Rows, Symmetric, Sound}
use Rattle.topology.specs.Cut.{cut}
use Rattle.arc_swap_attempt.specs.Trial.{trial}
use Rattle.arc_swap_attempt.specs.inner.Steps.{stacked, Named, Stood, MoveDone}
use Rattle.arc_swap_attempt.specs.declared.Frame.{Frame}
use Rattle.arc_swap_attempt.specs.declared.Limits.{Limits}
use Rattle.arc_swap_attempt.specs.declared.Standing.{Standing}
use Rattle.arc_swap.specs.declared.RunRecord.{RunRecord}
use Rattle.arc_swap.specs.declared.Attempted.{Attempted}
use Rattle.arc_swap.specs.declared.Begun.{Begun}
use Rattle.arc_swap.specs.declared.Ended.{Ended}
use Rattle.arc_swap.specs.declared.Report.{Report}
use Rattle.arc_swap.specs.Run.{Terms, State, on_cut, run, Summed}
use Rattle.topology.specs.Given.{graph_of}
use Rattle.arc_swap.specs.Entry.{Given, Lent, parts_of, no_counts, report_of, left_by}

-- the terms that a function's parameters stand for
abbrev pub terms_by : Graph → List ℕ → Limits → ℕ → Terms
terms_by g weights limits places =
    record { graph = g; weights = weights; ceilings = limits.ceilings.at; movable = λ v. true; parts = limits.parts; places = places }

-- the same of what the code holds together
abbrev pub terms_in : Frame → ℕ → Terms
terms_in f places = terms_by f.graph.now f.weights.now f.limits places

-- What stands still during a run of n vertices, once no number applies.
pub record Fixed (s : Terms) (n : ℕ) : Type 0 where
  pub rows : Rows n s.graph
  pub symmetric : Symmetric n s.graph
  pub weighed : length s.weights ≡ n
  pub light : total s.weights ≤ most_weight
  pub capped : length s.ceilings ≡ 16

-- every number of the list is below n
pub data Inside (n : ℕ) : List ℕ → Type 0 where
  no_vertex : Inside n []
  also : {x : ℕ} {xs : List ℕ} → x < n → Inside n xs → Inside n (x ∷ xs)

-- The code is in order: labels below k, `top` places of the stack held, vertices all, the cut and the loads of the labels, the counts in order.
pub record Ordered (s : Terms) (n : ℕ) (labels stack : List ℕ) (top cut₀ : ℕ) (loads : List ℕ) (counts : RunRecord) : Type 0 where
  pub long : length labels ≡ n
  pub ok : Named s.graph s.parts labels
  pub places : length stack ≡ s.places
  pub within : top ≤ length stack
  pub inside : Inside n (stacked stack top)
  pub stood : Stood s.graph s.weights labels cut₀ loads
  pub summed : Summed counts

-- the state in which the code stands, but for the gains of the moves made, which it does not keep
abbrev pub at : List ℕ → List ℕ → RunRecord → List ℤ → Bool → State
at labels stack counts gains full = record { labels = labels; stack = stack; counts = counts; gains = gains; full = full }

-- the state x, where the pushes before it fitted or did not
abbrev pub standing : Bool → State → State
standing fits x = at x.labels x.stack x.counts x.gains (not fits)

-- whatever the gains were, f leads from where the code stood to where it stands
abbrev pub Leads : (State → State) → List ℕ → List ℕ → RunRecord → List ℕ → List ℕ → RunRecord → Bool → Type 0
Leads f labels stack counts labels' stack' counts' full = (gs : List ℤ) → (hs : List ℤ) × (f (at labels stack counts gs false) ≡ at labels' stack' counts' hs full)

-- the attempts made and those that may come: each takes a vertex off the stack or lowers the cut, and a move pushes at most a row's neighbours
abbrev pub spent : RunRecord → ℕ → ℕ → ℕ
spent counts top cut₀ = counts.attempts + top + most_arcs * cut₀

-- no count can reach it, so none wraps
abbrev pub most : ℕ
most = 2 ^ 62

-- What a function of the run asks: all in order, and counts far from the ends of their types even after `more` first pushes.
pub record Asked (s : Terms) (labels stack : List ℕ) (top cut₀ : ℕ) (loads : List ℕ) (counts : RunRecord) (more : ℕ) : Type 0 where
  pub fixed : Fixed s (length labels)
  pub ordered : Ordered s (length labels) labels stack top cut₀ loads counts
  pub modest : spent counts top cut₀ + more ≤ most

-- What it answers: the defined f leads to where the code stands, the stack empty unless pushes did not fit, all in order.
pub record Done (f : State → State) (s : Terms) (labels stack : List ℕ) (top cut₀ : ℕ) (counts : RunRecord) (more : ℕ) (labels' stack' : List ℕ) (counts' : RunRecord) (c : Standing) : Type 0 where
  pub leads : Leads f labels (stacked stack top) counts labels' (stacked stack' c.top) counts' (not c.fits)
  pub emptied : c.fits ≡ true → c.top ≡ 0
  pub ordered : Ordered s (length labels) labels' stack' c.top c.cut c.loads.at counts'
  pub bounded : spent counts' c.top c.cut ≤ spent counts top cut₀ + more

-- What an attempt asks: all in order, and a vertex on the stack.
pub record AttemptAsked (s : Terms) (labels stack : List ℕ) (c : Standing) : Type 0 where
  pub fixed : Fixed s (length labels)
  pub ok : Named s.graph s.parts labels
  pub some : 0 < c.top
  pub within : c.top ≤ length stack
  pub inside : Inside (length labels) (stacked stack c.top)
  pub stood : Stood s.graph s.weights labels c.cut c.loads.at

-- the standing c with the top of its stack taken off
abbrev pub popped : Standing → Standing
popped c = record { fits = c.fits; top = c.top - 1; cut = c.cut; loads = c.loads }

-- What it answers: what came of the vertex on top, and the move by that, with this vertex off the stack.
pub record AttemptDone (s : Terms) (labels stack : List ℕ) (c : Standing) (labels' stack' : List ℕ) (r : Attempted) : Type 0 where
  pub tried : r.trial ≡ trial s.graph s.parts s.weights s.ceilings labels (get_or stack (c.top - 1) 0)
  pub moved : MoveDone s.graph s.parts s.weights labels stack (popped c) (get_or stack (c.top - 1) 0) r.trial labels' stack' r.st

-- What v's first push leaves: all as it was for a vertex off the cut, else v alone on the stack, or nothing pushed where that has no place.
pub record FirstDone (g : Graph) (labels stack : List ℕ) (v : ℕ) (c : Standing) (stack' : List ℕ) (r : Standing) : Type 0 where
  pub off : on_cut g labels v ≡ false → (stack' ≡ stack) × (r ≡ c)
  pub full : on_cut g labels v ≡ true → length stack ≡ 0 → (stack' ≡ stack) × (r ≡ record { fits = false; top = c.top; cut = c.cut; loads = c.loads })
  pub alone : on_cut g labels v ≡ true → (length stack ≡ 0 → ⊥) → (stack' ≡ set stack 0 v) × (r ≡ record { fits = c.fits; top = 1; cut = c.cut; loads = c.loads })

-- What a pass asks: the stack empty, and the counts leave place for `more` first pushes.
pub record TurnAsked (s : Terms) (labels stack : List ℕ) (st : Standing) (counts : RunRecord) (more : ℕ) : Type 0 where
  pub asked : Asked s labels stack st.top st.cut st.loads.at counts more
  pub empty : st.top ≡ 0
  pub fit : st.fits ≡ true

-- how a pass ends the run: where pushes did not fit, and where the cut did not fall; else the run goes on
abbrev pub end_by : ℕ → Bool → ℕ → Option End
end_by before fits after = cond fits (cond (ltb after before) None (Some NoGain)) (Some StackFull)

-- What the passes answer: the defined run from the labels with no counts, its end and its passes.
pub record PassesDone (s : Terms) (labels labels' stack' : List ℕ) (counts' : RunRecord) (r : Ended) : Type 0 where
  pub leads : (hs : List ℤ) × (run s (cut s.graph labels + 1) 0 (at labels [] no_counts [] false) ≡ record { end = end_number r.end; passes = r.passes; state = at labels' (stacked stack' r.st.top) counts' hs (not r.st.fits) })
  pub stood : Stood s.graph s.weights labels' r.st.cut r.st.loads.at

-- What the run of a call asks, once no number applies. The rules themselves are `rules` of Rules.antt.
pub record Ready (p : Given) (labels : List ℕ) : Type 0 where
  pub sound : Sound (length labels) p.weights (graph_of p)
  pub named : label_above 15 labels ≡ false
  pub fit : unfit_choice p.settings.ceiling ≡ false

-- What a run begins with: the number of parts and the ceilings, and an empty stack beside the cut and the loads of the labels.
pub record Begins (p : Given) (labels : List ℕ) (b : Begun) : Type 0 where
  pub parts : b.limits.parts ≡ parts_of labels
  pub capped : b.limits.ceilings.at ≡ ceilings (table 16 (load p.weights labels)) (total p.weights) (parts_of labels) p.settings.ceiling
  pub stands : b.st ≡ record { fits = true; top = 0; cut = cut (graph_of p) labels; loads = loads_of p.weights labels }

-- What the run of a call answers and leaves.
pub record Ran (p : Given) (l : Lent) (r : Report) (k : Lent) : Type 0 where
  pub answered : r ≡ report_of p l
  pub labels : k.labels ≡ (left_by p l).labels
  pub stack : k.stack ≡ (left_by p l).stack
  pub run : k.run ≡ (left_by p l).run

-- The call: what number 0 tells, what the run asks and leaves, and the three ways out. Assumes nothing.
use mathlib.Core.Path.{◌≡◌, refl, sym, ap, ap₂, ◌∙◌}
use mathlib.Core.Bool.{true, false, not, cond}
use mathlib.Core.List.{List}
use Prim.Native.Nat.{ℕ, ◌+◌, ◌≤◌, ◌<◌}
use native.Mathlib.Omega.{arith}
use lib.ListN.{length}
use lib.Dec.{eqb}
use borrow.Author.Tests.{eq-eqb, ne_eqb}
use Rattle.lists.specs.Sum.{total}
use Rattle.lists.specs.Fill.{filled, table}
use Rattle.lists.proofs.Fills.{filled-whole}
use Rattle.lists.specs.End.{end_number}
use Rattle.lists.specs.declared.refusal.Refusal.{Refusal}
use Rattle.lists.specs.Refusal.{number_of}
use Rattle.lists.proofs.Refusals.{not-done}
use Rattle.lists.proofs.Numbers.{or-else-zero, not-given}
use Rattle.imbalance.specs.Limit.{label_above, most_weight}
use Rattle.imbalance.specs.Load.{load, loads_of}
use Rattle.imbalance.specs.Ceiling.{unfit_choice, ceilings}
use Rattle.imbalance.specs.declared.Ceilings.{Ceilings}
use Rattle.imbalance.specs.declared.Loads.{Loads}
use Rattle.imbalance.proofs.Choices.{ceilings-long}
use Rattle.topology.specs.Rule.{graph_number}
use Rattle.topology.specs.Cut.{cut}
use Rattle.topology.proofs.Numbers.{sound}
use Rattle.arc_swap_attempt.specs.inner.Steps.{stacked}
use Rattle.arc_swap_attempt.specs.declared.Standing.{Standing}
use Rattle.arc_swap_attempt.proofs.Stacks.{stacked-none}
use Rattle.arc_swap.specs.declared.RunRecord.{RunRecord}
use Rattle.arc_swap.specs.declared.Report.{Report}
use Rattle.arc_swap.specs.declared.Begun.{Begun}
use Rattle.arc_swap.specs.declared.Ended.{Ended}
use Rattle.arc_swap.specs.Run.{Terms, Run, run}
use Rattle.topology.specs.Given.{graph_of}
use Rattle.arc_swap.specs.Entry.{Given, Lent, number, parts_of, terms_of, no_counts, begin, run_of, refused, empty, report_of, left_by, answer, left, Refined}
use Rattle.arc_swap.specs.inner.Steps.{terms_by, no_vertex, at, TurnAsked, PassesDone, Ready, Begins, Ran}
use Rattle.arc_swap.proofs.Parts.{parts-named, parts-few}
use Rattle.arc_swap.proofs.Lights.{cut-light}

-- what number 0 gives to the run; that it is given exactly where every rule is kept is in Refusals.antt
pub ready : (p : Given) (labels : List ℕ) → number p labels ≡ 0 → Ready p labels
unfolding number
ready p labels z =
    let a = or-else-zero (graph_number (length labels) p.weights (graph_of p)) (cond (label_above 15 labels) 6 (cond (unfit_choice p.settings.ceiling) 7 0)) z in
    let six = not-given (label_above 15 labels) 5 (cond (unfit_choice p.settings.ceiling) 7 0) a.1 in
    let seven = not-given (unfit_choice p.settings.ceiling) 6 0 six.1 in
    record { sound = sound (length labels) p.weights (graph_of p) a.0; named = six.0; fit = seven.0 }

-- the terms of a run that begins with b
abbrev set-by : Given → List ℕ → Begun → Terms
set-by p stack b = terms_by (graph_of p) p.weights b.limits (length stack)

module _ (p : Given) (labels : List ℕ) (ok : Ready p labels) where
  -- what the ceilings ask
  pub ceilings-asked : (t k : ℕ) → t ≡ total p.weights → k ≡ parts_of labels → (t ≤ most_weight) × (0 < k) × (k ≤ 16) × (unfit_choice p.settings.ceiling ≡ false)
  ceilings-asked t k e q =
      let a = parts-few labels ok.named in
      let b = ok.sound.light in
      (omega arith, omega (arith, a.0), omega (arith, a.1), ok.fit)

  -- what the run begins with
  pub begins :
      (k n : ℕ) (loads : Loads) (t : ℕ) (ceils : Ceilings) (c : ℕ)
      → n ≡ k → k ≡ parts_of labels → loads ≡ loads_of p.weights labels → t ≡ total p.weights
      → ceils.at ≡ ceilings loads.at t k p.settings.ceiling → c ≡ cut (graph_of p) labels
      → Begins p labels (record { limits = record { ceilings = ceils; parts = n }; st = record { fits = true; top = 0; cut = c; loads = loads } })
  begins k n loads t ceils c n-is k-is loads-are t-is ceils-are c-is = record {
    parts = n-is ∙ k-is;
    capped = ceils-are ∙ rw (loads-are, t-is, k-is);
    stands = λ i. record { fits = true; top = 0; cut = c-is i; loads = loads-are i };
  }

  module _ (stack : List ℕ) (b : Begun) (is : Begins p labels b) where
    capped : length b.limits.ceilings.at ≡ 16
    capped = ap length is.capped ∙ ceilings-long _ _ _ _

    pub passes-asked : (counts : RunRecord) → counts ≡ no_counts → TurnAsked (set-by p stack b) labels stack b.st counts 0 × (counts ≡ no_counts) × (b.st.cut ≤ most_weight)
    passes-asked counts empty =
        let few = parts-few labels ok.named in
        let top-none : b.st.top ≡ 0 = ap (λ (x : Standing). x.top) is.stands in
        let c-is : b.st.cut ≡ cut (graph_of p) labels = ap (λ (x : Standing). x.cut) is.stands in
        let z : counts.attempts ≡ 0 = ap (λ (r : RunRecord). r.attempts) empty in
        let lc = cut-light (length labels) (graph_of p) ok.sound.rows labels refl in
        let ll = ok.sound.light_arcs in (
          record {
            asked = record {
              fixed = record {
                rows = ok.sound.rows;
                symmetric = ok.sound.symmetric;
                weighed = ok.sound.weighed;
                light = ok.sound.light;
                capped = capped;
              };
              ordered = record {
                long = refl;
                ok = record {
                  rows = ok.sound.rows;
                  few = rw is.parts few.1;
                  named = rw is.parts (parts-named labels);
                };
                places = refl;
                within = omega arith;
                inside = rw (top-none, stacked-none stack) no_vertex;
                stood = record { cut_is = c-is; loaded = ap (λ (x : Standing). x.loads.at) is.stands };
                summed = rw empty refl;
              };
              modest = omega arith;
            };
            empty = top-none;
            fit = ap (λ (x : Standing). x.fits) is.stands;
          },
          empty,
          omega arith,
        )

module _ (p : Given) (l : Lent) (b : Begun) (is : Begins p l.labels b) where
  same-terms : set-by p l.stack b ≡ terms_of p l
  same-terms = ap₂ (λ (x : List ℕ) (y : ℕ). terms_by (graph_of p) p.weights (record { ceilings = record { at = x }; parts = y }) (length l.stack)) is.capped is.parts

  -- what the passes leave is what the call leaves
  pub ran :
      (labels' stack' stack'' : List ℕ) (counts' : RunRecord) (r : Ended) → PassesDone (set-by p l.stack b) l.labels labels' stack' counts' r
      → length stack' ≡ length l.stack → stack'' ≡ filled 0 (length stack') stack'
      → (q : Report) → q ≡ record { number = 0; end = end_number r.end; passes = r.passes; first = b.st.cut; last = r.st.cut; loads = r.st.loads }
      → Ran p l q (record { labels = labels'; stack = stack''; run = counts' })
  unfolding report_of left_by
  ran labels' stack' stack'' counts' r d long z q q-is =
      let hs = d.leads.0 in
      let e : run_of p l ≡ record { end = end_number r.end; passes = r.passes; state = at labels' (stacked stack' r.st.top) counts' hs (not r.st.fits) } =
      ap (λ (s : Terms). run s (cut (graph_of p) l.labels + 1) 0 (begin l.labels)) (sym same-terms) ∙ d.leads.1 in
      let ll : labels' ≡ (run_of p l).state.labels = sym (ap (λ (x : Run). x.state.labels) e) in
      record {
        answered = q-is ∙ report-by b.st.cut r.st.cut (end_number r.end) r.passes r.st.loads (ap (λ (x : Standing). x.cut) is.stands) (d.stood.cut_is ∙ ap (cut (graph_of p)) ll) (sym (ap (λ (x : Run). x.end) e)) (sym (ap (λ (x : Run). x.passes) e)) (loads-by r.st.loads labels' ll d.stood.loaded);
        labels = ll;
        stack = z ∙ filled-whole 0 stack' l.stack long;
        run = sym (ap (λ (x : Run). x.state.counts) e);
      }
    where
      report-by :
          (a b n m : ℕ) (x : Loads) → a ≡ cut (graph_of p) l.labels → b ≡ cut (graph_of p) (run_of p l).state.labels → n ≡ (run_of p l).end → m ≡ (run_of p l).passes → x ≡ loads_of p.weights (run_of p l).state.labels
          → ◌≡◌ {A = Report} (record { number = 0; end = n; passes = m; first = a; last = b; loads = x }) (record { number = 0; end = (run_of p l).end; passes = (run_of p l).passes; first = cut (graph_of p) l.labels; last = cut (graph_of p) (run_of p l).state.labels; loads = loads_of p.weights (run_of p l).state.labels })
      report-by a b n m x ea eb en em ex = λ i. record { number = 0; end = en i; passes = em i; first = ea i; last = eb i; loads = ex i }

      loads-by : (x : Loads) (q : List ℕ) → q ≡ (run_of p l).state.labels → x.at ≡ table 16 (load p.weights q) → x ≡ loads_of p.weights (run_of p l).state.labels
      loads-by x q e h = let f : x.at ≡ table 16 (load p.weights (run_of p l).state.labels) = h ∙ ap (λ (y : List ℕ). table 16 (load p.weights y)) e in λ i. record { at = f i }

-- ---- the three ways out
module _ (p : Given) (l : Lent) where
  module _ (r : Report) (k : Lent) where
    swapped-by : r ≡ answer p l → k ≡ left p l → Refined p l r k
    swapped-by a e = record {
      answered = a;
      labels = ap (λ (x : Lent). x.labels) e;
      stack = ap (λ (x : Lent). x.stack) e;
      run = ap (λ (x : Lent). x.run) e;
    }

  pub at-empty : (r : Report) (c : RunRecord) → length l.labels ≡ 0 → r ≡ empty → c ≡ no_counts → Refined p l r (record { labels = l.labels; stack = l.stack; run = c })
  unfolding answer left
  at-empty r c z e n =
      let b = eq-eqb (length l.labels) 0 z in
      swapped-by r (record { labels = l.labels; stack = l.stack; run = c }) (e ∙ rw b) (rw b (ap (λ (x : RunRecord). record { labels = l.labels; stack = l.stack; run = x }) n))

  module _ (some : length l.labels ≡ 0 → ⊥) where
    pub at-refusal : (r : Report) (refusal : Refusal) → number_of refusal ≡ number p l.labels → r ≡ refused (number_of refusal) → Refined p l r l
    unfolding answer left
    at-refusal r refusal e q =
        let b = ne_eqb (length l.labels) 0 some in
        let d : eqb (number p l.labels) 0 ≡ false = rw (← e) (not-done refusal) in
        swapped-by r l (q ∙ rw (b, d, e)) (rw (b, d))

    pub at-run : (r : Report) (k : Lent) → number p l.labels ≡ 0 → Ran p l r k → Refined p l r k
    unfolding answer left report_of left_by
    at-run r k z h =
        let b = ne_eqb (length l.labels) 0 some in
        let d = eq-eqb (number p l.labels) 0 z in
        record {
          answered = h.answered ∙ rw (b, d);
          labels = h.labels ∙ rw (b, d);
          stack = h.stack ∙ rw (b, d);
          run = h.run ∙ rw (b, d);
        }

-- Pass after pass: the code stands where the definition does, and the definition's passes last, as each but the last lowers the cut. Assumes nothing.
use mathlib.Core.Path.{◌≡◌, refl, sym, ap, ◌∙◌}
use mathlib.Core.Bool.{Bool, true, false, not, cond}
use mathlib.Core.List.{List, []}
use Prim.Native.Nat.{ℕ, suc, ◌+◌, ◌-◌, ◌*◌, ◌≤◌, ◌<◌}
use native.Mathlib.Omega.{arith}
use lib.ListN.{length}
use lib.Dec.{ltb}
use lib.IntN.{ℤ}
use borrow.Author.Tests.{lt-ltb, le-ltb, ltb-true, ltb-false}
use Rattle.std.specs.Prelude.{Option, Some, None}
use Rattle.lists.specs.declared.end.End.{End}
use Rattle.lists.specs.declared.end.End.TheVariants.{NoGain, StackFull}
use Rattle.imbalance.specs.Limit.{most_vertices, most_arcs, most_weight}
use Rattle.topology.specs.Cut.{cut}
use Rattle.arc_swap_attempt.specs.inner.Steps.{stacked}
use Rattle.arc_swap_attempt.specs.declared.Standing.{Standing}
use Rattle.arc_swap_attempt.proofs.Stacks.{stacked-none}
use Rattle.arc_swap.specs.declared.RunRecord.{RunRecord}
use Rattle.arc_swap.specs.Run.{Terms, State, Run, sweep, run}
use Rattle.arc_swap.specs.Entry.{no_counts}
use Rattle.arc_swap.specs.inner.Steps.{Ordered, at, spent, TurnAsked, Done, end_by, PassesDone}

-- ---- the definition, pass by pass
module _ (s : Terms) (f i : ℕ) (st : State) where
  abbrev by-pass : State → Run
  by-pass t =
      cond t.full (record { end = 2; passes = i + 1; state = t })
      (cond (ltb (cut s.graph t.labels) (cut s.graph st.labels)) (run s f (i + 1) t)
      (record { end = 1; passes = i + 1; state = t }))

  run-pass : (t : State) → sweep s (length st.labels) st ≡ t → run s (suc f) i st ≡ by-pass t
  unfolding run
  run-pass t e = ap by-pass e

-- where the run stands after i passes
pub record Running (s : Terms) (p₀ : List ℕ) (cut₀ i : ℕ) (p stack : List ℕ) (c : Standing) (counts : RunRecord) : Type 0 where
  pub empty : c.top ≡ 0
  pub fit : c.fits ≡ true
  pub ordered : Ordered s (length p₀) p stack c.top c.cut c.loads.at counts
  pub bounded : spent counts 0 c.cut ≤ most_arcs * cut₀ + most_vertices * i
  pub falling : i + c.cut ≤ cut₀
  pub rest : (hs : List ℤ) × (f : ℕ) × (run s (cut s.graph p₀ + 1) 0 (at p₀ [] no_counts [] false) ≡ run s f i (at p [] counts hs false)) × (c.cut < f)

module _ (s : Terms) (p₀ stack₀ : List ℕ) (c₀ : Standing) (counts₀ : RunRecord) (ask : TurnAsked s p₀ stack₀ c₀ counts₀ 0) (none₀ : counts₀ ≡ no_counts) (light : c₀.cut ≤ most_weight) where
  pub running : Running s p₀ c₀.cut 0 p₀ stack₀ c₀ counts₀
  running =
      let z : counts₀.attempts ≡ 0 = ap (λ (r : RunRecord). r.attempts) none₀ in
      let k = ask.asked.ordered.stood.cut_is in
      record {
        empty = ask.empty;
        fit = ask.fit;
        ordered = ask.asked.ordered;
        bounded = omega arith;
        falling = omega arith;
        rest = ([], cut s.graph p₀ + 1, rw none₀, omega arith);
      }

  module _ (i : ℕ) (p stack : List ℕ) (c : Standing) (counts : RunRecord) (inv : Running s p₀ c₀.cut i p stack c counts) where
    few : length p ≤ most_vertices
    few = let a = ask.asked.fixed.rows.few in let b = inv.ordered.long in omega arith

    module _ (p' stack' : List ℕ) (counts' : RunRecord) (d : Standing) (done : Done (sweep s (length p)) s p stack 0 c.cut counts (length p) p' stack' counts' d) where
      -- the definition, after this pass
      passed : (hs : List ℤ) × (f : ℕ) × (run s (cut s.graph p₀ + 1) 0 (at p₀ [] no_counts [] false) ≡ by-pass s f i (at p [] counts inv.rest.0 false) (at p' (stacked stack' d.top) counts' hs (not d.fits))) × (c.cut ≤ f)
      passed =
          let a = inv.rest in
          let l = a.3 in
          let q : a.1 ≡ suc (a.1 - 1) = omega arith in
          let b = done.leads a.0 in (
            b.0,
            a.1 - 1,
            a.2
                ∙ ap (λ (n : ℕ). run s n i (at p [] counts a.0 false)) q
                ∙ run-pass s (a.1 - 1) i (at p [] counts a.0 false) (at p' (stacked stack' d.top) counts' b.0 (not d.fits)) (ap (λ (k : List ℕ). sweep s (length p) (at p k counts a.0 false)) (sym (stacked-none stack)) ∙ b.1),
            omega arith,
          )

      cut-before : c.cut ≡ cut s.graph p
      cut-before = inv.ordered.stood.cut_is

      cut-after : d.cut ≡ cut s.graph p'
      cut-after = done.ordered.stood.cut_is

      -- the pushes of a move did not fit
      pub ends-full : d.fits ≡ false → PassesDone s p₀ p' stack' counts' (record { end = StackFull; passes = i + 1; st = d })
      ends-full e = record {
        leads = (passed.0, passed.2 ∙ go d.fits e);
        stood = done.ordered.stood;
      }
        where
          go : (b : Bool) → b ≡ false → by-pass s passed.1 i (at p [] counts inv.rest.0 false) (at p' (stacked stack' d.top) counts' passed.0 (not b)) ≡ record { end = 2; passes = i + 1; state = at p' (stacked stack' d.top) counts' passed.0 (not b) }
          go false q = refl
          go true q = let o : ◌≡◌ {A = ℕ} 0 1 = cc in absurd (omega arith)

      module _ (e : d.fits ≡ true) where
        -- the pass has a gain
        pub next-pass : d.cut < c.cut → Running s p₀ c₀.cut (i + 1) p' stack' d counts'
        next-pass l =
            let z = done.emptied e in
            let a = passed in
            let m = a.3 in
            record {
              empty = z;
              fit = e;
              ordered = rw inv.ordered.long at done.ordered;
              bounded = (let x = done.bounded in let y = inv.bounded in let w = few in omega arith);
              falling = (let x = inv.falling in omega arith);
              rest = (a.0, a.1, a.2 ∙ go d.fits e (stacked stack' d.top) (ap (stacked stack') z ∙ stacked-none stack'), omega arith);
            }
          where
            go : (b : Bool) → b ≡ true → (k : List ℕ) → k ≡ [] → by-pass s passed.1 i (at p [] counts inv.rest.0 false) (at p' k counts' passed.0 (not b)) ≡ run s passed.1 (i + 1) (at p' [] counts' passed.0 false)
            go false q k r = let o : ◌≡◌ {A = ℕ} 0 1 = cc in absurd (omega arith)
            go true q k r =
                let x = cut-before in
                let y = cut-after in
                rw (lt-ltb (cut s.graph p') (cut s.graph p) (omega arith), r)

        -- it has none
        pub ends-gainless : c.cut ≤ d.cut → PassesDone s p₀ p' stack' counts' (record { end = NoGain; passes = i + 1; st = d })
        ends-gainless l = record {
          leads = (passed.0, passed.2 ∙ go d.fits e);
          stood = done.ordered.stood;
        }
          where
            go : (b : Bool) → b ≡ true → by-pass s passed.1 i (at p [] counts inv.rest.0 false) (at p' (stacked stack' d.top) counts' passed.0 (not b)) ≡ record { end = 1; passes = i + 1; state = at p' (stacked stack' d.top) counts' passed.0 (not b) }
            go false q = let o : ◌≡◌ {A = ℕ} 0 1 = cc in absurd (omega arith)
            go true q =
                let x = cut-before in
                let y = cut-after in
                rw (le-ltb (cut s.graph p') (cut s.graph p) (omega arith))

      -- how the pass ends the run, as the code answers it
      goes-by : (a b : Bool) → d.fits ≡ a → ltb d.cut c.cut ≡ b → ◌≡◌ {A = Option End} None (cond a (cond b None (Some NoGain)) (Some StackFull)) → (d.fits ≡ true) × (d.cut < c.cut)
      goes-by true true f e q = (f, ltb-true d.cut c.cut e)
      goes-by true false f e q = let o : ◌≡◌ {A = ℕ} 0 1 = cc in absurd (omega arith)
      goes-by false b f e q = let o : ◌≡◌ {A = ℕ} 0 1 = cc in absurd (omega arith)

      pub goes_on : None ≡ end_by c.cut d.fits d.cut → d.cut < c.cut
      goes_on q = (goes-by d.fits (ltb d.cut c.cut) refl refl q).1

      pub again : None ≡ end_by c.cut d.fits d.cut → Running s p₀ c₀.cut (i + 1) p' stack' d counts'
      again q = next-pass (goes-by d.fits (ltb d.cut c.cut) refl refl q).0 (goes_on q)

      pub ends : (end : End) → Some end ≡ end_by c.cut d.fits d.cut → PassesDone s p₀ p' stack' counts' (record { end = end; passes = i + 1; st = d })
      ends end = by d.fits refl (ltb d.cut c.cut) refl
        where
          same : (x : End) → Some end ≡ Some x → end ≡ x
          same x q = cc

          by : (a : Bool) → d.fits ≡ a → (b : Bool) → ltb d.cut c.cut ≡ b → ◌≡◌ {A = Option End} (Some end) (cond a (cond b None (Some NoGain)) (Some StackFull)) → PassesDone s p₀ p' stack' counts' (record { end = end; passes = i + 1; st = d })
          by true f true e q = let o : ◌≡◌ {A = ℕ} 0 1 = cc in absurd (omega arith)
          by true f false e q = rw (same NoGain q) (ends-gainless f (ltb-false d.cut c.cut e))
          by false f b e q = rw (same StackFull q) (ends-full f)

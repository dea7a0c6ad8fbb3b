-- The stack emptied, attempt by attempt: the code stands where the definition does, and the definition's fuel lasts. Assumes nothing.
use mathlib.Core.Path.{◌≡◌, refl, sym, ap, ap₂, ◌∙◌}
use mathlib.Core.Bool.{Bool, true, false, not, cond}
use mathlib.Core.List.{List, [], ◌∷◌, ◌++◌}
use Prim.Native.Nat.{ℕ, zero, suc, ◌+◌, ◌-◌, ◌*◌, ◌≤◌, ◌<◌}
use native.Mathlib.Omega.{arith}
use native.Mathlib.Nat.{mul-le-mul_right, add-mul, one-mul}
use lib.ListN.{length, get_or, length-set, length-append}
use lib.Dec.{leb}
use lib.IntN.{ℤ}
use Rattle.imbalance.specs.Limit.{most_arcs}
use Rattle.topology.specs.Graph.{first, past, gain}
use Rattle.topology.specs.Cut.{cut}
use Rattle.topology.proofs.Moves.{cut-move}
use Rattle.arc_swap_attempt.specs.Trial.{trial}
use Rattle.arc_swap_attempt.specs.inner.Steps.{stacked, pushed_by, Tryable, Aimed, MoveAsked, Moved, MoveDone}
use Rattle.arc_swap_attempt.specs.declared.Standing.{Standing}
use Rattle.arc_swap_attempt.specs.declared.Trial.{Trial}
use Rattle.arc_swap_attempt.specs.declared.Trial.TheVariants.{NoGain, BadBalance, Goes}
use Rattle.arc_swap_attempt.proofs.Stacks.{length-stacked, stacked-pop, stacked-none}
use Rattle.arc_swap_attempt.proofs.Tried.{Goal, goal, aim-in}
use Rattle.arc_swap_attempt.proofs.Moving.{named-move}
use Rattle.arc_swap.specs.declared.RunRecord.{RunRecord}
use Rattle.arc_swap.specs.declared.Attempted.{Attempted}
use Rattle.arc_swap.specs.Run.{Terms, noted, after, attempt, drain, Summed}
use Rattle.arc_swap.specs.inner.Steps.{Fixed, Inside, Ordered, at, standing, spent, most, Asked, Done, AttemptAsked, popped, AttemptDone}
use Rattle.arc_swap.proofs.Spreads.{inside_both, inside-top, inside-rest, pushed-few, pushed-inside, row-few}

-- ---- the definition, step by step
module _ (s : Terms) where
  pub drain-full : (f : ℕ) (p l : List ℕ) (c : RunRecord) (gs : List ℤ) → drain s f (at p l c gs true) ≡ at p l c gs true
  unfolding drain
  drain-full zero p l c gs = refl
  drain-full (suc f) p l c gs = refl

  pub drain-empty : (f : ℕ) (p : List ℕ) (c : RunRecord) (gs : List ℤ) → drain s f (at p [] c gs false) ≡ at p [] c gs false
  unfolding drain
  drain-empty zero p c gs = refl
  drain-empty (suc f) p c gs = refl

  drain-step : (f : ℕ) (p l : List ℕ) (v : ℕ) (c : RunRecord) (gs : List ℤ) (tr : Trial) → tr ≡ trial s.graph s.parts s.weights s.ceilings p v → drain s (suc f) (at p (v ∷ l) c gs false) ≡ drain s f (after s tr (at p (v ∷ l) c gs false) l v)
  unfolding drain attempt
  drain-step f p l v c gs tr e = rw e

  -- an attempt that moves nothing
  stayed : (tr : Trial) → ((t x : ℕ) → tr ≡ Goes t x → ⊥) → (p l : List ℕ) (v : ℕ) (c : RunRecord) (gs : List ℤ) → after s tr (at p (v ∷ l) c gs false) l v ≡ at p l (noted tr c) gs false
  unfolding after
  stayed NoGain stays p l v c gs = refl
  stayed BadBalance stays p l v c gs = refl
  stayed (Goes t x) stays p l v c gs = absurd (stays t x refl)

-- the counts stay in order
pub noted-summed : (tr : Trial) (c : RunRecord) → Summed c → Summed (noted tr c)
noted-summed NoGain c e = omega arith
noted-summed BadBalance c e = omega arith
noted-summed (Goes t x) c e = omega arith

pub noted_more : (tr : Trial) (c : RunRecord) → (noted tr c).attempts ≡ c.attempts + 1
noted_more NoGain c = refl
noted_more BadBalance c = refl
noted_more (Goes t x) c = refl

-- ---- one attempt: what its parts ask
module _ (s : Terms) (p stack : List ℕ) (c : Standing) (ask : AttemptAsked s p stack c) (v : ℕ) (v-is : v ≡ get_or stack (c.top - 1) 0) where
  top-is : c.top ≡ c.top - 1 + 1
  top-is = omega (arith, ask.some)

  pub topped : stacked stack c.top ≡ v ∷ stacked stack (c.top - 1)
  topped = stacked-pop stack (c.top - 1) c.top top-is ∙ ap (λ (x : ℕ). x ∷ stacked stack (c.top - 1)) (sym v-is)

  pub here : v < length p
  here = inside-top (rw topped at ask.inside)

  pub tryable : Tryable s.graph s.parts s.weights s.ceilings c.loads.at p v
  tryable = record {
    ok = ask.ok;
    here = here;
    weighed = ask.fixed.weighed;
    light = ask.fixed.light;
    capped = ask.fixed.capped;
    loaded = ask.stood.loaded;
  }

  module _ (tr : Trial) (tr-is : tr ≡ trial s.graph s.parts s.weights s.ceilings p v) where
    -- where it goes to t with the gain x
    pub aimed : (t x : ℕ) → tr ≡ Goes t x → Aimed s.graph s.parts p v t x
    aimed t x goes =
        let g = goal s.graph s.parts s.weights s.ceilings p v t x (sym tr-is ∙ goes) in
        let i = aim-in s.graph s.parts p v t g.aim-is in
        record { target = i.0; apart = λ e. i.1 (sym e); gain_is = g.sums }

    pub move-asked : MoveAsked s.graph s.parts s.weights p stack (popped c) v tr
    move-asked = record {
      ok = ask.ok;
      symmetric = ask.fixed.symmetric;
      weighed = ask.fixed.weighed;
      light = ask.fixed.light;
      stood = ask.stood;
      places = (let a = ask.within in omega arith);
      here = here;
      aimed = aimed;
    }

    -- what the attempt answers
    pub attempted : (p' stack' : List ℕ) (d : Standing) → MoveDone s.graph s.parts s.weights p stack (popped c) v tr p' stack' d → AttemptDone s p stack c p' stack' (record { st = d; trial = tr })
    attempted p' stack' d done = record { tried = tr-is ∙ ap (trial s.graph s.parts s.weights s.ceilings p) v-is; moved = rw (← v-is) done }

abbrev fuel : Terms → List ℕ → ℕ
fuel s p = (cut s.graph p + 1) * (s.places + 1)

-- where the emptying stands
pub record Draining (s : Terms) (p₀ stack₀ : List ℕ) (c₀ : Standing) (counts₀ : RunRecord) (p stack : List ℕ) (c : Standing) (counts : RunRecord) : Type 0 where
  pub ordered : Ordered s (length p₀) p stack c.top c.cut c.loads.at counts
  pub bounded : spent counts c.top c.cut ≤ spent counts₀ c₀.top c₀.cut + 0
  pub empty : c.fits ≡ false → c.top ≡ 0
  pub rest : (gs : List ℤ) → (hs : List ℤ) × (f : ℕ) × (drain s (fuel s p₀) (at p₀ (stacked stack₀ c₀.top) counts₀ gs (not c₀.fits)) ≡ drain s f (at p (stacked stack c.top) counts hs (not c.fits))) × (c.cut * (s.places + 1) + c.top ≤ f)

module _ (s : Terms) (all_movable : s.movable ≡ (λ v. true)) (p₀ stack₀ : List ℕ) (c₀ : Standing) (counts₀ : RunRecord) (ask : Asked s p₀ stack₀ c₀.top c₀.cut c₀.loads.at counts₀ 0) where
  pub draining : (c₀.fits ≡ false → c₀.top ≡ 0) → Draining s p₀ stack₀ c₀ counts₀ p₀ stack₀ c₀ counts₀
  draining none₀ = record {
    ordered = ask.ordered;
    bounded = omega arith;
    empty = none₀;
    rest = λ gs. (gs, fuel s p₀, refl, lasts);
  }
    where
      lasts : c₀.cut * (s.places + 1) + c₀.top ≤ fuel s p₀
      lasts =
          let a = ask.ordered.stood.cut_is in
          let b = ask.ordered.within in
          let c = ask.ordered.places in
          let d = add-mul (cut s.graph p₀) 1 (s.places + 1) in
          let e = one-mul (s.places + 1) in
          let h = ap (λ (x : ℕ). x * (s.places + 1)) a in
          omega arith

  module _ (p stack : List ℕ) (c : Standing) (counts : RunRecord) (inv : Draining s p₀ stack₀ c₀ counts₀ p stack c counts) where
    -- the counts are far from the ends of their types
    pub modest : (Summed counts) × (counts.attempts ≤ most)
    modest = (inv.ordered.summed, (let a = inv.bounded in let b = ask.modest in omega arith))

    -- nothing is held any more
    pub emptied : c.top ≤ 0 → Done (λ x. drain s (fuel s p₀) (standing c₀.fits x)) s p₀ stack₀ c₀.top c₀.cut counts₀ 0 p stack counts c
    emptied l =
        let z : c.top ≡ 0 = omega arith in
        record {
          leads = λ gs. (let a = inv.rest gs in (a.0, a.2 ∙ over a.1 a.0 c.fits (stacked stack c.top) (ap (stacked stack) z ∙ stacked-none stack)));
          emptied = λ e. z;
          ordered = inv.ordered;
          bounded = inv.bounded;
        }
      where
        over : (f : ℕ) (hs : List ℤ) (b : Bool) (k : List ℕ) → k ≡ [] → drain s f (at p k counts hs (not b)) ≡ at p k counts hs (not b)
        over f hs true k e = rw e (drain-empty s f p counts hs)
        over f hs false k e = drain-full s f p k counts hs

    -- the vertex on top
    module _ (l : 0 < c.top) where
      fits_is : c.fits ≡ true
      fits_is = by c.fits refl
        where
          by : (b : Bool) → c.fits ≡ b → b ≡ true
          by true e = refl
          by false e = absurd (let z = inv.empty e in omega arith)

      pub attempt-asked : AttemptAsked s p stack c
      attempt-asked = record {
        fixed = rw inv.ordered.long ask.fixed;
        ok = inv.ordered.ok;
        some = l;
        within = inv.ordered.within;
        inside = rw inv.ordered.long inv.ordered.inside;
        stood = inv.ordered.stood;
      }

      abbrev v : ℕ
      v = get_or stack (c.top - 1) 0

      on-top : stacked stack c.top ≡ v ∷ stacked stack (c.top - 1)
      on-top = topped s p stack c attempt-asked v refl

      left-inside : Inside (length p₀) (stacked stack (c.top - 1))
      left-inside = inside-rest (rw on-top at inv.ordered.inside)

      fixed' : Fixed s (length p)
      fixed' = rw inv.ordered.long ask.fixed

      module _ (tr : Trial) (tr-is : tr ≡ trial s.graph s.parts s.weights s.ceilings p v) (counts' : RunRecord) (counts-are : counts' ≡ noted tr counts) where
        summed' : Summed counts'
        summed' = rw counts-are (noted-summed tr counts inv.ordered.summed)

        more' : counts'.attempts ≡ counts.attempts + 1
        more' = rw counts-are (noted_more tr counts)

        -- the definition's step, one attempt on
        next : (gs : List ℤ) → (hs : List ℤ) × (f : ℕ) × (drain s (fuel s p₀) (at p₀ (stacked stack₀ c₀.top) counts₀ gs (not c₀.fits)) ≡ drain s f (after s tr (at p (v ∷ stacked stack (c.top - 1)) counts hs false) (stacked stack (c.top - 1)) v)) × (c.cut * (s.places + 1) + c.top ≤ suc f)
        next gs =
            let a = inv.rest gs in
            let m = a.3 in
            let q : a.1 ≡ suc (a.1 - 1) = omega arith in (
              a.0,
              a.1 - 1,
              a.2
                  ∙ ap (λ (b : Bool). drain s a.1 (at p (stacked stack c.top) counts a.0 (not b))) fits_is
                  ∙ ap₂ (λ (n : ℕ) (k : List ℕ). drain s n (at p k counts a.0 false)) q on-top
                  ∙ drain-step s (a.1 - 1) p (stacked stack (c.top - 1)) v counts a.0 tr tr-is,
              omega arith,
            )

        -- it stays
        turn-stays : ((t x : ℕ) → tr ≡ Goes t x → ⊥) → Draining s p₀ stack₀ c₀ counts₀ p stack (popped c) counts'
        turn-stays stays = record {
          ordered = record {
            long = inv.ordered.long;
            ok = inv.ordered.ok;
            places = inv.ordered.places;
            within = (let a = inv.ordered.within in omega arith);
            inside = left-inside;
            stood = inv.ordered.stood;
            summed = summed';
          };
          bounded = (let a = inv.bounded in let b = more' in omega arith);
          empty = λ e. (let z = inv.empty e in omega arith);
          rest = λ gs. (let a = next gs in let m = a.3 in (
            a.0,
            a.1,
            a.2
                ∙ ap (drain s a.1) (stayed s tr stays p (stacked stack (c.top - 1)) v counts a.0 ∙ ap (λ (r : RunRecord). at p (stacked stack (c.top - 1)) r a.0 false) (sym counts-are))
                ∙ ap (λ (b : Bool). drain s a.1 (at p (stacked stack (c.top - 1)) counts' a.0 (not b))) (sym fits_is),
            omega arith,
          ));
        }

        -- it goes to t with the gain x
        module _ (t x : ℕ) (goes : tr ≡ Goes t x) where
          goal' : Goal s.graph s.parts s.weights s.ceilings p v t x
          goal' = goal s.graph s.parts s.weights s.ceilings p v t x (sym tr-is ∙ goes)

          here' : v < length p
          here' = here s p stack c attempt-asked v refl

          module _ (p' stack' : List ℕ) (d : Standing) (long' : length stack' ≡ length stack) (done : Moved s.graph s.parts s.weights p stack (c.top - 1) v t p' stack' d) where
            abbrev new : List ℕ
            new = pushed_by s.graph s.parts p' v

            -- the cut falls by x, which is above 0
            falls : d.cut + x ≡ c.cut
            falls =
                let a = cut-move s.graph p v t fixed'.symmetric here' in
                let b = goal'.sums in
                let g = inv.ordered.stood.cut_is in
                let e = done.stood.cut_is in
                let f = ap (cut s.graph) done.labelled in
                omega arith

            few : length new ≤ most_arcs
            few = omega (arith, pushed-few s.graph s.parts (λ u. true) p' v (past s.graph v - first s.graph v), row-few s.graph s.parts (λ u. true) p' v (length p) inv.ordered.ok.rows here')

            stacked-size : length (stacked stack (c.top - 1)) ≡ c.top - 1
            stacked-size = length-stacked stack (c.top - 1)

            -- what is held after it
            top-by : (b : Bool) → d.fits ≡ b → d.top ≤ length new + (c.top - 1)
            top-by b e =
                let h = ap length done.pushes.stacked_is in
                go b e (rw e at h)
              where
                go : (b : Bool) → d.fits ≡ b → length (stacked stack' d.top) ≡ length (cond b (new ++ stacked stack (c.top - 1)) (stacked stack (c.top - 1))) → d.top ≤ length new + (c.top - 1)
                go true e h = omega (arith, h, length-stacked stack' d.top, stacked-size, length-append new (stacked stack (c.top - 1)))
                go false e h = omega (arith, h, length-stacked stack' d.top, stacked-size)

            inside-by : (b : Bool) → Inside (length p₀) (cond b (new ++ stacked stack (c.top - 1)) (stacked stack (c.top - 1)))
            inside-by true = inside_both (rw inv.ordered.long at (pushed-inside s.graph s.parts (λ u. true) p' v (length p) inv.ordered.ok.rows here' (past s.graph v - first s.graph v) (omega arith))) left-inside
            inside-by false = left-inside

            ready' : Ordered s (length p₀) p' stack' d.top d.cut d.loads.at counts'
            ready' =
                let ok' = named-move s.graph s.parts p v t inv.ordered.ok here' (aimed s p stack c attempt-asked v refl tr tr-is t x goes).target in
                record {
                  long = ap length done.labelled ∙ length-set p v t ∙ inv.ordered.long;
                  ok = rw done.labelled ok';
                  places = long' ∙ inv.ordered.places;
                  within = (let a = done.pushes.within in omega arith);
                  inside = rw done.pushes.stacked_is (inside-by d.fits);
                  stood = done.stood;
                  summed = summed';
                }

            bounded' : spent counts' d.top d.cut ≤ spent counts₀ c₀.top c₀.cut + 0
            bounded' = omega (arith, inv.bounded, more', falls, few, top-by d.fits refl, goal'.positive)

            -- the definition moves it too
            moved : (hs : List ℤ) → after s tr (at p (v ∷ stacked stack (c.top - 1)) counts hs false) (stacked stack (c.top - 1)) v ≡ at p' (stacked stack' d.top) counts' (gain s.graph p v t ∷ hs) (not d.fits)
            unfolding after
            moved hs =
                let fit : leb (length new + length (stacked stack (c.top - 1))) s.places ≡ d.fits =
                ap₂ (λ (a b : ℕ). leb (length new + a) b) stacked-size (sym inv.ordered.places) ∙ sym done.pushes.fits_is in
                rw (goes, all_movable, ← done.labelled, fit, done.pushes.stacked_is, counts-are, goes)

            less : d.cut * (s.places + 1) + d.top + 1 ≤ c.cut * (s.places + 1) + c.top
            less =
                let a = falls in
                let g = goal'.positive in
                let m = mul-le-mul_right (s.places + 1) (let q : d.cut + 1 ≤ c.cut = omega arith in q) in
                let h = add-mul d.cut 1 (s.places + 1) in
                let e = one-mul (s.places + 1) in
                let w = done.pushes.within in
                let r = inv.ordered.places in
                omega arith

            next' : (gs : List ℤ) → (hs : List ℤ) × (f : ℕ) × (drain s (fuel s p₀) (at p₀ (stacked stack₀ c₀.top) counts₀ gs (not c₀.fits)) ≡ drain s f (at p' (stacked stack' d.top) counts' hs (not d.fits))) × (d.cut * (s.places + 1) + d.top ≤ f)
            next' gs =
                let a = next gs in
                let m = a.3 in
                let n = less in
                (gain s.graph p v t ∷ a.0, a.1, a.2 ∙ ap (drain s a.1) (moved a.0), omega arith)

            -- its pushes fit
            turn-goes : d.fits ≡ true → Draining s p₀ stack₀ c₀ counts₀ p' stack' d counts'
            turn-goes e = record {
              ordered = ready';
              bounded = bounded';
              empty = λ f. (let o : ◌≡◌ {A = ℕ} 0 1 = cc in absurd (omega arith));
              rest = next';
            }

            -- they do not
            turn-full : d.fits ≡ false → Done (λ x. drain s (fuel s p₀) (standing c₀.fits x)) s p₀ stack₀ c₀.top c₀.cut counts₀ 0 p' stack' counts' d
            turn-full e = record {
              leads = λ gs. (let a = next' gs in (a.0, a.2 ∙ ap (λ (b : Bool). drain s a.1 (at p' (stacked stack' d.top) counts' a.0 (not b))) e ∙ drain-full s a.1 p' (stacked stack' d.top) counts' a.0 ∙ ap (λ (b : Bool). at p' (stacked stack' d.top) counts' a.0 (not b)) (sym e)));
              emptied = λ q. (let o : ◌≡◌ {A = ℕ} 0 1 = cc in absurd (omega arith));
              ordered = ready';
              bounded = bounded';
            }

      -- ---- the attempt made and noted: whatever came of it
      module _ (p' stack' : List ℕ) (r : Attempted) (long' : length stack' ≡ length stack) (done : AttemptDone s p stack c p' stack' r) (counts' : RunRecord) (counts-are : counts' ≡ noted r.trial counts) where
        abbrev stays-for : Type 0
        stays-for = (t x : ℕ) → r.trial ≡ Goes t x → ⊥

        -- the trial stays, or goes somewhere
        cases : (Q : Type 0) → (stays-for → Q) → ((t x : ℕ) → r.trial ≡ Goes t x → Q) → Q
        cases Q a b = by r.trial refl
          where
            by : (tr : Trial) → r.trial ≡ tr → Q
            by NoGain e = a (λ t x f. (let o : ◌≡◌ {A = ℕ} 0 1 = cc in absurd (omega arith)))
            by BadBalance e = a (λ t x f. (let o : ◌≡◌ {A = ℕ} 0 1 = cc in absurd (omega arith)))
            by (Goes t x) e = b t x e

        pub again : r.st.fits ≡ true → Draining s p₀ stack₀ c₀ counts₀ p' stack' r.st counts'
        again e = cases (Draining s p₀ stack₀ c₀ counts₀ p' stack' r.st counts')
            (λ h. (let q = done.moved.stays h in rw (q.0, q.1, q.2) (turn-stays r.trial done.tried counts' counts-are h)))
            (λ t x g. turn-goes r.trial done.tried counts' counts-are t x g p' stack' r.st long' (done.moved.goes t x g) e)

        pub full : r.st.fits ≡ false → Done (λ x. drain s (fuel s p₀) (standing c₀.fits x)) s p₀ stack₀ c₀.top c₀.cut counts₀ 0 p' stack' counts' r.st
        full e = cases (Done (λ x. drain s (fuel s p₀) (standing c₀.fits x)) s p₀ stack₀ c₀.top c₀.cut counts₀ 0 p' stack' counts' r.st)
            (λ h. (let q : r.st.fits ≡ c.fits = ap (λ (d : Standing). d.fits) (done.moved.stays h).2 in let f = fits_is in let o : ◌≡◌ {A = ℕ} 0 1 = cc in absurd (omega arith)))
            (λ t x g. turn-full r.trial done.tried counts' counts-are t x g p' stack' r.st long' (done.moved.goes t x g) e)

        -- and the measure falls
        pub lessens : r.st.cut * (s.places + 1) + r.st.top < c.cut * (s.places + 1) + c.top
        lessens = cases (r.st.cut * (s.places + 1) + r.st.top < c.cut * (s.places + 1) + c.top)
            (λ h. (let q = done.moved.stays h in rw q.2 (omega (arith, l))))
            (λ t x g. (let a = less r.trial done.tried counts' counts-are t x g p' stack' r.st long' (done.moved.goes t x g) in omega arith))

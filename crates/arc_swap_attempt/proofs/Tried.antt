-- What the code's tests tell of a trial: which of its three outcomes it is. Assumes nothing.
use mathlib.Core.Path.{◌≡◌, refl, sym, ap, ◌∙◌}
use mathlib.Core.Bool.{Bool, true, false, not}
use mathlib.Core.List.{List}
use mathlib.Core.Option.{Option, none, some}
use Prim.Native.Nat.{ℕ, ◌+◌, ◌-◌, ◌≤◌, ◌<◌}
use native.Mathlib.Omega.{arith}
use lib.ListN.{length, get_or}
use lib.Dec.{ltb, leb, eqb}
use lib.Signed.{le_z}
use borrow.Author.Tests.{lt-ltb, le-ltb, le-leb, lt-leb, leb-true, leb-false, eqb-false, not-true}
use Rattle.lists.specs.Fill.{table}
use Rattle.lists.proofs.Bests.{best-in}
use Rattle.lists.proofs.Tables.{table_at}
use Rattle.imbalance.specs.Limit.{most_weight}
use Rattle.imbalance.specs.Load.{part, load}
use Rattle.imbalance.proofs.PartLoads.{load-within}
use Rattle.topology.specs.Graph.{Graph, into, gain}
use Rattle.topology.proofs.Moves.{load-holds}
use Rattle.arc_swap_attempt.specs.Trial.{aim, has_gain, trial}
use Rattle.arc_swap_attempt.specs.inner.Steps.{picked, best_by, Named, Tryable}
use Rattle.arc_swap_attempt.specs.declared.Target.{Target}
use Rattle.arc_swap_attempt.specs.declared.Trial.TheVariants.{NoGain, BadBalance, Goes}
use Rattle.arc_swap_attempt.proofs.Aims.{target_is, gain-none, has-gain-is}

-- what is aimed at is another of the k parts
pub aim-in : (g : Graph) (k : ℕ) (p : List ℕ) (v t : ℕ) → aim g k p v ≡ some t → (t < k) × (t ≡ part p v → ⊥)
unfolding aim
aim-in g k p v t e =
    let r = best-in (λ t. not (eqb t (part p v))) (λ t u. le_z (gain g p v u) (gain g p v t)) k t e in
    (r.0, eqb-false t (part p v) (not-true (eqb t (part p v)) r.1))

-- What a trial that goes tells: the aim, its gain x, which is above 0, and the room in it.
pub record Goal (g : Graph) (k : ℕ) (ws ceilings p : List ℕ) (v t x : ℕ) : Type 0 where
  pub aim-is : aim g k p v ≡ some t
  pub sums : into g p v t ≡ x + into g p v (part p v)
  pub positive : 0 < x
  pub room : load ws p t + get_or ws v 0 ≤ get_or ceilings t 0

-- ---- the trial by its aim: no other part has a say in it
module _ (g : Graph) (k : ℕ) (ws ceilings p : List ℕ) (v : ℕ) where
  aimless : aim g k p v ≡ none → trial g k ws ceilings p v ≡ NoGain
  unfolding trial
  aimless e = rw (e, trial)

  module _ (t : ℕ) (e : aim g k p v ≡ some t) where
    gainless : into g p v t ≤ into g p v (part p v) → trial g k ws ceilings p v ≡ NoGain
    unfolding trial
    gainless l = rw (e, trial) (rw (gain-none g k p v t, le-leb (into g p v t) (into g p v (part p v)) l))

    -- "Else target load above the ceiling: bad-balance count": also where the next best part has room and a gain
    full : into g p v (part p v) < into g p v t → get_or ceilings t 0 < load ws p t + get_or ws v 0 → trial g k ws ceilings p v ≡ BadBalance
    unfolding trial
    full l m =
        rw (e, trial)
        (rw (gain-none g k p v t, lt-leb (into g p v t) (into g p v (part p v)) l, lt-ltb (get_or ceilings t 0) (load ws p t + get_or ws v 0) m))

    roomy : into g p v (part p v) < into g p v t → load ws p t + get_or ws v 0 ≤ get_or ceilings t 0 → trial g k ws ceilings p v ≡ Goes t (into g p v t - into g p v (part p v))
    unfolding trial
    roomy l m =
        rw (e, trial)
        (rw (gain-none g k p v t, lt-leb (into g p v t) (into g p v (part p v)) l, le-ltb (get_or ceilings t 0) (load ws p t + get_or ws v 0) m))

  pub goal : (t x : ℕ) → trial g k ws ceilings p v ≡ Goes t x → Goal g k ws ceilings p v t x
  goal t x e = go (aim g k p v) refl
    where
      pick : (u : ℕ) → aim g k p v ≡ some u → (b : Bool) → leb (into g p v u) (into g p v (part p v)) ≡ b → (d : Bool) → leb (load ws p u + get_or ws v 0) (get_or ceilings u 0) ≡ d → Goal g k ws ceilings p v t x
      pick u q true r d s =
          let n = gainless u q (leb-true (into g p v u) (into g p v (part p v)) r) in
          let o : ◌≡◌ {A = ℕ} 0 1 = cc in
          absurd (omega arith)
      pick u q false r false s =
          let n = full u q (leb-false (into g p v u) (into g p v (part p v)) r) (leb-false (load ws p u + get_or ws v 0) (get_or ceilings u 0) s) in
          let o : ◌≡◌ {A = ℕ} 0 1 = cc in
          absurd (omega arith)
      pick u q false r true s =
          let l = leb-false (into g p v u) (into g p v (part p v)) r in
          let m = leb-true (load ws p u + get_or ws v 0) (get_or ceilings u 0) s in
          let n = roomy u q l m in
          let ut : u ≡ t = cc in
          let ix : into g p v u - into g p v (part p v) ≡ x = cc in
          record { aim-is = q ∙ ap some ut; sums = rw (← ut) (omega arith); positive = omega arith; room = rw (← ut) m }

      go : (o : Option ℕ) → aim g k p v ≡ o → Goal g k ws ceilings p v t x
      go none q =
          let n = aimless q in
          let o : ◌≡◌ {A = ℕ} 0 1 = cc in
          absurd (omega arith)
      go (some u) q = pick u q (leb (into g p v u) (into g p v (part p v))) refl (leb (load ws p u + get_or ws v 0) (get_or ceilings u 0)) refl

  -- an attempt that does not go has no positive gain to its aim, or no room in it
  pub not-goes : (t : ℕ) → aim g k p v ≡ some t → ((u x : ℕ) → trial g k ws ceilings p v ≡ Goes u x → ⊥) → load ws p t + get_or ws v 0 ≤ get_or ceilings t 0 → into g p v t ≤ into g p v (part p v)
  not-goes t e stays fits = go (leb (into g p v t) (into g p v (part p v))) refl
    where
      go : (b : Bool) → leb (into g p v t) (into g p v (part p v)) ≡ b → into g p v t ≤ into g p v (part p v)
      go true q = leb-true (into g p v t) (into g p v (part p v)) q
      go false q = absurd (stays t (into g p v t - into g p v (part p v)) (roomy t e (leb-false (into g p v t) (into g p v (part p v)) q) fits))

-- ---- the trial by the code's sums and loads
module _ (g : Graph) (k : ℕ) (p : List ℕ) (v : ℕ) (ok : Named g k p) (here : v < length p) (at : List ℕ) (own : ℕ) (c : Target)
    (own_is : own ≡ part p v) (at-is : at ≡ table 16 (into g p v)) (best-is : c ≡ picked own (λ t. get_or at t 0) (best_by (λ t. get_or at t 0) own k)) where
  pub own_below : own < 16
  own_below = omega (arith, ok.named v here, ok.few)

  own-sum : get_or at own 0 ≡ into g p v (part p v)
  own-sum = rw at-is (table_at 16 own 0 (into g p v) own_below ∙ ap (into g p v) own_is)

  aimed : c ≡ picked (part p v) (into g p v) (aim g k p v)
  aimed = target_is g k p v at c ok.few at-is (rw own_is at best-is)

  -- "whose largest gain is now positive", as the sums tell it
  pub has-gain-by : ltb (get_or at own 0) c.sum ≡ has_gain g k p v
  has-gain-by = ap (λ (x : ℕ). ltb x c.sum) own-sum ∙ has-gain-is g k p v c aimed

  -- a positive gain: the best part and its sum
  gains-to : get_or at own 0 < c.sum → (aim g k p v ≡ some c.part) × (c.sum ≡ into g p v c.part)
  gains-to l = go (aim g k p v) refl
    where
      go : (o : Option ℕ) → aim g k p v ≡ o → (aim g k p v ≡ some c.part) × (c.sum ≡ into g p v c.part)
      go none q =
          let r : c.sum ≡ 0 = ap (λ (x : Target). x.sum) (aimed ∙ ap (picked (part p v) (into g p v)) q) in
          absurd (omega arith)
      go (some t) q =
          let r = aimed ∙ ap (picked (part p v) (into g p v)) q in
          let s : c.part ≡ t = ap (λ (x : Target). x.part) r in
          (q ∙ ap some (sym s), ap (λ (x : Target). x.sum) r ∙ ap (into g p v) (sym s))

  pub target_below : get_or at own 0 < c.sum → c.part < 16
  target_below l = omega (arith, (aim-in g k p v c.part (gains-to l).0).0, ok.few)

  module _ (ws ceilings loads : List ℕ) (ask : Tryable g k ws ceilings loads p v) where
    load_is : get_or at own 0 < c.sum → get_or loads c.part 0 ≡ load ws p c.part
    load_is l = rw ask.loaded (table_at 16 c.part 0 (load ws p) (target_below l))

    pub load-small : get_or at own 0 < c.sum → get_or loads c.part 0 ≤ most_weight
    load-small l = omega (arith, load_is l, load-within ws p ask.weighed c.part, ask.light)

    pub weight-small : get_or ws v 0 ≤ most_weight
    weight-small = omega (arith, load-holds ws p v here, load-within ws p ask.weighed (part p v), ask.light)

    pub no-gain : c.sum ≤ get_or at own 0 → NoGain ≡ trial g k ws ceilings p v
    no-gain l = go (aim g k p v) refl
      where
        go : (o : Option ℕ) → aim g k p v ≡ o → NoGain ≡ trial g k ws ceilings p v
        go none q = sym (aimless g k ws ceilings p v q)
        go (some t) q =
            let r : c.sum ≡ into g p v t = ap (λ (x : Target). x.sum) (aimed ∙ ap (picked (part p v) (into g p v)) q) in
            sym (gainless g k ws ceilings p v t q (omega (arith, own-sum)))

    -- with a positive gain the load decides
    module _ (l : get_or at own 0 < c.sum) (x : ℕ) (x-is : x ≡ get_or loads c.part 0 + get_or ws v 0) where
      gains : into g p v (part p v) < into g p v c.part
      gains = omega (arith, own-sum, (gains-to l).1)

      pub heavy : get_or ceilings c.part 0 < x → BadBalance ≡ trial g k ws ceilings p v
      heavy m = sym (full g k ws ceilings p v c.part (gains-to l).0 gains (omega (arith, load_is l)))

      pub goes : x ≤ get_or ceilings c.part 0 → Goes c.part (c.sum - get_or at own 0) ≡ trial g k ws ceilings p v
      goes m = rw ((gains-to l).1, own-sum) (sym (roomy g k ws ceilings p v c.part (gains-to l).0 gains (omega (arith, load_is l))))

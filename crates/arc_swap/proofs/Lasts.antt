-- The fuel of the definitions never runs out: the stack is emptied or full, and one pass more in hand changes nothing. Assumes nothing.
use mathlib.Core.Path.{◌≡◌, refl, sym, ap}
use mathlib.Core.Bool.{Bool, true, false, cond}
use mathlib.Core.List.{List, [], ◌∷◌, ◌++◌}
use mathlib.Core.Logic.{◌⊎◌, inl, inr}
use Prim.Native.Nat.{ℕ, zero, suc, ◌+◌, ◌-◌, ◌*◌, ◌≤◌, ◌<◌}
use native.Mathlib.Omega.{arith}
use native.Mathlib.Nat.{mul-le-mul_right, add-mul, one-mul}
use lib.ListN.{length, set, length-append}
use lib.Dec.{ltb, leb, eqb}
use borrow.Author.Tests.{ltb-true, leb-true, eqb-false}
use Rattle.topology.specs.Graph.{first, past}
use Rattle.topology.specs.Rule.{Symmetric}
use Rattle.topology.specs.Cut.{cut}
use Rattle.topology.proofs.Moves.{cut-move}
use Rattle.arc_swap_attempt.specs.Trial.{pushed, trial}
use Rattle.arc_swap_attempt.specs.inner.Steps.{Named}
use Rattle.arc_swap_attempt.specs.declared.Trial.{Trial}
use Rattle.arc_swap_attempt.specs.declared.Trial.TheVariants.{NoGain, BadBalance, Goes}
use Rattle.arc_swap_attempt.proofs.Tried.{goal}
use Rattle.arc_swap.specs.Run.{Terms, State, after, attempt, drain, enough, first_push, sweep, run}
use Rattle.arc_swap.specs.inner.Steps.{no_vertex, also}
use Rattle.arc_swap.proofs.Keeps.{Holds, holds_after}
use Rattle.arc_swap.proofs.Spreads.{inside-top}

module _ (s : Terms) (n : ℕ) (symmetric : Symmetric n s.graph) where
  -- nothing is to be kept but that labels and stack are in order
  abbrev Fine : State → Type 0
  Fine st = Holds s n (λ p c gs. 0 ≤ 0) (λ p c gs tr stays k. k) (λ p c gs v t x e l g k. k) st

  -- how many attempts are left at most: each takes a vertex off the stack or lowers the cut
  abbrev left : State → ℕ
  left st = cut s.graph st.labels * (s.places + 1) + length st.stack

  after_fewer : (st : State) (rest : List ℕ) (v : ℕ) → Fine st → st.stack ≡ v ∷ rest → length st.stack ≤ s.places → (tr : Trial) → tr ≡ trial s.graph s.parts s.weights s.ceilings st.labels v → (length (after s tr st rest v).stack ≤ s.places) × (left (after s tr st rest v) < left st)
  unfolding after
  after_fewer st rest v h e l NoGain q = let a = ap length e in (omega arith, omega arith)
  after_fewer st rest v h e l BadBalance q = let a = ap length e in (omega arith, omega arith)
  after_fewer st rest v h e l (Goes t x) q =
      let a = ap length e in
      let r = by (leb (length new + length rest) s.places) refl (omega arith) in
      let lo = lower in
      let m = mul-le-mul_right (s.places + 1) (let w : cut s.graph (set st.labels v t) + 1 ≤ cut s.graph st.labels = omega arith in w) in
      let d = add-mul (cut s.graph (set st.labels v t)) 1 (s.places + 1) in
      let o = one-mul (s.places + 1) in
      (r, omega arith)
    where
      new : List ℕ
      new = pushed s.graph s.parts s.movable (set st.labels v t) v (past s.graph v - first s.graph v)

      lower : cut s.graph (set st.labels v t) < cut s.graph st.labels
      lower =
          let g = goal s.graph s.parts s.weights s.ceilings st.labels v t x (sym q) in
          let a = cut-move s.graph st.labels v t (rw h.long symmetric) (rw h.long (inside-top (rw e at h.inside))) in
          let b = g.sums in
          let c = g.positive in
          omega arith

      by : (b : Bool) → leb (length new + length rest) s.places ≡ b → length rest ≤ s.places → length (cond b (new ++ rest) rest) ≤ s.places
      by true z k = let w = leb-true (length new + length rest) s.places z in let y = length-append new rest in omega arith
      by false z k = k

  drain-ends : (f : ℕ) (st : State) → Fine st → length st.stack ≤ s.places → left st ≤ f → ((drain s f st).full ≡ true) ⊎ ((drain s f st).stack ≡ [])
  unfolding drain attempt
  drain-ends zero st h l k = inr (none st.stack (omega arith))
    where
      none : (l : List ℕ) → length l ≤ 0 → l ≡ []
      none [] z = refl
      none (x ∷ l) z = absurd (omega arith)
  drain-ends (suc f) st h l k = by st.full refl st.stack refl (λ t a b c. drain-ends f t a b c)
    where
      by : (b : Bool) → st.full ≡ b → (xs : List ℕ) → st.stack ≡ xs → ((t : State) → Fine t → length t.stack ≤ s.places → left t ≤ f → ((drain s f t).full ≡ true) ⊎ ((drain s f t).stack ≡ [])) → let d : State = elim b [ true ↦ st | false ↦ elim xs [ [] ↦ st | v ∷ rest ↦ drain s f (after s (trial s.graph s.parts s.weights s.ceilings st.labels v) st rest v) ] ] in (d.full ≡ true) ⊎ (d.stack ≡ [])
      by true q xs e ih = inl q
      by false q [] e ih = inr e
      by false q (v ∷ rest) e ih =
          let tr = trial s.graph s.parts s.weights s.ceilings st.labels v in
          let a = after_fewer st rest v h e l tr refl in
          ih (after s tr st rest v) (holds_after s n (λ p c gs. 0 ≤ 0) (λ p c gs tr stays k. k) (λ p c gs v t x e l g k. k) st rest v h e tr refl) a.0 (let z = a.1 in omega arith)

  -- "and then the stack is emptied": a turn's attempts end with the stack empty or pushes that did not fit
  pub drain-lasts : (st : State) (v : ℕ) → v < n → length st.labels ≡ n → Named s.graph s.parts st.labels → let d = drain s (enough s st) (first_push s st v) in (d.full ≡ true) ⊎ (d.stack ≡ [])
  unfolding first_push
  drain-lasts st v l e ok = by (eqb s.places 0) refl
    where
      by : (b : Bool) → eqb s.places 0 ≡ b → let d = drain s (enough s st) (cond b (record { labels = st.labels; stack = []; counts = st.counts; gains = st.gains; full = true }) (record { labels = st.labels; stack = v ∷ []; counts = st.counts; gains = st.gains; full = false })) in (d.full ≡ true) ⊎ (d.stack ≡ [])
      by true q = drain-ends (enough s st) (record { labels = st.labels; stack = []; counts = st.counts; gains = st.gains; full = true }) (record { long = e; ok = ok; inside = no_vertex; kept = omega arith }) (omega arith) (let a = add-mul (cut s.graph st.labels) 1 (s.places + 1) in omega arith)
      by false q =
          let ne = eqb-false s.places 0 q in
          let a = add-mul (cut s.graph st.labels) 1 (s.places + 1) in
          let o = one-mul (s.places + 1) in
          drain-ends (enough s st) (record { labels = st.labels; stack = v ∷ []; counts = st.counts; gains = st.gains; full = false }) (record { long = e; ok = ok; inside = also l no_vertex; kept = omega arith }) (omega (arith, ne)) (omega arith)

-- a pass more in hand changes nothing: each pass but the last lowers the cut
pub passes-last : (s : Terms) (f i : ℕ) (st : State) → cut s.graph st.labels < f → run s (suc f) i st ≡ run s f i st
unfolding run
passes-last s zero i st l = absurd (omega arith)
passes-last s (suc f) i st l = by (sweep s (length st.labels) st) (λ t k. passes-last s f (i + 1) t k)
  where
    by : (t : State) → ((u : State) → cut s.graph u.labels < f → run s (suc f) (i + 1) u ≡ run s f (i + 1) u) → cond t.full (record { end = 2; passes = i + 1; state = t }) (cond (ltb (cut s.graph t.labels) (cut s.graph st.labels)) (run s (suc f) (i + 1) t) (record { end = 1; passes = i + 1; state = t })) ≡ cond t.full (record { end = 2; passes = i + 1; state = t }) (cond (ltb (cut s.graph t.labels) (cut s.graph st.labels)) (run s f (i + 1) t) (record { end = 1; passes = i + 1; state = t }))
    by t ih = pick t.full (ltb (cut s.graph t.labels) (cut s.graph st.labels)) refl
      where
        pick : (x y : Bool) → ltb (cut s.graph t.labels) (cut s.graph st.labels) ≡ y → cond x (record { end = 2; passes = i + 1; state = t }) (cond y (run s (suc f) (i + 1) t) (record { end = 1; passes = i + 1; state = t })) ≡ cond x (record { end = 2; passes = i + 1; state = t }) (cond y (run s f (i + 1) t) (record { end = 1; passes = i + 1; state = t }))
        pick true y q = refl
        pick false true q = ih t (let a = ltb-true (cut s.graph t.labels) (cut s.graph st.labels) q in omega arith)
        pick false false q = refl

-- A pass of gain 0 moves nothing, so that no vertex's trial goes: after end 1 no single block would lower the cut. Assumes nothing.
use mathlib.Core.Path.{◌≡◌, refl, sym, ap, ◌∙◌}
use mathlib.Core.Bool.{Bool, true, false, not, cond, ◌&&◌}
use mathlib.Core.List.{List, [], ◌∷◌}
use mathlib.Core.Logic.{◌⊎◌, inl, inr, ⊎_elim}
use Prim.Native.Nat.{ℕ, zero, suc, ◌+◌, ◌-◌, ◌≤◌, ◌<◌}
use native.Mathlib.Omega.{arith}
use native.Mathlib.Nat.{add-mul, one-mul}
use lib.ListN.{length, set}
use lib.Dec.{ltb, eqb}
use lib.IntN.{ℤ}
use borrow.Author.Tests.{ne_eqb, eqb-true, eqb-false, ltb-true, ltb-false, not-false}
use Rattle.lists.specs.Sum.{between, weigh}
use Rattle.lists.specs.All.{any_from}
use Rattle.lists.proofs.Alls.{any_at}
use Rattle.lists.proofs.Totals.{sum-ext, sum-zero}
use Rattle.imbalance.specs.Load.{part}
use Rattle.topology.specs.Graph.{Graph, first, past, neighbour, weight, arcs, into, gain}
use Rattle.topology.specs.Rule.{Symmetric}
use Rattle.topology.specs.Cut.{cut}
use Rattle.topology.proofs.Moves.{cut-move}
use Rattle.arc_swap_attempt.specs.Trial.{trial}
use Rattle.arc_swap_attempt.specs.inner.Steps.{Named}
use Rattle.arc_swap_attempt.specs.declared.Trial.{Trial}
use Rattle.arc_swap_attempt.specs.declared.Trial.TheVariants.{NoGain, BadBalance, Goes}
use Rattle.arc_swap_attempt.proofs.Tried.{Goal, goal, aim-in, not-goes}
use Rattle.arc_swap.specs.declared.RunRecord.{RunRecord}
use Rattle.arc_swap.specs.Run.{Terms, State, Run, noted, after, attempt, drain, enough, on_cut, first_push, turn, sweep, run}
use Rattle.arc_swap.specs.Entry.{begin}
use Rattle.arc_swap.specs.inner.Steps.{no_vertex, also, at}
use Rattle.arc_swap.specs.Demand.{NoSingleBlock}
use Rattle.arc_swap.proofs.Keeps.{Holds, holds_after, holds-drain, holds-turn, holds-sweep}
use Rattle.arc_swap.proofs.Drains.{drain-full, drain-empty}
use Rattle.arc_swap.proofs.Spreads.{inside-top}

-- a vertex with no neighbour in another part has no arc into one
into-none : (g : Graph) (p : List ℕ) (v t : ℕ) → on_cut g p v ≡ false → (t ≡ part p v → ⊥) → into g p v t ≡ 0
unfolding on_cut any_from into arcs between
into-none g p v t e ne =
    sum-ext (past g v - first g v) (λ i. weigh (eqb (part p (neighbour g (first g v + i))) t) (weight g (first g v + i))) (λ i. 0) (λ i l. at i l) ∙ sum-zero (past g v - first g v)
  where
    at : (i : ℕ) → i < past g v - first g v → weigh (eqb (part p (neighbour g (first g v + i))) t) (weight g (first g v + i)) ≡ 0
    at i l =
        let a = any_at (past g v - first g v) i (λ j. not (eqb (part p (neighbour g (first g v + j))) (part p v))) e l in
        let q = eqb-true (part p (neighbour g (first g v + i))) (part p v) (not-false (eqb (part p (neighbour g (first g v + i))) (part p v)) a) in
        rw (ne_eqb (part p (neighbour g (first g v + i))) t (λ r. ne (sym r ∙ q)))

module _ (s : Terms) (n : ℕ) (symmetric : Symmetric n s.graph) where
  -- v's trial does not go
  abbrev Stays : List ℕ → ℕ → Type 0
  Stays p v = (t x : ℕ) → trial s.graph s.parts s.weights s.ceilings p v ≡ Goes t x → ⊥

  off-stays : (p : List ℕ) (v : ℕ) → on_cut s.graph p v ≡ false → Stays p v
  off-stays p v e t x q =
      let g = goal s.graph s.parts s.weights s.ceilings p v t x q in
      let z = into-none s.graph p v t e (aim-in s.graph s.parts p v t g.aim-is).1 in
      let a = g.sums in
      let b = g.positive in
      omega arith

  -- a move lowers the cut
  lower : (p : List ℕ) (v t x : ℕ) → length p ≡ n → v < n → Goal s.graph s.parts s.weights s.ceilings p v t x → cut s.graph (set p v t) < cut s.graph p
  lower p v t x e l g =
      let a = cut-move s.graph p v t (rw e symmetric) (rw e l) in
      let b = g.sums in
      let c = g.positive in
      omega arith

  -- the cut stays below a bound
  abbrev Under : ℕ → List ℕ → RunRecord → List ℤ → Type 0
  Under b p c gs = cut s.graph p ≤ b

  under-stay : (b : ℕ) (p : List ℕ) (c : RunRecord) (gs : List ℤ) (tr : Trial) → ((t x : ℕ) → tr ≡ Goes t x → ⊥) → Under b p c gs → Under b p (noted tr c) gs
  under-stay b p c gs tr stays k = k

  under-go : (b : ℕ) (p : List ℕ) (c : RunRecord) (gs : List ℤ) (v t x : ℕ) → length p ≡ n → v < n → Goal s.graph s.parts s.weights s.ceilings p v t x → Under b p c gs → Under b (set p v t) (noted (Goes t x) c) (gain s.graph p v t ∷ gs)
  under-go b p c gs v t x e l g k = omega (arith, lower p v t x e l g)

  abbrev Below : ℕ → State → Type 0
  Below b st = Holds s n (Under b) (under-stay b) (under-go b) st

  -- a lower bound, where it holds
  tighter : (b d : ℕ) (st : State) → Below b st → cut s.graph st.labels ≤ d → Below d st
  tighter b d st h l = record { long = h.long; ok = h.ok; inside = h.inside; kept = l }

  -- v alone on the stack: the cut falls, or v's trial does not go and nothing moves
  module _ (f : ℕ) (p : List ℕ) (c : RunRecord) (gs : List ℤ) (v : ℕ) (h : Below (cut s.graph p) (at p (v ∷ []) c gs false)) where
    alone-by : (tr : Trial) → tr ≡ trial s.graph s.parts s.weights s.ceilings p v → let d = drain s f (after s tr (at p (v ∷ []) c gs false) [] v) in (cut s.graph d.labels < cut s.graph p) ⊎ (Stays p v × (d.labels ≡ p))
    unfolding after
    alone-by NoGain q = inr ((λ t x r. (let o : ◌≡◌ {A = ℕ} 0 1 = cc in omega arith)), ap (λ (x : State). x.labels) (drain-empty s f p (noted NoGain c) gs))
    alone-by BadBalance q = inr ((λ t x r. (let o : ◌≡◌ {A = ℕ} 0 1 = cc in omega arith)), ap (λ (x : State). x.labels) (drain-empty s f p (noted BadBalance c) gs))
    alone-by (Goes t x) q =
        let b = cut s.graph p in
        let a = holds_after s n (Under b) (under-stay b) (under-go b) (at p (v ∷ []) c gs false) [] v h refl (Goes t x) q in
        let d = cut s.graph (set p v t) in
        let st = after s (Goes t x) (at p (v ∷ []) c gs false) [] v in
        let k = holds-drain s n (Under d) (under-stay d) (under-go d) f st (tighter b d st a (omega arith)) in
        let m = k.kept in
        let l = lower p v t x h.long (inside-top h.inside) (goal s.graph s.parts s.weights s.ceilings p v t x (sym q)) in
        inl (omega arith)

    alone : let d = drain s (suc f) (at p (v ∷ []) c gs false) in (cut s.graph d.labels < cut s.graph p) ⊎ (Stays p v × (d.labels ≡ p))
    unfolding drain attempt
    alone = alone-by (trial s.graph s.parts s.weights s.ceilings p v) refl

  -- a turn fills the stack, or lowers the cut, or moves nothing as v's trial does not go
  abbrev Turned : State → ℕ → State → Type 0
  Turned st v t = (t.full ≡ true) ⊎ ((cut s.graph t.labels < cut s.graph st.labels) ⊎ ((s.movable v ≡ true → Stays st.labels v) × (t.labels ≡ st.labels)))

  turned : (st : State) (v : ℕ) → v < n → Below (cut s.graph st.labels) st → Turned st v (turn s st v)
  unfolding turn first_push
  turned st v l h = by (s.movable v && on_cut s.graph st.labels v) refl (eqb s.places 0)
    where
      size : enough s st ≡ suc (enough s st - 1)
      size =
          let a = add-mul (cut s.graph st.labels) 1 (s.places + 1) in
          let b = one-mul (s.places + 1) in
          omega arith

      one : Below (cut s.graph st.labels) (at st.labels (v ∷ []) st.counts st.gains false)
      one = record { long = h.long; ok = h.ok; inside = also l no_vertex; kept = h.kept }

      off : (b : Bool) → s.movable v && b ≡ false → s.movable v ≡ true → b ≡ false
      off true e m = let o : ◌≡◌ {A = ℕ} 0 1 = cc (rw m at e) in absurd (omega arith)
      off false e m = refl

      by : (b : Bool) → s.movable v && on_cut s.graph st.labels v ≡ b → (z : Bool) → Turned st v (cond b (drain s (enough s st) (cond z (at st.labels [] st.counts st.gains true) (at st.labels (v ∷ []) st.counts st.gains false))) st)
      by false e z = inr (inr ((λ m. off-stays st.labels v (off (on_cut s.graph st.labels v) e m)), refl))
      by true e true = inl (ap (λ (x : State). x.full) (drain-full s (enough s st) st.labels [] st.counts st.gains))
      by true e false =
          rw size
          (⊎_elim (λ a. inr (inl a)) (λ a. inr (inr ((λ m. a.0), a.1)))
          (alone (enough s st - 1) st.labels st.counts st.gains v one))

  -- the same of a pass
  abbrev Swept : State → ℕ → State → Type 0
  Swept st m t = (t.full ≡ true) ⊎ ((cut s.graph t.labels < cut s.graph st.labels) ⊎ (((v : ℕ) → v < m → s.movable v ≡ true → Stays st.labels v) × (t.labels ≡ st.labels)))

  swept : (m : ℕ) (st : State) → m ≤ n → Below (cut s.graph st.labels) st → Swept st m (sweep s m st)
  unfolding sweep
  swept zero st l h = inr (inr ((λ v k. absurd (omega arith)), refl))
  swept (suc m) st l h = by (sweep s m st).full refl (swept m st (omega arith) h)
    where
      b : ℕ
      b = cut s.graph st.labels

      u : State
      u = sweep s m st

      here : Below b u
      here = holds-sweep s n (Under b) (under-stay b) (under-go b) m st (omega arith) h

      tight : Below (cut s.graph u.labels) u
      tight = tighter b (cut s.graph u.labels) u here (omega arith)

      after_turn : cut s.graph (turn s u m).labels ≤ cut s.graph u.labels
      after_turn = (holds-turn s n (Under (cut s.graph u.labels)) (under-stay (cut s.graph u.labels)) (under-go (cut s.graph u.labels)) u m (omega arith) tight).kept

      quiet : ((v : ℕ) → v < m → s.movable v ≡ true → Stays st.labels v) × (u.labels ≡ st.labels) → Turned u m (turn s u m) → Swept st (suc m) (turn s u m)
      quiet q r =
          ⊎_elim (λ a. inl a)
          (λ x. ⊎_elim
          (λ a. inr (inl (let e = ap (cut s.graph) q.1 in omega arith)))
          (λ a. inr (inr ((λ v k mv. each v k mv (eqb v m) refl a.0), a.1 ∙ q.1)))
          x)
          r
        where
          each : (v : ℕ) → v < suc m → s.movable v ≡ true → (z : Bool) → eqb v m ≡ z → (s.movable m ≡ true → Stays u.labels m) → Stays st.labels v
          each v k mv true e g = let w = eqb-true v m e in rw w (rw q.1 at (g (rw (← w) mv)))
          each v k mv false e g = let ne = eqb-false v m e in q.0 v (omega (arith, ne)) mv

      by : (z : Bool) → u.full ≡ z → Swept st m u → Swept st (suc m) (cond z u (turn s u m))
      by true e r = inl e
      by false e r =
          ⊎_elim (λ a. (let o : ◌≡◌ {A = ℕ} 0 1 = cc (sym a ∙ e) in absurd (omega arith)))
          (λ x. ⊎_elim (λ a. inr (inl (let k = after_turn in omega arith))) (λ q. quiet q (turned u m (omega arith) tight)) x)
          r

  -- where no trial goes, no single block would lower the cut
  single : (p : List ℕ) → length p ≡ n → ((v : ℕ) → v < n → s.movable v ≡ true → Stays p v) → NoSingleBlock s p
  single p e stays v t l m a room =
      let i = not-goes s.graph s.parts s.weights s.ceilings p v t a (stays v (rw (← e) l) m) room in
      let c = cut-move s.graph p v t (rw e symmetric) l in
      omega arith

  single-from : (f i : ℕ) (st : State) → Below (cut s.graph st.labels) st → cut s.graph st.labels < f → (run s f i st).end ≡ 1 → NoSingleBlock s (run s f i st).state.labels
  unfolding run
  single-from zero i st h l e = absurd (omega arith)
  single-from (suc f) i st h l e = by (sweep s (length st.labels) st) (swept (length st.labels) st (let a = h.long in omega arith) h) fine e (λ t k m. single-from f (i + 1) t k m)
    where
      b : ℕ
      b = cut s.graph st.labels

      fine : Below b (sweep s (length st.labels) st)
      fine = holds-sweep s n (Under b) (under-stay b) (under-go b) (length st.labels) st (let a = h.long in omega arith) h

      next : State → Run
      next t = cond t.full (record { end = 2; passes = i + 1; state = t }) (cond (ltb (cut s.graph t.labels) b) (run s f (i + 1) t) (record { end = 1; passes = i + 1; state = t }))

      by : (t : State) → Swept st (length st.labels) t → Below b t → (next t).end ≡ 1 → ((w : State) → Below (cut s.graph w.labels) w → cut s.graph w.labels < f → (run s f (i + 1) w).end ≡ 1 → NoSingleBlock s (run s f (i + 1) w).state.labels) → NoSingleBlock s (next t).state.labels
      by t r k e ih = pick t.full refl (ltb (cut s.graph t.labels) b) refl e
        where
          pick : (x : Bool) → t.full ≡ x → (y : Bool) → ltb (cut s.graph t.labels) b ≡ y → (cond x (record { end = 2; passes = i + 1; state = t }) (cond y (run s f (i + 1) t) (record { end = 1; passes = i + 1; state = t }))).end ≡ 1 → NoSingleBlock s (cond x (record { end = 2; passes = i + 1; state = t }) (cond y (run s f (i + 1) t) (record { end = 1; passes = i + 1; state = t }))).state.labels
          pick true p y q z = absurd (omega arith)
          pick false p true q z = ih t (tighter b (cut s.graph t.labels) t k (omega arith)) (let a = ltb-true (cut s.graph t.labels) b q in omega arith) z
          pick false p false q z =
              ⊎_elim (λ a. (let o : ◌≡◌ {A = ℕ} 0 1 = cc (sym a ∙ p) in absurd (omega arith)))
              (λ x. ⊎_elim (λ a. (let m = ltb-false (cut s.graph t.labels) b q in absurd (omega arith)))
              (λ a. single t.labels k.long (λ v g m. rw a.1 (a.0 v (let w = h.long in omega arith) m))) x)
              r

  -- after end 1, where the passes last
  pub no-single-block : (p : List ℕ) → length p ≡ n → Named s.graph s.parts p → (f : ℕ) → cut s.graph p < f → (run s f 0 (begin p)).end ≡ 1 → NoSingleBlock s (run s f 0 (begin p)).state.labels
  no-single-block p e ok f l q = single-from f 0 (begin p) (record { long = e; ok = ok; inside = no_vertex; kept = omega arith }) l q

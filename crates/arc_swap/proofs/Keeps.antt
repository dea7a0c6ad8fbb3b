-- What every attempt keeps, the whole run keeps: one induction over the run's definition for every law of labels, counts and gains. Assumes nothing.
use mathlib.Core.Path.{◌≡◌, refl, sym, ◌∙◌}
use mathlib.Core.Bool.{Bool, true, false, cond, ◌&&◌}
use mathlib.Core.List.{List, [], ◌∷◌, ◌++◌}
use Prim.Native.Nat.{ℕ, zero, suc, ◌+◌, ◌-◌, ◌≤◌, ◌<◌}
use native.Mathlib.Omega.{arith}
use lib.ListN.{length, set, length-set}
use lib.Dec.{ltb, leb, eqb}
use lib.IntN.{ℤ}
use Rattle.topology.specs.Graph.{first, past, gain}
use Rattle.topology.specs.Rule.{Rows}
use Rattle.topology.specs.Cut.{cut}
use Rattle.arc_swap_attempt.specs.Trial.{pushed, trial}
use Rattle.arc_swap_attempt.specs.inner.Steps.{Named}
use Rattle.arc_swap_attempt.specs.declared.Trial.{Trial}
use Rattle.arc_swap_attempt.specs.declared.Trial.TheVariants.{NoGain, BadBalance, Goes}
use Rattle.arc_swap_attempt.proofs.Tried.{Goal, goal, aim-in}
use Rattle.arc_swap_attempt.proofs.Moving.{named-move}
use Rattle.arc_swap.specs.declared.RunRecord.{RunRecord}
use Rattle.arc_swap.specs.Run.{Terms, State, noted, after, attempt, drain, enough, on_cut, first_push, turn, sweep, run}
use Rattle.arc_swap.specs.inner.Steps.{Inside, no_vertex, also}
use Rattle.arc_swap.proofs.Spreads.{inside_both, inside-top, inside-rest, pushed-inside}

module _ (s : Terms) (n : ℕ) (P : List ℕ → RunRecord → List ℤ → Type 0)
    (stay : (p : List ℕ) (c : RunRecord) (gs : List ℤ) (tr : Trial) → ((t x : ℕ) → tr ≡ Goes t x → ⊥) → P p c gs → P p (noted tr c) gs)
    (go : (p : List ℕ) (c : RunRecord) (gs : List ℤ) (v t x : ℕ) → length p ≡ n → v < n → Goal s.graph s.parts s.weights s.ceilings p v t x → P p c gs → P (set p v t) (noted (Goes t x) c) (gain s.graph p v t ∷ gs)) where
  -- labels in order, vertices on the stack, and what is kept
  pub record Holds (st : State) : Type 0 where
    pub long : length st.labels ≡ n
    pub ok : Named s.graph s.parts st.labels
    pub inside : Inside n st.stack
    pub kept : P st.labels st.counts st.gains

  module _ (st : State) (rest : List ℕ) (v : ℕ) (h : Holds st) (e : st.stack ≡ v ∷ rest) where
    in-n : Inside n (v ∷ rest)
    in-n = rw e at h.inside

    pub holds_after : (tr : Trial) → tr ≡ trial s.graph s.parts s.weights s.ceilings st.labels v → Holds (after s tr st rest v)
    unfolding after
    holds_after NoGain q = record { long = h.long; ok = h.ok; inside = inside-rest in-n; kept = stay st.labels st.counts st.gains NoGain (λ t x r. (let o : ◌≡◌ {A = ℕ} 0 1 = cc in absurd (omega arith))) h.kept }
    holds_after BadBalance q = record { long = h.long; ok = h.ok; inside = inside-rest in-n; kept = stay st.labels st.counts st.gains BadBalance (λ t x r. (let o : ◌≡◌ {A = ℕ} 0 1 = cc in absurd (omega arith))) h.kept }
    holds_after (Goes t x) q =
        let g = goal s.graph s.parts s.weights s.ceilings st.labels v t x (sym q) in
        let here : v < length st.labels = rw h.long (inside-top in-n) in
        let l = length-set st.labels v t in
        record {
          long = l ∙ h.long;
          ok = named-move s.graph s.parts st.labels v t h.ok here (aim-in s.graph s.parts st.labels v t g.aim-is).0;
          inside = by (leb (length new + length rest) s.places);
          kept = go st.labels st.counts st.gains v t x h.long (inside-top in-n) g h.kept;
        }
      where
        new : List ℕ
        new = pushed s.graph s.parts s.movable (set st.labels v t) v (past s.graph v - first s.graph v)

        rows : Rows n s.graph
        rows = rw h.long at h.ok.rows

        by : (b : Bool) → Inside n (cond b (new ++ rest) rest)
        by true = inside_both (pushed-inside s.graph s.parts s.movable (set st.labels v t) v n rows (inside-top in-n) (past s.graph v - first s.graph v) (omega arith)) (inside-rest in-n)
        by false = inside-rest in-n

    holds-attempt : Holds (attempt s st rest v)
    unfolding attempt
    holds-attempt = holds_after (trial s.graph s.parts s.weights s.ceilings st.labels v) refl

  pub holds-drain : (f : ℕ) (st : State) → Holds st → Holds (drain s f st)
  unfolding drain
  holds-drain zero st h = h
  holds-drain (suc f) st h = by st.full st.stack refl (λ t k. holds-drain f t k)
    where
      by : (b : Bool) (l : List ℕ) → st.stack ≡ l → ((t : State) → Holds t → Holds (drain s f t)) → Holds (elim b [ true ↦ st | false ↦ elim l [ [] ↦ st | v ∷ rest ↦ drain s f (attempt s st rest v) ] ])
      by true l e ih = h
      by false [] e ih = h
      by false (v ∷ rest) e ih = ih (attempt s st rest v) (holds-attempt st rest v h e)

  pub holds-first : (st : State) (v : ℕ) → v < n → Holds st → Holds (first_push s st v)
  unfolding first_push
  holds-first st v l h = by (eqb s.places 0)
    where
      by : (b : Bool) → Holds (cond b (record { labels = st.labels; stack = []; counts = st.counts; gains = st.gains; full = true }) (record { labels = st.labels; stack = v ∷ []; counts = st.counts; gains = st.gains; full = false }))
      by true = record { long = h.long; ok = h.ok; inside = no_vertex; kept = h.kept }
      by false = record { long = h.long; ok = h.ok; inside = also l no_vertex; kept = h.kept }

  pub holds-turn : (st : State) (v : ℕ) → v < n → Holds st → Holds (turn s st v)
  unfolding turn
  holds-turn st v l h = by (s.movable v && on_cut s.graph st.labels v)
    where
      by : (b : Bool) → Holds (cond b (drain s (enough s st) (first_push s st v)) st)
      by true = holds-drain (enough s st) (first_push s st v) (holds-first st v l h)
      by false = h

  pub holds-sweep : (m : ℕ) (st : State) → m ≤ n → Holds st → Holds (sweep s m st)
  unfolding sweep
  holds-sweep zero st l h = h
  holds-sweep (suc m) st l h = by (sweep s m st).full (holds-sweep m st (omega arith) h)
    where
      by : (b : Bool) → Holds (sweep s m st) → Holds (cond b (sweep s m st) (turn s (sweep s m st) m))
      by true k = k
      by false k = holds-turn (sweep s m st) m (omega arith) k

  pub holds-run : (f i : ℕ) (st : State) → Holds st → Holds (run s f i st).state
  unfolding run
  holds-run zero i st h = h
  holds-run (suc f) i st h = by (sweep s (length st.labels) st) (holds-sweep (length st.labels) st (let a = h.long in omega arith) h) (λ t k. holds-run f (i + 1) t k)
    where
      by : (t : State) → Holds t → ((u : State) → Holds u → Holds (run s f (i + 1) u).state) → Holds (cond t.full (record { end = 2; passes = i + 1; state = t }) (cond (ltb (cut s.graph t.labels) (cut s.graph st.labels)) (run s f (i + 1) t) (record { end = 1; passes = i + 1; state = t }))).state
      by t k ih = pick t.full (ltb (cut s.graph t.labels) (cut s.graph st.labels))
        where
          pick : (a b : Bool) → Holds (cond a (record { end = 2; passes = i + 1; state = t }) (cond b (run s f (i + 1) t) (record { end = 1; passes = i + 1; state = t }))).state
          pick true b = k
          pick false true = ih t k
          pick false false = k

-- Demand 3, last sentence: no board ends above the larger of its own ceiling and its starting load. Assumes nothing.
use mathlib.Core.Path.{◌≡◌, refl, ap}
use mathlib.Core.Bool.{Bool, true, false, cond}
use mathlib.Core.List.{List}
use mathlib.Core.Option.{some}
use Prim.Native.Nat.{ℕ, zero, suc, ◌+◌, max, ◌≤◌, ◌<◌}
use native.Mathlib.Omega.{arith}
use lib.Dec.{ltb, eqb}
use lib.ListN.{length, get_or}
use borrow.Author.Tests.{leb-true, eqb-true}
use Rattle.lists.specs.Sum.{weigh}
use Rattle.imbalance.specs.Load.{part, load}
use Rattle.topology.specs.Cut.{cut}
use Rattle.topology.proofs.Moves.{load-move}
use Rattle.fiduccia_mattheyses_choice.specs.Choice.{Terms, other, flip, after, fits, choice}
use Rattle.fiduccia_mattheyses_pass.specs.Pass.{State, start, move_on, flips, pass}
use Rattle.fiduccia_mattheyses_choice.proofs.Chosen.{allowed-is, chosen}
use Rattle.fiduccia_mattheyses_pass.proofs.Keeps.{Keeps, keeps-start, keeps-move, walk-keeps}
use Rattle.fiduccia_mattheyses.specs.Run.{Run, run}
use Rattle.fiduccia_mattheyses.specs.Demand.{NoBoardAbove}
use Rattle.fiduccia_mattheyses.proofs.Running.{run-last, run_more}
use Rattle.fiduccia_mattheyses.proofs.Least.{kept-labels, kept_move}

-- a vertex that fits raises no part's load above its ceiling, and raises no other load
fitting : (s : Terms) (p : List ℕ) (v t : ℕ) → v < length p → fits s p v ≡ true → load s.weights (flip p v) t ≤ max (get_or s.ceilings t 0) (load s.weights p t)
unfolding flip fits after
fitting s p v t l f = go (eqb (other (part p v)) t) refl
  where
    moved : load s.weights (flip p v) t + weigh (eqb (part p v) t) (get_or s.weights v 0) ≡ load s.weights p t + weigh (eqb (other (part p v)) t) (get_or s.weights v 0)
    moved = load-move s.weights p v (other (part p v)) t l

    go : (b : Bool) → eqb (other (part p v)) t ≡ b → load s.weights (flip p v) t ≤ max (get_or s.ceilings t 0) (load s.weights p t)
    go true e =
        let q = eqb-true (other (part p v)) t e in
        let r : load s.weights p t + get_or s.weights v 0 ≤ get_or s.ceilings t 0 = leb-true (load s.weights p t + get_or s.weights v 0) (get_or s.ceilings t 0) (rw q at f) in
        let m : load s.weights (flip p v) t + weigh (eqb (part p v) t) (get_or s.weights v 0) ≡ load s.weights p t + get_or s.weights v 0 = rw e at moved in
        omega arith
    go false e = let m : load s.weights (flip p v) t + weigh (eqb (part p v) t) (get_or s.weights v 0) ≡ load s.weights p t + 0 = rw e at moved in omega arith

module _ (s : Terms) (p : List ℕ) where
  -- labels by which each board's load is within the larger of its ceiling and its load by p
  abbrev Within : List ℕ → Type 0
  Within q = (t : ℕ) → t < 2 → load s.weights q t ≤ max (get_or s.ceilings t 0) (load s.weights p t)

  record Bounded (st : State) : Type 0 where
    keeps : Keeps s p st
    now : Within st.labels
    back : Within (kept-labels p st)

  bounded-move : (st : State) (v : ℕ) → choice s st.labels st.moved ≡ some v → Bounded st → Bounded (move_on s st v)
  unfolding move_on
  bounded-move st v c h = record {
    keeps = keeps-move s p st v h.keeps;
    now = here;
    back = λ t lt. rw (kept_move s p st v h.keeps) (pick (ltb (cut s.graph (flip st.labels v)) st.least) t lt);
  }
    where
      here : Within (flip st.labels v)
      here t lt =
          let i = (chosen s st.labels st.moved v).0 c in
          let a = fitting s st.labels v t i.here (allowed-is s st.labels st.moved v i.may).2 in
          let b = h.now t lt in
          omega arith

      pick : (b : Bool) → Within (cond b (flip st.labels v) (kept-labels p st))
      pick true = here
      pick false = h.back

  pass-within : Within (pass s p).labels
  unfolding pass flips
  pass-within = (walk-keeps s p Bounded bounded-move s.move_limit (start s p) (record { keeps = keeps-start s p; now = λ t lt. omega arith; back = λ t lt. omega arith })).back

-- "No board ends above the larger of its own ceiling and its starting load."
pub no-board-above : (s : Terms) (k : ℕ) (p : List ℕ) → NoBoardAbove s p (run s k p).labels
unfolding run
no-board-above s zero p t lt = omega arith
no-board-above s (suc k) p t lt = go (ltb (pass s p).least (cut s.graph p)) refl (no-board-above s k (pass s p).labels t lt)
  where
    once : load s.weights (pass s p).labels t ≤ max (get_or s.ceilings t 0) (load s.weights p t)
    once = pass-within s p t lt

    go : (b : Bool) → ltb (pass s p).least (cut s.graph p) ≡ b → load s.weights (run s k (pass s p).labels).labels t ≤ max (get_or s.ceilings t 0) (load s.weights (pass s p).labels t) → load s.weights (run s (suc k) p).labels t ≤ max (get_or s.ceilings t 0) (load s.weights p t)
    go true e ih = rw (ap (λ (x : Run). x.labels) (run_more s k p e)) (let o = once in omega arith)
    go false e ih = rw (ap (λ (x : Run). x.labels) (run-last s k p e)) once

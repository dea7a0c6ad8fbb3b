-- The states after each move made are as many as the moves that the rows count, so that none is left out. Assumes nothing.
use mathlib.Core.Path.{◌≡◌, refl, sym, ap, ap₂, ◌∙◌}
use mathlib.Core.Bool.{Bool, true, false, cond}
use mathlib.Core.List.{List, [], ◌++◌}
use mathlib.Core.Option.{Option, none, some}
use Prim.Native.Nat.{ℕ, zero, suc, ◌+◌}
use native.Mathlib.Omega.{arith}
use lib.Dec.{ltb}
use lib.ListN.{length, length-append}
use Rattle.lists.specs.Sum.{total}
use Rattle.lists.proofs.Totals.{total-none, total-cons}
use Rattle.topology.specs.Cut.{cut}
use Rattle.fiduccia_mattheyses_choice.specs.Choice.{Terms}
use Rattle.fiduccia_mattheyses_pass.specs.Pass.{State, start, next, walk, pass}
use Rattle.fiduccia_mattheyses_pass.proofs.Walks.{walk-stop, walk_step}
use Rattle.fiduccia_mattheyses_pass.proofs.MoveLimits.{next-longer}
use Rattle.fiduccia_mattheyses.specs.Run.{Run, run}
use Rattle.fiduccia_mattheyses.specs.Demand.{states_from, states}
use Rattle.fiduccia_mattheyses.proofs.Running.{mades, run-last, run_more}

module _ (s : Terms) where
  -- a walk has a state for each vertex that it moves
  states-from : (k : ℕ) (st : State) → length (states_from s k st) + length st.moved ≡ length (walk s k st).moved
  unfolding states_from walk
  states-from zero st = omega arith
  states-from (suc k) st = go (next s st) refl (states-from k)
    where
      go : (o : Option State) → next s st ≡ o → ((t : State) → length (states_from s k t) + length t.moved ≡ length (walk s k t).moved) → length (states_from s (suc k) st) + length st.moved ≡ length (walk s (suc k) st).moved
      go none e ih = rw (walk-stop s (suc k) st e) (rw (e, states_from) (omega arith))
      go (some t) e ih =
          let l = next-longer s st t e in
          let i = ih t in
          rw (walk_step s k st t e) (rw (e, states_from) (omega arith))

  pass-states : (p : List ℕ) → length (states_from s s.move_limit (start s p)) ≡ (pass s p).made
  unfolding pass
  pass-states p = let h = states-from s.move_limit (start s p) in omega arith

  -- There is a state for each move made in the rows of the run.
  pub states-counted : (k : ℕ) (p : List ℕ) → length (states s k p) ≡ total (mades (run s k p).rows)
  unfolding states run
  states-counted zero p = sym total-none
  states-counted (suc k) p = go (ltb (pass s p).least (cut s.graph p)) refl (states-counted k (pass s p).labels)
    where
      moved : List (List ℕ)
      moved = states_from s s.move_limit (start s p)

      go : (b : Bool) → ltb (pass s p).least (cut s.graph p) ≡ b → length (states s k (pass s p).labels) ≡ total (mades (run s k (pass s p).labels).rows) → length (states s (suc k) p) ≡ total (mades (run s (suc k) p).rows)
      go true e ih =
          ap (λ (b : Bool). length (cond b (moved ++ states s k (pass s p).labels) moved)) e
          ∙ length-append moved (states s k (pass s p).labels)
          ∙ ap₂ ◌+◌ (pass-states p) ih
          ∙ sym (total-cons (pass s p).made (mades (run s k (pass s p).labels).rows))
          ∙ ap (λ (x : Run). total (mades x.rows)) (sym (run_more s k p e))
      go false e ih =
          ap (λ (b : Bool). length (cond b (moved ++ states s k (pass s p).labels) moved)) e
          ∙ pass-states p
          ∙ sym (total-cons (pass s p).made [] ∙ (let z = total-none in omega arith))
          ∙ ap (λ (x : Run). total (mades x.rows)) (sym (run-last s k p e))

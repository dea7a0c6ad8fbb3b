-- Demand 3, first sentence: a run leaves the earliest labels of least cut among its start and the states after each move made. Assumes nothing.
use mathlib.Core.Path.{◌≡◌, refl, sym, ap, ap₂, ◌∙◌}
use mathlib.Core.Bool.{Bool, true, false, cond}
use mathlib.Core.List.{List, [], ◌∷◌, ◌++◌}
use mathlib.Core.Option.{Option, none, some}
use Prim.Native.Nat.{ℕ, zero, suc, ◌+◌}
use native.Mathlib.Omega.{arith}
use lib.Dec.{ltb}
use lib.ListN.{length, take, length-append}
use lib.Seq.{take_all, take-append-le}
use Rattle.topology.specs.Cut.{cut}
use Rattle.fiduccia_mattheyses_choice.specs.Choice.{Terms, flip}
use Rattle.fiduccia_mattheyses_pass.specs.Pass.{State, start, move_on, next, walk, flips, pass}
use Rattle.fiduccia_mattheyses_pass.proofs.Backs.{flips-more}
use Rattle.fiduccia_mattheyses_pass.proofs.Walks.{walk-stop, walk_step}
use Rattle.fiduccia_mattheyses_pass.proofs.Keeps.{Keeps, keeps-start, keeps-move, next-moves}
use Rattle.fiduccia_mattheyses.specs.Run.{Run, run}
use Rattle.fiduccia_mattheyses.specs.Demand.{earliest, states_from, states, LeavesTheLeast}
use Rattle.fiduccia_mattheyses.proofs.Running.{run-last, run_more}

-- the labels that a pass from p goes back to, where it ends in this state
abbrev pub kept-labels : List ℕ → State → List ℕ
kept-labels p st = flips p (take st.kept st.moved)

-- the earliest of a list and more is the earliest of what the list gives and the rest
earliest-append : (m : List ℕ → ℕ) (x : List ℕ) (xs ys : List (List ℕ)) → earliest m x (xs ++ ys) ≡ earliest m (earliest m x xs) ys
unfolding earliest
earliest-append m x [] ys = refl
earliest-append m x (z ∷ xs) ys = go (ltb (m z) (m x)) (earliest-append m z xs ys) (earliest-append m x xs ys)
  where
    go : (t : Bool) → earliest m z (xs ++ ys) ≡ earliest m (earliest m z xs) ys → earliest m x (xs ++ ys) ≡ earliest m (earliest m x xs) ys → cond t (earliest m z (xs ++ ys)) (earliest m x (xs ++ ys)) ≡ earliest m (cond t (earliest m z xs) (earliest m x xs)) ys
    go true a b = a
    go false a b = b

module _ (s : Terms) (p : List ℕ) where
  abbrev measure : List ℕ → ℕ
  measure = cut s.graph

  -- a move goes back to the labels after it where they cut less than any before, and else to those that it went back to before
  pub kept_move : (st : State) (v : ℕ) → Keeps s p st → kept-labels p (move_on s st v) ≡ cond (ltb (measure (flip st.labels v)) st.least) (flip st.labels v) (kept-labels p st)
  unfolding move_on
  kept_move st v k = go (ltb (measure (flip st.labels v)) st.least)
    where
      go : (t : Bool) → flips p (take (cond t (length st.moved + 1) st.kept) (st.moved ++ (v ∷ []))) ≡ cond t (flip st.labels v) (kept-labels p st)
      go true =
          ap (flips p) (take_all (length st.moved + 1) (st.moved ++ (v ∷ [])) (let a = length-append st.moved (v ∷ []) in omega arith))
          ∙ flips-more p st.moved v
          ∙ ap (λ (l : List ℕ). flip l v) (sym k.from)
      go false = ap (flips p) (take-append-le st.kept st.moved (v ∷ []) k.within)

  labels-of : (st : State) (v : ℕ) → (move_on s st v).labels ≡ flip st.labels v
  unfolding move_on
  labels-of st v = refl

  states-step : (k : ℕ) (st t : State) → next s st ≡ some t → states_from s (suc k) st ≡ t.labels ∷ states_from s k t
  unfolding states_from
  states-step k st t e = rw (e, states_from)

  -- a walk goes back to the earliest of least cut among what its first state goes back to and the states after each move
  walk-earliest : (k : ℕ) (st : State) → Keeps s p st → kept-labels p (walk s k st) ≡ earliest measure (kept-labels p st) (states_from s k st)
  unfolding walk states_from earliest
  walk-earliest zero st h = refl
  walk-earliest (suc k) st h = go (next s st) refl (walk-earliest k)
    where
      pick : (b : Bool) (x y : List ℕ) (rest : List (List ℕ)) → earliest measure (cond b x y) rest ≡ cond b (earliest measure x rest) (earliest measure y rest)
      pick true x y rest = refl
      pick false x y rest = refl

      go : (o : Option State) → next s st ≡ o → ((t : State) → Keeps s p t → kept-labels p (walk s k t) ≡ earliest measure (kept-labels p t) (states_from s k t)) → kept-labels p (walk s (suc k) st) ≡ earliest measure (kept-labels p st) (states_from s (suc k) st)
      go none e ih = rw (walk-stop s (suc k) st e) (rw (e, states_from) refl)
      go (some t) e ih =
          let m = next-moves s st t e in
          let v = m.0 in
          let here : t.labels ≡ flip st.labels v = ap (λ (x : State). x.labels) m.2 ∙ labels-of st v in
          let kt : Keeps s p t = rw m.2 (keeps-move s p st v h) in
          let low : ltb (measure (flip st.labels v)) st.least ≡ ltb (measure t.labels) (measure (kept-labels p st)) = ap₂ ltb (ap measure (sym here)) h.least_is in
          ap (kept-labels p) (walk_step s k st t e)
          ∙ ih t kt
          ∙ ap (λ (x : List ℕ). earliest measure x (states_from s k t)) (ap (kept-labels p) m.2 ∙ kept_move st v h ∙ ap (λ (b : Bool). cond b (flip st.labels v) (kept-labels p st)) low ∙ ap (λ (x : List ℕ). cond (ltb (measure t.labels) (measure (kept-labels p st))) x (kept-labels p st)) (sym here))
          ∙ pick (ltb (measure t.labels) (measure (kept-labels p st))) t.labels (kept-labels p st) (states_from s k t)
          ∙ ap (earliest measure (kept-labels p st)) (sym (states-step k st t e))

  pub pass-earliest : (pass s p).labels ≡ earliest measure p (states_from s s.move_limit (start s p))
  unfolding pass flips
  pass-earliest = walk-earliest s.move_limit (start s p) (keeps-start s p)

-- "the two-part FM run leaves the labels of the least cut among its start and the states after each move made, the earliest of equals"
pub leaves-the-least : (s : Terms) (k : ℕ) (p : List ℕ) → LeavesTheLeast s k p (run s k p).labels
unfolding run states earliest
leaves-the-least s zero p = refl
leaves-the-least s (suc k) p = go (ltb (pass s p).least (cut s.graph p)) refl (leaves-the-least s k (pass s p).labels)
  where
    m : List ℕ → ℕ
    m = cut s.graph

    moved : List (List ℕ)
    moved = states_from s s.move_limit (start s p)

    go : (b : Bool) → ltb (pass s p).least (cut s.graph p) ≡ b → LeavesTheLeast s k (pass s p).labels (run s k (pass s p).labels).labels → (run s (suc k) p).labels ≡ earliest m p (cond (ltb (pass s p).least (cut s.graph p)) (moved ++ states s k (pass s p).labels) moved)
    go true e ih =
        ap (λ (x : Run). x.labels) (run_more s k p e)
        ∙ ih
        ∙ ap (λ (x : List ℕ). earliest m x (states s k (pass s p).labels)) (pass-earliest s p)
        ∙ sym (earliest-append m p moved (states s k (pass s p).labels))
        ∙ ap (λ (b : Bool). earliest m p (cond b (moved ++ states s k (pass s p).labels) moved)) (sym e)
    go false e ih =
        ap (λ (x : Run). x.labels) (run-last s k p e)
        ∙ pass-earliest s p
        ∙ ap (λ (b : Bool). earliest m p (cond b (moved ++ states s k (pass s p).labels) moved)) (sym e)

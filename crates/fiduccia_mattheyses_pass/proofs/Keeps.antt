-- What every state of a pass keeps: its labels are those after its moves, and its least cut is that of the state it would go back to. Assumes nothing.
use mathlib.Core.Path.{◌≡◌, refl, sym, ap, ◌∙◌}
use mathlib.Core.Bool.{Bool, true, false, cond, ◌&&◌}
use mathlib.Core.List.{List, [], ◌∷◌, ◌++◌}
use mathlib.Core.Option.{Option, none, some}
use Prim.Native.Nat.{ℕ, zero, suc, ◌+◌, ◌≤◌}
use native.Mathlib.Omega.{arith}
use lib.Dec.{ltb, leb}
use lib.ListN.{length, take, length-append}
use lib.Seq.{take_all, take-append-le}
use Rattle.topology.specs.Cut.{cut}
use Rattle.fiduccia_mattheyses_choice.specs.Choice.{Terms, flip, choice, is_bad}
use Rattle.fiduccia_mattheyses_pass.specs.Pass.{State, start, move_on, next, walk, flips}
use Rattle.fiduccia_mattheyses_pass.proofs.Backs.{flips-more}
use Rattle.fiduccia_mattheyses_pass.proofs.Walks.{walk-stop, walk_step}

-- a next state comes of the vertex chosen
pub next-moves : (s : Terms) (st t : State) → next s st ≡ some t → (v : ℕ) × (choice s st.labels st.moved ≡ some v) × (t ≡ move_on s st v)
unfolding next
next-moves s st t e = go (choice s st.labels st.moved) refl
  where
    arm : (b : Bool) (v : ℕ) → choice s st.labels st.moved ≡ some v → cond b none (some (move_on s st v)) ≡ some t → (v : ℕ) × (choice s st.labels st.moved ≡ some v) × (t ≡ move_on s st v)
    arm true v c r = let o : ◌≡◌ {A = ℕ} 0 1 = cc in absurd (omega arith)
    arm false v c r = let q : move_on s st v ≡ t = cc in (v, c, sym q)

    go : (o : Option ℕ) → choice s st.labels st.moved ≡ o → (v : ℕ) × (choice s st.labels st.moved ≡ some v) × (t ≡ move_on s st v)
    go none q = let r : none ≡ some t = sym (rw (q, next) refl) ∙ e in let o : ◌≡◌ {A = ℕ} 0 1 = cc in absurd (omega arith)
    go (some v) q = arm (is_bad s st.labels v && leb s.bad_limit st.bad) v q (rw (q, next) at e)

pub record Keeps (s : Terms) (p : List ℕ) (st : State) : Type 0 where
  pub from : st.labels ≡ flips p st.moved
  pub within : st.kept ≤ length st.moved
  pub least_is : st.least ≡ cut s.graph (flips p (take st.kept st.moved))

module _ (s : Terms) (p : List ℕ) where
  pub keeps-start : Keeps s p (start s p)
  unfolding flips
  keeps-start = record { from = refl; within = omega arith; least_is = refl }

  pub keeps-move : (st : State) (v : ℕ) → Keeps s p st → Keeps s p (move_on s st v)
  unfolding move_on
  keeps-move st v k = record {
    from = ap (λ (l : List ℕ). flip l v) k.from ∙ sym (flips-more p st.moved v);
    within = rw (length-append st.moved (v ∷ [])) (within (ltb c st.least));
    least_is = least (ltb c st.least);
  }
    where
      c : ℕ
      c = cut s.graph (flip st.labels v)

      within : (t : Bool) → cond t (length st.moved + 1) st.kept ≤ length st.moved + 1
      within true = omega arith
      within false = let h = k.within in omega arith

      least : (t : Bool) → cond t c st.least ≡ cut s.graph (flips p (take (cond t (length st.moved + 1) st.kept) (st.moved ++ (v ∷ []))))
      least true =
          ap (cut s.graph)
          (ap (λ (l : List ℕ). flip l v) k.from
          ∙ sym (flips-more p st.moved v)
          ∙ ap (flips p) (sym (take_all (length st.moved + 1) (st.moved ++ (v ∷ [])) (let a = length-append st.moved (v ∷ []) in omega arith))))
      least false = k.least_is ∙ ap (λ (l : List ℕ). cut s.graph (flips p l)) (sym (take-append-le st.kept st.moved (v ∷ []) k.within))

  -- whatever every move keeps, a walk keeps
  pub walk-keeps : (P : State → Type 0) → ((st : State) (v : ℕ) → choice s st.labels st.moved ≡ some v → P st → P (move_on s st v)) → (k : ℕ) (st : State) → P st → P (walk s k st)
  unfolding walk
  walk-keeps P step zero st h = h
  walk-keeps P step (suc k) st h = go (next s st) refl (walk-keeps P step k)
    where
      go : (o : Option State) → next s st ≡ o → ((t : State) → P t → P (walk s k t)) → P (walk s (suc k) st)
      go none e ih = rw (walk-stop s (suc k) st e) h
      go (some t) e ih =
          let m = next-moves s st t e in
          rw (walk_step s k st t e) (ih t (rw m.2 (step st m.0 m.1 h)))

  pub keeps-walk : (k : ℕ) → Keeps s p (walk s k (start s p))
  keeps-walk k = walk-keeps (Keeps s p) (λ st v c h. keeps-move st v h) k (start s p) keeps-start

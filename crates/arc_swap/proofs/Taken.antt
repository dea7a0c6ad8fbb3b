-- A vertex's turn: whether it is on the cut, the first push, and what its turn comes to. Assumes nothing.
use mathlib.Core.Path.{◌≡◌, refl, sym, ap, ◌∙◌}
use mathlib.Core.Bool.{Bool, true, false, not}
use mathlib.Core.List.{List, [], ◌∷◌}
use Prim.Native.Nat.{ℕ, ◌+◌, ◌*◌, ◌≤◌, ◌<◌}
use native.Mathlib.Omega.{arith}
use lib.ListN.{length, set, length-set}
use lib.Dec.{eqb}
use lib.IntN.{ℤ}
use borrow.Author.Tests.{eq-eqb, ne_eqb, eqb-true, eqb-false}
use Rattle.lists.specs.All.{any_from}
use Rattle.lists.proofs.Alls.{any-from-empty, any-from-more, any-from-holds}
use Rattle.imbalance.specs.Load.{part}
use Rattle.topology.specs.Graph.{Graph, first, past, neighbour}
use Rattle.topology.specs.inner.Row.{RowsAlone}
use Rattle.topology.specs.Cut.{cut}
use Rattle.topology.proofs.RowWalks.{Walk, enters, further, at-end}
use Rattle.arc_swap_attempt.specs.inner.Steps.{stacked}
use Rattle.arc_swap_attempt.specs.declared.Standing.{Standing}
use Rattle.arc_swap_attempt.proofs.Stacks.{stacked-push, stacked-none}
use Rattle.arc_swap.specs.declared.RunRecord.{RunRecord}
use Rattle.arc_swap.specs.Run.{Terms, State, drain, on_cut, first_push, turn}
use Rattle.arc_swap.specs.inner.Steps.{no_vertex, also, at, standing, spent, most, Asked, TurnAsked, Done, FirstDone}
use Rattle.arc_swap.proofs.Drains.{drain-empty}

-- ---- the neighbours in another part
-- the arcs from a up to e lead to v's own part
pub record Looking (g : Graph) (p : List ℕ) (v a b e : ℕ) : Type 0 where
  pub walk : Walk (length p) g.neighbours a b e
  pub none_yet : any_from a e (λ i. not (eqb (part p (neighbour g i)) (part p v))) ≡ false

module _ (g : Graph) (p : List ℕ) (v : ℕ) where
  abbrev away : ℕ → Bool
  away i = not (eqb (part p (neighbour g i)) (part p v))

  module _ (a b : ℕ) where
    pub begins : RowsAlone (length p) g.starts g.neighbours → v < length p → a ≡ first g v → b ≡ past g v → Looking g p v a b a
    begins ok here q r = record { walk = enters (rw (q, r) (ok.row v here)); none_yet = any-from-empty a 0 away }

    module _ (e : ℕ) (inv : Looking g p v a b e) where
      module _ (l : e < b) (u : ℕ) (u-is : u ≡ neighbour g e) where
        pub found : a ≡ first g v → b ≡ past g v → (part p u ≡ part p v → ⊥) → true ≡ on_cut g p v
        unfolding on_cut
        found q r ne =
            let f = inv.walk.from in
            sym (any-from-holds (first g v) (past g v) away e (omega arith) (omega arith) (rw (← u-is, ne_eqb (part p u) (part p v) ne)))

        pub passed : part p u ≡ part p v → Looking g p v a b (e + 1)
        passed q = record {
          walk = further inv.walk l;
          none_yet = any-from-more a e away inv.walk.from ∙ rw (inv.none_yet, ← u-is, eq-eqb (part p u) (part p v) q);
        }

      pub nowhere : a ≡ first g v → b ≡ past g v → b ≤ e → false ≡ on_cut g p v
      unfolding on_cut
      nowhere q r l = sym (rw (at-end inv.walk l, q, r) at inv.none_yet)

-- ---- the turn
module _ (s : Terms) (all_movable : s.movable ≡ (λ v. true)) where
  turn-off : (st : State) (v : ℕ) → on_cut s.graph st.labels v ≡ false → turn s st v ≡ st
  unfolding turn
  turn-off st v e = rw (all_movable, e)

  turn_on : (st : State) (v : ℕ) → on_cut s.graph st.labels v ≡ true → turn s st v ≡ drain s ((cut s.graph st.labels + 1) * (s.places + 1)) (first_push s st v)
  unfolding turn
  turn_on st v e = rw (all_movable, e)

  push-full : (p l : List ℕ) (c : RunRecord) (gs : List ℤ) (v : ℕ) → s.places ≡ 0 → first_push s (at p l c gs false) v ≡ at p [] c gs true
  unfolding first_push
  push-full p l c gs v e = rw (eq-eqb s.places 0 e)

  push-one : (p l : List ℕ) (c : RunRecord) (gs : List ℤ) (v : ℕ) → (s.places ≡ 0 → ⊥) → first_push s (at p l c gs false) v ≡ at p (v ∷ []) c gs false
  unfolding first_push
  push-one p l c gs v e = rw (ne_eqb s.places 0 e)

  module _ (p stack : List ℕ) (c : Standing) (counts : RunRecord) (ask : TurnAsked s p stack c counts 1) (v : ℕ) (here : v < length p) where
    abbrev fuel : ℕ
    fuel = (cut s.graph p + 1) * (s.places + 1)

    modest₀ : spent counts 0 c.cut + 1 ≤ most
    modest₀ = rw ask.empty at ask.asked.modest

    -- what a first push comes to: the turn is the emptying of the stack from there, which is asked for
    record Pushed (stack₁ : List ℕ) (b : Standing) : Type 0 where
      turns : (gs : List ℤ) → turn s (at p (stacked stack 0) counts gs false) v ≡ drain s fuel (at p (stacked stack₁ b.top) counts gs (not b.fits))
      asked : Asked s p stack₁ b.top b.cut b.loads.at counts 0
      empty : b.fits ≡ false → b.top ≡ 0
      bounded : spent counts b.top b.cut ≤ spent counts 0 c.cut + 1

    -- v is not on the cut
    off : on_cut s.graph p v ≡ false → Pushed stack c
    off e = record {
      turns = λ gs. turn-off (at p (stacked stack 0) counts gs false) v e ∙ rw (ask.empty, ask.fit, stacked-none) (sym (drain-empty s fuel p counts gs));
      asked = record { fixed = ask.asked.fixed; ordered = ask.asked.ordered; modest = (let a = ask.asked.modest in omega arith) };
      empty = λ f. ask.empty;
      bounded = rw ask.empty (omega arith);
    }

    module _ (e : on_cut s.graph p v ≡ true) where
      -- there is no place for it
      no_place : length stack ≡ 0 → Pushed stack (record { fits = false; top = c.top; cut = c.cut; loads = c.loads })
      no_place z = record {
        turns = λ gs. turn_on (at p (stacked stack 0) counts gs false) v e ∙ ap (drain s fuel) (push-full p (stacked stack 0) counts gs v (sym ask.asked.ordered.places ∙ z) ∙ rw (ask.empty, stacked-none));
        asked = record { fixed = ask.asked.fixed; ordered = ask.asked.ordered; modest = (let a = ask.asked.modest in omega arith) };
        empty = λ f. ask.empty;
        bounded = rw ask.empty (omega arith);
      }

      module _ (z : length stack ≡ 0 → ⊥) where
        big : 0 < length stack
        big = omega (arith, z)

        alone : stacked (set stack 0 v) 1 ≡ v ∷ []
        alone = stacked-push stack 0 v big ∙ ap (λ (l : List ℕ). v ∷ l) (stacked-none stack)

        -- v stands alone on the stack
        on : Pushed (set stack 0 v) (record { fits = c.fits; top = 1; cut = c.cut; loads = c.loads })
        on = record {
          turns = λ gs. turn_on (at p (stacked stack 0) counts gs false) v e ∙ ap (drain s fuel) (push-one p (stacked stack 0) counts gs v (λ r. z (ask.asked.ordered.places ∙ r)) ∙ rw (alone, ask.fit));
          asked = record {
            fixed = ask.asked.fixed;
            ordered = record {
              long = refl;
              ok = ask.asked.ordered.ok;
              places = length-set stack 0 v ∙ ask.asked.ordered.places;
              within = (let a = length-set stack 0 v in let b = big in omega arith);
              inside = rw alone (also here no_vertex);
              stood = ask.asked.ordered.stood;
              summed = ask.asked.ordered.summed;
            };
            modest = (let a = modest₀ in omega arith);
          };
          empty = λ f. (let g = ask.fit in let o : ◌≡◌ {A = ℕ} 0 1 = cc in absurd (omega arith));
          bounded = omega arith;
        }

    module _ (stack₁ : List ℕ) (b : Standing) (first : FirstDone s.graph p stack v c stack₁ b) where
      pushed : Pushed stack₁ b
      pushed = by (on_cut s.graph p v) refl (eqb (length stack) 0) refl
        where
          by : (o : Bool) → on_cut s.graph p v ≡ o → (n : Bool) → eqb (length stack) 0 ≡ n → Pushed stack₁ b
          by false e n q = let h = first.off e in rw (h.0, h.1) (off e)
          by true e true q = let z = eqb-true (length stack) 0 q in let h = first.full e z in rw (h.0, h.1) (no_place e z)
          by true e false q = let z = eqb-false (length stack) 0 q in let h = first.alone e z in rw (h.0, h.1) (on e z)

      pub drain-asked : Asked s p stack₁ b.top b.cut b.loads.at counts 0 × (b.fits ≡ false → b.top ≡ 0)
      drain-asked = (pushed.asked, pushed.empty)

      -- the stack is emptied: v had its turn
      pub turned : (p' stack' : List ℕ) (counts' : RunRecord) (d : Standing) → Done (λ x. drain s fuel (standing b.fits x)) s p stack₁ b.top b.cut counts 0 p' stack' counts' d → Done (λ x. turn s x v) s p stack 0 c.cut counts 1 p' stack' counts' d
      turned p' stack' counts' d h = record {
        leads = λ gs. (let a = h.leads gs in (a.0, pushed.turns gs ∙ a.1));
        emptied = h.emptied;
        ordered = h.ordered;
        bounded = (let a = h.bounded in let k = pushed.bounded in omega arith);
      }

-- what a first push answers
module _ (g : Graph) (p stack : List ℕ) (v : ℕ) (c : Standing) (b : Bool) (b-is : b ≡ on_cut g p v) where
  pub first_off : b ≡ false → FirstDone g p stack v c stack c
  first_off e = record {
    off = λ f. (refl, refl);
    full = λ f z. (let q = b-is in let o : ◌≡◌ {A = ℕ} 0 1 = cc in absurd (omega arith));
    alone = λ f z. (let q = b-is in let o : ◌≡◌ {A = ℕ} 0 1 = cc in absurd (omega arith));
  }

  module _ (e : b ≡ true) where
    pub first_alone : (length stack ≡ 0 → ⊥) → FirstDone g p stack v c (set stack 0 v) (record { fits = c.fits; top = 1; cut = c.cut; loads = c.loads })
    first_alone y = record {
      off = λ f. (let q = b-is in let o : ◌≡◌ {A = ℕ} 0 1 = cc in absurd (omega arith));
      full = λ f z. absurd (y z);
      alone = λ f z. (refl, refl);
    }

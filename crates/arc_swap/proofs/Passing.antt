-- A pass, turn by turn, and pass after pass: the code stands where the definition does, and the definition's fuel lasts. Assumes nothing.
use mathlib.Core.Path.{◌≡◌, refl, sym, ap, ◌∙◌}
use mathlib.Core.Bool.{Bool, true, false, not, cond}
use mathlib.Core.List.{List, []}
use Prim.Native.Nat.{ℕ, zero, suc, ◌+◌, ◌-◌, ◌≤◌, ◌<◌}
use native.Mathlib.Omega.{arith}
use native.Mathlib.Numerals.{add-one}
use lib.ListN.{length}
use Rattle.arc_swap_attempt.specs.inner.Steps.{stacked}
use Rattle.arc_swap_attempt.specs.declared.Standing.{Standing}
use Rattle.arc_swap_attempt.proofs.Stacks.{stacked-none}
use Rattle.arc_swap.specs.declared.RunRecord.{RunRecord}
use Rattle.arc_swap.specs.Run.{Terms, State, turn, sweep}
use Rattle.arc_swap.specs.inner.Steps.{Ordered, at, Leads, spent, most, TurnAsked, Done}

-- ---- the definition, step by step
module _ (s : Terms) where
  sweep-turn : (v : ℕ) (st : State) → (sweep s v st).full ≡ false → sweep s (suc v) st ≡ turn s (sweep s v st) v
  unfolding sweep
  sweep-turn v st e = ap (λ (b : Bool). cond b (sweep s v st) (turn s (sweep s v st) v)) e

  -- a pass whose pushes do not fit is over
  sweep-over : (v d : ℕ) (st : State) → (sweep s v st).full ≡ true → sweep s (d + v) st ≡ sweep s v st
  unfolding sweep
  sweep-over v zero st e = let q : 0 + v ≡ v = omega arith in rw q
  sweep-over v (suc d) st e =
      let q : suc d + v ≡ suc (d + v) = omega arith in
      let h = sweep-over v d st e in
      rw q (rw (h, e) refl)

-- where a pass stands before v's turn
pub record Sweeping (s : Terms) (p₀ stack₀ : List ℕ) (cut₀ : ℕ) (counts₀ : RunRecord) (v : ℕ) (p stack : List ℕ) (c : Standing) (counts : RunRecord) : Type 0 where
  pub empty : c.top ≡ 0
  pub fit : c.fits ≡ true
  pub ordered : Ordered s (length p₀) p stack c.top c.cut c.loads.at counts
  pub bounded : spent counts c.top c.cut ≤ spent counts₀ 0 cut₀ + v
  pub upto : v ≤ length p₀
  pub so_far : Leads (sweep s v) p₀ [] counts₀ p [] counts false

module _ (s : Terms) (p₀ stack₀ : List ℕ) (c₀ : Standing) (counts₀ : RunRecord) (ask : TurnAsked s p₀ stack₀ c₀ counts₀ (length p₀)) where
  pub sweeping : Sweeping s p₀ stack₀ c₀.cut counts₀ 0 p₀ stack₀ c₀ counts₀
  unfolding sweep
  sweeping = record {
    empty = ask.empty;
    fit = ask.fit;
    ordered = ask.asked.ordered;
    bounded = rw ask.empty (omega arith);
    upto = omega arith;
    so_far = λ gs. (gs, refl);
  }

  modest₀ : spent counts₀ 0 c₀.cut + length p₀ ≤ most
  modest₀ = rw ask.empty at ask.asked.modest

  module _ (v : ℕ) (p stack : List ℕ) (c : Standing) (counts : RunRecord) (inv : Sweeping s p₀ stack₀ c₀.cut counts₀ v p stack c counts) where
    -- v's turn
    module _ (inside : v < length p₀) where
      here : v < length p
      here = let a = inv.ordered.long in omega arith

      pub turn-asked : TurnAsked s p stack c counts 1 × (v < length p)
      turn-asked = (
        record {
          asked = record {
            fixed = rw inv.ordered.long ask.asked.fixed;
            ordered = rw inv.ordered.long inv.ordered;
            modest = (let a = inv.bounded in let b = modest₀ in let d = inside in omega arith);
          };
          empty = inv.empty;
          fit = inv.fit;
        },
        here,
      )

      module _ (p' stack' : List ℕ) (counts' : RunRecord) (d : Standing) (done : Done (λ x. turn s x v) s p stack 0 c.cut counts 1 p' stack' counts' d) where
        bounded' : spent counts' d.top d.cut ≤ spent counts₀ 0 c₀.cut + (v + 1)
        bounded' = let a = done.bounded in let b = inv.bounded in let z = inv.empty in omega arith

        ready' : Ordered s (length p₀) p' stack' d.top d.cut d.loads.at counts'
        ready' = rw inv.ordered.long at done.ordered

        one_on : Leads (sweep s (v + 1)) p₀ [] counts₀ p' (stacked stack' d.top) counts' (not d.fits)
        one_on gs =
            let a = inv.so_far gs in
            let b = done.leads a.0 in (
              b.0,
              ap (λ (n : ℕ). sweep s n (at p₀ [] counts₀ gs false)) (add-one v)
                  ∙ sweep-turn s v (at p₀ [] counts₀ gs false) (ap (λ (x : State). x.full) a.1)
                  ∙ ap (λ (x : State). turn s x v) (a.1 ∙ ap (λ (k : List ℕ). at p k counts a.0 false) (sym (stacked-none stack)))
                  ∙ b.1,
            )

        pub next-turn : d.fits ≡ true → Sweeping s p₀ stack₀ c₀.cut counts₀ (v + 1) p' stack' d counts'
        next-turn e =
            let z = done.emptied e in
            record {
              empty = z;
              fit = e;
              ordered = ready';
              bounded = bounded';
              upto = (let a = inside in omega arith);
              so_far = λ gs. (let a = one_on gs in (a.0, a.1 ∙ ap (λ (b : Bool). at p' (stacked stack' d.top) counts' a.0 (not b)) e ∙ ap (λ (n : ℕ). at p' (stacked stack' n) counts' a.0 false) z ∙ ap (λ (k : List ℕ). at p' k counts' a.0 false) (stacked-none stack')));
            }

        pub stopped : d.fits ≡ false → Done (sweep s (length p₀)) s p₀ stack₀ 0 c₀.cut counts₀ (length p₀) p' stack' counts' d
        stopped e = record {
          leads = λ gs. (let a = one_on gs in
              let q : length p₀ ≡ (length p₀ - (v + 1)) + (v + 1) = (let a = inside in omega arith) in
              let f : sweep s (v + 1) (at p₀ (stacked stack₀ 0) counts₀ gs false) ≡ at p' (stacked stack' d.top) counts' a.0 (not d.fits) = ap (λ (k : List ℕ). sweep s (v + 1) (at p₀ k counts₀ gs false)) (stacked-none stack₀) ∙ a.1 in
              (a.0, ap (λ (n : ℕ). sweep s n (at p₀ (stacked stack₀ 0) counts₀ gs false)) q ∙ sweep-over s (v + 1) (length p₀ - (v + 1)) (at p₀ (stacked stack₀ 0) counts₀ gs false) (ap (λ (x : State). x.full) f ∙ ap not e) ∙ f));
          emptied = λ q. (let o : ◌≡◌ {A = ℕ} 0 1 = cc in absurd (omega arith));
          ordered = ready';
          bounded = (let a = bounded' in let b = inside in omega arith);
        }

    -- every vertex had its turn
    pub swept : length p₀ ≤ v → Done (sweep s (length p₀)) s p₀ stack₀ 0 c₀.cut counts₀ (length p₀) p stack counts c
    swept l =
        let a = inv.upto in
        let q : v ≡ length p₀ = omega arith in
        record {
          leads = λ gs. (let b = inv.so_far gs in (b.0, ap (λ (n : ℕ). sweep s n (at p₀ (stacked stack₀ 0) counts₀ gs false)) (sym q) ∙ ap (λ (k : List ℕ). sweep s v (at p₀ k counts₀ gs false)) (stacked-none stack₀) ∙ b.1 ∙ rw (inv.empty, inv.fit, stacked-none)));
          emptied = λ e. inv.empty;
          ordered = inv.ordered;
          bounded = (let a = inv.bounded in omega arith);
        }

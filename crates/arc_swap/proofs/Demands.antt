-- The laws of a run: its cuts, its gains, its counts and its loads, over the definition and over every result that meets the call's promise. Assumes nothing.
use mathlib.Core.Path.{◌≡◌, refl, sym, ap₂, ◌∙◌}
use mathlib.Core.Bool.{Bool, true, false}
use mathlib.Core.List.{List, ◌∷◌}
use Prim.Native.Nat.{ℕ, max, ◌+◌, ◌≤◌, ◌<◌}
use native.Mathlib.Omega.{arith}
use native.Mathlib.Nat.{le-max_left, le-max_right}
use lib.ListN.{length, get_or, set}
use lib.Dec.{eqb}
use lib.IntN.{ℤ, sub_ℕ, ◌+ℤ◌}
use borrow.Author.Tests.{eqb-true}
use Rattle.lists.proofs.Differences as D
use Rattle.lists.specs.Sum.{weigh}
use Rattle.imbalance.specs.Load.{part, load}
use Rattle.topology.specs.Graph.{gain}
use Rattle.topology.specs.Rule.{Symmetric}
use Rattle.topology.specs.Cut.{cut}
use Rattle.topology.proofs.Moves.{cut-move, load-move, gain-is-the-fall-of-the-cut}
use Rattle.arc_swap_attempt.specs.inner.Steps.{Named}
use Rattle.arc_swap_attempt.specs.declared.Trial.{Trial}
use Rattle.arc_swap_attempt.specs.declared.Trial.TheVariants.{NoGain, BadBalance, Goes}
use Rattle.arc_swap_attempt.proofs.Tried.{Goal}
use Rattle.arc_swap.specs.declared.RunRecord.{RunRecord}
use Rattle.arc_swap.specs.Run.{Terms, noted, run, Summed}
use Rattle.arc_swap.specs.Entry.{begin}
use Rattle.arc_swap.specs.inner.Steps.{no_vertex}
use Rattle.arc_swap.specs.Demand.{gained, NoPartAbove}
use Rattle.arc_swap.proofs.Drains.{noted-summed}
use Rattle.arc_swap.proofs.Keeps.{holds-run}

module _ (s : Terms) (p₀ : List ℕ) (symmetric : Symmetric (length p₀) s.graph) (ok : Named s.graph s.parts p₀) where
  -- a move lowers the cut by its gain
  pub falls : (p : List ℕ) (v t x : ℕ) → length p ≡ length p₀ → v < length p₀ → Goal s.graph s.parts s.weights s.ceilings p v t x → cut s.graph (set p v t) + x ≡ cut s.graph p
  falls p v t x e l g =
      let a = cut-move s.graph p v t (rw e symmetric) (rw e l) in
      let b = g.sums in
      omega arith

  -- what is kept: the cut is at most the first, the gains sum to its fall, the counts are in order, no load is above its bound
  pub record Kept (p : List ℕ) (c : RunRecord) (gs : List ℤ) : Type 0 where
    pub lower : cut s.graph p ≤ cut s.graph p₀
    pub sums : sub_ℕ (cut s.graph p₀) (cut s.graph p) ≡ gained gs
    pub summed : Summed c
    pub counted : c.moves ≡ length gs
    pub loads : NoPartAbove s p₀ p

  stay : (p : List ℕ) (c : RunRecord) (gs : List ℤ) (tr : Trial) → ((t x : ℕ) → tr ≡ Goes t x → ⊥) → Kept p c gs → Kept p (noted tr c) gs
  stay p c gs tr stays k = record { lower = k.lower; sums = k.sums; summed = noted-summed tr c k.summed; counted = same tr stays ∙ k.counted; loads = k.loads }
    where
      same : (tr : Trial) → ((t x : ℕ) → tr ≡ Goes t x → ⊥) → (noted tr c).moves ≡ c.moves
      same NoGain stays = refl
      same BadBalance stays = refl
      same (Goes t x) stays = absurd (stays t x refl)

  go : (p : List ℕ) (c : RunRecord) (gs : List ℤ) (v t x : ℕ) → length p ≡ length p₀ → v < length p₀ → Goal s.graph s.parts s.weights s.ceilings p v t x → Kept p c gs → Kept (set p v t) (noted (Goes t x) c) (gain s.graph p v t ∷ gs)
  unfolding gained
  go p c gs v t x e l g k =
      let f = falls p v t x e l g in
      let a = k.lower in
      let n = k.counted in
      let falls-by = gain-is-the-fall-of-the-cut s.graph p v t (rw e symmetric) (rw e l) in
      record {
        lower = omega arith;
        sums =
            D.same (cut s.graph p₀) (cut s.graph (set p v t)) (cut s.graph p + cut s.graph p₀) (cut s.graph (set p v t) + cut s.graph p) (omega arith)
            ∙ sym (D.add (cut s.graph p) (cut s.graph (set p v t)) (cut s.graph p₀) (cut s.graph p))
            ∙ ap₂ (λ (a b : ℤ). a +ℤ b) (sym falls-by) k.sums;
        summed = noted-summed (Goes t x) c k.summed;
        counted = omega arith;
        loads = λ u. at u (eqb t u) refl (load-move s.weights p v t u (rw e l));
      }
    where
      at : (u : ℕ) (b : Bool) → eqb t u ≡ b → load s.weights (set p v t) u + weigh (eqb (part p v) u) (get_or s.weights v 0) ≡ load s.weights p u + weigh (eqb t u) (get_or s.weights v 0) → load s.weights (set p v t) u ≤ max (get_or s.ceilings u 0) (load s.weights p₀ u)
      at u true q m =
          let tu = eqb-true t u q in
          let r : load s.weights p u + get_or s.weights v 0 ≤ get_or s.ceilings u 0 = rw tu at g.room in
          let m' = rw q at m in
          let w = le-max_left (get_or s.ceilings u 0) (load s.weights p₀ u) in
          omega arith
      at u false q m =
          let m' = rw q at m in
          let w = k.loads u in
          omega arith

  pub kept : (f i : ℕ) → let st = (run s f i (begin p₀)).state in Kept st.labels st.counts st.gains
  unfolding gained
  kept f i = (holds-run s (length p₀) Kept stay go f i (begin p₀) (record {
    long = refl;
    ok = ok;
    inside = no_vertex;
    kept = record {
      lower = omega arith;
      sums = D.same (cut s.graph p₀) (cut s.graph p₀) 0 0 (omega arith);
      summed = refl;
      counted = refl;
      loads = λ t. le-max_right (get_or s.ceilings t 0) (load s.weights p₀ t);
    };
  })).kept

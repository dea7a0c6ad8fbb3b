-- Loads of the parts: what number 0 of the stand-alone loads tells, one turn of the loop that sums them, and how they stand to the total weight. Assumes nothing.
use Rattle.std.proofs.Common.{◌≡◌, ℕ, ◌+◌, ◌≤◌, Bool, true, false, cond, not, eqb, ltb, List, length, get_or, set, sym, refl, ap, ◌∙◌, add-zero, arith, ltb-false, eq-eqb, ne_eqb, eqb-true}
use Rattle.lists.specs.Sum.{sum, weigh, total}
use Rattle.lists.specs.Fill.{table}
use Rattle.lists.proofs.Bools.{weigh-most}
use Rattle.lists.proofs.Sums.{sum_more}
use Rattle.lists.proofs.Totals.{sum-ext, sum-swap, sum-only, sum-grows, sum_below}
use Rattle.lists.proofs.Tables.{table_at, table-set}
use Rattle.imbalance.specs.Limit.{most_vertices, heavy, label_above}
use Rattle.imbalance.specs.Load.{part, load, Loadable}
use Rattle.imbalance.specs.Number.{loads_number}
use Rattle.imbalance.proofs.Limits.{light-total, label-most}

-- what number 0 tells: all that the unchecked functions ask
pub loadable : (weights labels : List ℕ) → loads_number weights labels ≡ 0 → Loadable weights labels
unfolding loads_number
loadable weights labels e =
    go (eqb (length weights) (length labels)) refl (ltb most_vertices (length labels)) refl (heavy weights) refl (label_above 15 labels) refl e
  where
    go : (a : Bool) → eqb (length weights) (length labels) ≡ a → (b : Bool) → ltb most_vertices (length labels) ≡ b → (h : Bool) → heavy weights ≡ h → (l : Bool) → label_above 15 labels ≡ l → ◌≡◌ {A = ℕ} (cond (not a) 1 (cond b 2 (cond h 5 (cond l 6 0)))) 0 → Loadable weights labels
    go true p false q false r false s e =
        record { paired = eqb-true (length weights) (length labels) p; few = ltb-false most_vertices (length labels) q; light = light-total weights r; named = s }
    go true p false q false r true s e = absurd (omega arith)
    go true p false q true r l s e = absurd (omega arith)
    go true p true q h r l s e = absurd (omega arith)
    go false p b q h r l s e = absurd (omega arith)

-- part t's load over the first n vertices
abbrev pub load_to : List ℕ → List ℕ → ℕ → ℕ → ℕ
load_to weights labels n t = sum n (λ v. weigh (eqb (part labels v) t) (get_or weights v 0))

module _ (weights labels : List ℕ) where
  -- vertex n adds its weight to its own part, and nothing to any other
  load_here : (n : ℕ) → load_to weights labels (n + 1) (part labels n) ≡ load_to weights labels n (part labels n) + get_or weights n 0
  load_here n =
      sum_more n (λ v. weigh (eqb (part labels v) (part labels n)) (get_or weights v 0))
      ∙ rw (eq-eqb (part labels n) (part labels n) refl)

  load-other : (n t : ℕ) → (t ≡ part labels n → ⊥) → load_to weights labels n t ≡ load_to weights labels (n + 1) t
  load-other n t h =
      sym
      (sum_more n (λ v. weigh (eqb (part labels v) t) (get_or weights v 0))
      ∙ rw (ne_eqb (part labels n) t (λ e. h (sym e)), add-zero))

  -- a turn of the loop
  pub load-turn : (n t w : ℕ) (at : List ℕ) → t ≤ 15 → t ≡ part labels n → w ≡ get_or weights n 0 → at ≡ table 16 (load_to weights labels n) → set at t (get_or at t 0 + w) ≡ table 16 (load_to weights labels (n + 1))
  load-turn n t w at h p q e =
      rw (e, p, q)
      (table-set 16 (part labels n) _ (load_to weights labels n) (load_to weights labels (n + 1)) (omega arith)
      (ap (λ (x : ℕ). x + get_or weights n 0) (table_at 16 (part labels n) 0 (load_to weights labels n) (omega arith)) ∙ sym (load_here n))
      (load-other n))

  module _ (paired : length weights ≡ length labels) where
    -- a part weighs no more than all
    pub load-within : (t : ℕ) → load weights labels t ≤ total weights
    unfolding load total
    load-within t =
        rw paired
        (sum_below (length labels) (λ v. weigh (eqb (part labels v) t) (get_or weights v 0)) (λ v. get_or weights v 0) (λ v l. weigh-most (eqb (part labels v) t) (get_or weights v 0)))

    -- and what the loop has of it is no more than that
    pub load-held : (n t : ℕ) (at : List ℕ) → n ≤ length labels → t ≤ 15 → at ≡ table 16 (load_to weights labels n) → get_or at t 0 ≤ total weights
    unfolding load
    load-held n t at l h e =
        let a : get_or at t 0 ≡ load_to weights labels n t = rw e (table_at 16 t 0 (load_to weights labels n) (omega arith)) in
        let g = sum-grows n (length labels) (λ v. weigh (eqb (part labels v) t) (get_or weights v 0)) l in
        let k = load-within t in
        omega arith

    -- the parts that the labels name weigh together as much as all
    pub loads-total : (most : ℕ) → label_above most labels ≡ false → sum (most + 1) (load weights labels) ≡ total weights
    unfolding load total
    loads-total most named =
        sum-swap (most + 1) (length labels) (λ t v. weigh (eqb (part labels v) t) (get_or weights v 0))
        ∙ sum-ext (length labels) (λ v. sum (most + 1) (λ t. weigh (eqb (part labels v) t) (get_or weights v 0))) (λ v. get_or weights v 0)
        (λ v l. let m = label-most most labels named v l in sum-only (most + 1) (part labels v) (λ t. get_or weights v 0) (omega arith))
        ∙ rw paired

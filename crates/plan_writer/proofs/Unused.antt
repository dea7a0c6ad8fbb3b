-- The writer does not look at what the ceiling's choice does not use. Assumes nothing.
use Rattle.std.proofs.Common.{◌≡◌, ℕ, ◌<◌, Bool, true, false, cond, eqb, List, length, get_or, refl, ap, eqb-true}
use lib.Ieee.{binary64, to_bits}
use Rattle.lists.specs.Fill.{over}
use Rattle.lists.proofs.Tables.{table-ext}
use Rattle.imbalance.specs.Used.{SameUsed}
use Rattle.imbalance.specs.declared.Ceiling.{Ceiling}
use Rattle.imbalance.proofs.Unused.{same_outcome, used-alike}
use Rattle.plan_blocks.specs.Block.{new_kind}
use Rattle.plan_blocks.specs.Plan.{Plan, value_of, each_of}
use Rattle.plan_blocks.specs.Encode.{encode}
use Rattle.plan_writer.specs.Write.{Given, vertices, arcs, plan_with, plan_from, unfit, miscounted, bad_starts, size_of, write_number, write_answer, write_left}
use Rattle.plan_writer.specs.Used.{with_ceiling}
use Rattle.plan_writer.specs.declared.WriteAnswer.{WriteAnswer}

-- "0, a whole u32, or the bits of e"
same-value : (a b : Ceiling) → SameUsed a b → value_of a ≡ value_of b
unfolding value_of
same-value a b same = rw (← same.choices) (go (eqb a.choice 1) refl (eqb a.choice 2) refl)
  where
    go : (s : Bool) → eqb a.choice 1 ≡ s → (t : Bool) → eqb a.choice 2 ≡ t → cond s a.whole (cond t (to_bits binary64 a.imbalance) 0) ≡ cond s b.whole (cond t (to_bits binary64 b.imbalance) 0)
    go true p t q = same.wholes (eqb-true a.choice 1 p)
    go false p true q = ap (to_bits binary64) (same.imbalances (eqb-true a.choice 2 q))
    go false p false q = refl

-- the number of each part
same-each : (a b : Ceiling) → SameUsed a b → each_of a ≡ each_of b
unfolding each_of
same-each a b same = rw (← same.choices) (table-ext 16 _ _ (λ t l. go t l (eqb a.choice 3) refl))
  where
    go : (t : ℕ) → t < 16 → (s : Bool) → eqb a.choice 3 ≡ s → cond s (get_or a.each t 0) 0 ≡ cond s (get_or b.each t 0) 0
    go t l true q = same.numbers (eqb-true a.choice 3 q) t l
    go t l false q = refl

module _ (g : Given) (target : List ℕ) (asked : Ceiling) (same : SameUsed g.ceiling asked) where
  same_number : (places : ℕ) → write_number g places ≡ write_number (with_ceiling g asked) places
  unfolding write_number unfit miscounted bad_starts
  same_number places = rw (used-alike g.ceiling asked same).fit

  same-plan : plan_from g ≡ plan_from (with_ceiling g asked)
  same-plan =
      let v = same-value g.ceiling asked same in
      let n = same-each g.ceiling asked same in
      λ i. plan_with g.labels g.weights g.starts g.neighbours g.arc_weights g.k (same.choices i) (v i) (n i)

  -- "What the choice does not use is not looked at": two calls of the writer that differ in nothing else answer the same and leave the same target.
  pub unused-not-looked-at :
      (write_answer g target ≡ write_answer (with_ceiling g asked) target)
      × (write_left g target ≡ write_left (with_ceiling g asked) target)
  unfolding write_answer write_left
  unused-not-looked-at =
      let h = with_ceiling g asked in
      let n = length target in (
        ap (λ (k : ℕ). let r : WriteAnswer = record { number = k; length = cond (eqb k 0) (size_of (vertices g) (arcs g)) 0 } in r) (same_number n),
        same_outcome (write_number g n) (write_number h n) (over (encode new_kind (plan_from g)) target) (over (encode new_kind (plan_from h)) target) (λ k. target) (same_number n) (λ z. ap (λ (p : Plan). over (encode new_kind p) target) same-plan),
      )

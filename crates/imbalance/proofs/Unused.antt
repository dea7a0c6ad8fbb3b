-- "What the choice does not use is not looked at": what two settings that agree in what is used have in common. Assumes nothing.
use Rattle.std.proofs.Common.{◌≡◌, ℕ, ◌≤◌, Bool, true, false, cond, not, ◌&&◌, ◌||◌, eqb, ltb, List, get_or, refl, ap, ◌∙◌, arith, eqb-true}
use lib.Ieee.{Float}
use borrow.Author.Tests.{eqb-false}
use Rattle.lists.specs.Fill.{table}
use Rattle.lists.proofs.Tables.{table-ext}
use Rattle.imbalance.specs.Ceiling.{legal_e, unfit_choice, largest, ceiling_of, ceiling, ceilings}
use Rattle.imbalance.specs.Used.{SameUsed, SameNumber}
use Rattle.imbalance.specs.declared.Ceiling.{Ceiling}
use Rattle.imbalance.proofs.Choices.{fit-old}

-- calls with the same number come to the same, where they do so when they are done
pub same_outcome : {A : Type 0} (j k : ℕ) (x y : A) (refused : ℕ → A) → j ≡ k → (j ≡ 0 → x ≡ y) → cond (eqb j 0) x (refused j) ≡ cond (eqb k 0) y (refused k)
same_outcome j k x y refused e h = rw (← e) (go (eqb j 0) refl)
  where
    go : (b : Bool) → eqb j 0 ≡ b → cond b x (refused j) ≡ cond b y (refused j)
    go true q = h (eqb-true j 0 q)
    go false q = refl

-- What two callers ask comes to the same: number 7 for both or for neither, and where for neither the same ceilings.
pub record SameAsked (a b : Ceiling) : Type 0 where
  pub fit : unfit_choice a ≡ unfit_choice b
  pub capped : unfit_choice a ≡ false → (loads : List ℕ) (total parts : ℕ) → ceilings loads total parts a ≡ ceilings loads total parts b

module _ (a b : Ceiling) (same : SameUsed a b) where
  -- number 7's test
  same-fit : unfit_choice a ≡ unfit_choice b
  unfolding unfit_choice
  same-fit = rw (← same.choices) (ap (λ (t : Bool). ltb 3 a.choice || t) (go (eqb a.choice 2) refl))
    where
      go : (t : Bool) → eqb a.choice 2 ≡ t → t && not (legal_e a.imbalance) ≡ t && not (legal_e b.imbalance)
      go true q = ap (λ (x : Float). not (legal_e x)) (same.imbalances (eqb-true a.choice 2 q))
      go false q = refl

  -- the one number of an old choice
  same-ceiling : (loads : List ℕ) (total parts : ℕ) → a.choice ≤ 2 → ceiling loads total parts a ≡ ceiling loads total parts b
  unfolding ceiling
  same-ceiling loads total parts known = rw (← same.choices) (go (eqb a.choice 0) refl (eqb a.choice 1) refl)
    where
      go :
          (s : Bool) → eqb a.choice 0 ≡ s → (t : Bool) → eqb a.choice 1 ≡ t
          → cond s (largest 16 (λ i. get_or loads i 0)) (cond t a.whole (ceiling_of total parts a.imbalance)) ≡ cond s (largest 16 (λ i. get_or loads i 0)) (cond t b.whole (ceiling_of total parts b.imbalance))
      go true p t q = refl
      go false p true q = same.wholes (eqb-true a.choice 1 q)
      go false p false q =
          let x = eqb-false a.choice 0 p in
          let y = eqb-false a.choice 1 q in
          ap (λ (z : Float). ceiling_of total parts z) (same.imbalances (omega (arith, x, y)))

  same-ceilings : unfit_choice a ≡ false → (loads : List ℕ) (total parts : ℕ) → ceilings loads total parts a ≡ ceilings loads total parts b
  unfolding ceilings
  same-ceilings fits loads total parts =
      go (eqb a.choice 3) refl
      ∙ ap (λ (c : ℕ). cond (eqb c 3) (table 16 (λ i. get_or b.each i 0)) (table 16 (λ i. ceiling loads total parts b))) same.choices
    where
      go :
          (t : Bool) → eqb a.choice 3 ≡ t
          → cond t (table 16 (λ i. get_or a.each i 0)) (table 16 (λ i. ceiling loads total parts a)) ≡ cond t (table 16 (λ i. get_or b.each i 0)) (table 16 (λ i. ceiling loads total parts b))
      go true q = table-ext 16 _ _ (same.numbers (eqb-true a.choice 3 q))
      go false q = table-ext 16 _ _ (λ i l. same-ceiling loads total parts (fit-old a fits (eqb-false a.choice 3 q)))

  pub used-alike : SameAsked a b
  used-alike = record { fit = same-fit; capped = same-ceilings }

-- choice 3 with sixteen equal numbers comes to what choice 1 with that number comes to
pub numbers-alike : (a b : Ceiling) → SameNumber a b → SameAsked a b
unfolding unfit_choice ceilings ceiling
numbers-alike a b same = record {
  fit = rw (same.by_part, same.by_whole) refl;
  capped = λ fits loads total parts. rw (same.by_part, same.by_whole) (table-ext 16 _ _ same.numbers);
}

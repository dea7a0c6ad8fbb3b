-- What a fit choice of a ceiling tells, and what ceilings a choice gives. Assumes nothing.
use Rattle.std.proofs.Common.{◌≡◌, ℕ, ◌≤◌, Bool, true, false, cond, not, ◌&&◌, T, eqb, ltb, List, length, get_or, refl, arith, ltb-false, eq-eqb, ne_eqb}
use borrow.Author.Tests.{not-false}
use Rattle.lists.specs.Fill.{table}
use Rattle.lists.proofs.Bools.{or-false}
use Rattle.lists.proofs.Tables.{length-table}
use Rattle.imbalance.specs.Ceiling.{legal_e, unfit_choice, ceiling, ceilings}
use Rattle.imbalance.specs.declared.Ceiling.{Ceiling}

-- choice 2 has a legal e
pub fit-legal : (asked : Ceiling) → unfit_choice asked ≡ false → asked.choice ≡ 2 → T (legal_e asked.imbalance)
unfolding unfit_choice
fit-legal asked h two =
    let choice = asked.choice in
    let e = asked.imbalance in
    let p = or-false (ltb 3 choice) (eqb choice 2 && not (legal_e e)) h in
    let n : not (legal_e e) ≡ false = rw (eq-eqb choice 2 two) at p.1 in
    rw (not-false (legal_e e) n) tt

-- a fit choice that is not 3 is one of the old ones
pub fit-old : (asked : Ceiling) → unfit_choice asked ≡ false → (asked.choice ≡ 3 → ⊥) → asked.choice ≤ 2
unfolding unfit_choice
fit-old asked h other =
    let choice = asked.choice in
    let m = ltb-false 3 choice (or-false (ltb 3 choice) (eqb choice 2 && not (legal_e asked.imbalance)) h).0 in
    omega (arith, other)

-- "the old choices give the same number sixteen times"
pub one_number : (loads : List ℕ) (total parts : ℕ) (asked : Ceiling) → asked.choice ≤ 2 → ceilings loads total parts asked ≡ table 16 (λ t. ceiling loads total parts asked)
unfolding ceilings
one_number loads total parts asked old = rw (ne_eqb asked.choice 3 (λ e. omega arith)) refl

-- "one number per part, from a new choice 3 with sixteen whole numbers in the settings"
pub number-by-part : (loads : List ℕ) (total parts : ℕ) (asked : Ceiling) → asked.choice ≡ 3 → ceilings loads total parts asked ≡ table 16 (λ t. get_or asked.each t 0)
unfolding ceilings
number-by-part loads total parts asked new = rw (eq-eqb asked.choice 3 new) refl

-- sixteen ceilings, by every choice
pub ceilings-long : (loads : List ℕ) (total parts : ℕ) (asked : Ceiling) → length (ceilings loads total parts asked) ≡ 16
unfolding ceilings
ceilings-long loads total parts asked = go (eqb asked.choice 3)
  where
    go : (b : Bool) → length (cond b (table 16 (λ t. get_or asked.each t 0)) (table 16 (λ t. ceiling loads total parts asked))) ≡ 16
    go true = length-table 16 _
    go false = length-table 16 _

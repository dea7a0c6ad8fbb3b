-- A legal e and its bits: they are no NaN's, and a value that fits its choice is what its choice asks. Assumes nothing.
use Rattle.std.proofs.Common.{◌≡◌, ℕ, ◌<◌, Bool, true, false, not, T, sym, subst, arith, ne_eqb, leb-false}
use lib.Ieee.{binary64, of_bits, nan_bits}
use lib.Ieee.Bits.{nan_bits_is}
use borrow.Author.Tests.{not-false}
use Rattle.imbalance.specs.Ceiling.{legal_e}
use Rattle.imbalance.proofs.Patterns.{legal-number}
use Rattle.plan_blocks.specs.Word.{wrap}
use Rattle.plan_blocks.specs.Plan.{unfit_value}

-- the bits of a legal e are no NaN's
pub legal-bits : (n : ℕ) → T (legal_e (of_bits binary64 n)) → T (not (nan_bits binary64 n))
legal-bits n h = subst (λ (t : Bool). T (not t)) (sym (nan_bits_is binary64 n)) (legal-number (of_bits binary64 n) h)

-- choice 1: a whole u32
pub fit-whole : (choice value : ℕ) → unfit_value choice value ≡ false → choice ≡ 1 → value < wrap
unfolding unfit_value
fit-whole choice value h e = leb-false wrap value (rw e at h)

-- choice 2: the bits of a legal e
pub fit-bits : (choice value : ℕ) → unfit_value choice value ≡ false → choice ≡ 2 → T (legal_e (of_bits binary64 value))
unfolding unfit_value
fit-bits choice value h e = subst T (sym (not-false (legal_e (of_bits binary64 value)) (rw e at h))) tt

-- "7 and 12 now begin at choice 4"
pub choice-above : (choice value : ℕ) → 3 < choice → unfit_value choice value ≡ true
unfolding unfit_value
choice-above choice value l =
    simp (ne_eqb choice 0 (λ e. omega arith), ne_eqb choice 1 (λ e. omega arith), ne_eqb choice 2 (λ e. omega arith), ne_eqb choice 3 (λ e. omega arith))

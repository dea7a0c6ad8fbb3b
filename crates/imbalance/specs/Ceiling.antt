-- The ceilings on the parts' loads (document 01, "Ceiling"; document 02, A4).
use Rattle.std.specs.Prelude.{ℕ, zero, suc, ◌*◌, ◌/◌, Bool, true, false, cond, not, ◌&&◌, ◌||◌, List, pos, ◌==◌, nat_lt, slice_index, Float}
use Rattle.std.specs.Float.{nan, inf, fin, binary64}
use Rattle.std.specs.Float.Ieee.{up, down, of_int, div, mul, add, le}
use Rattle.lists.specs.Fill.{table}
use Rattle.imbalance.specs.declared.Ceiling.{Ceiling}

-- 0.0 and 64.0
abbrev pub zero64 : Float
zero64 = fin false 0 (pos 0)

abbrev pub most64 : Float
most64 = fin false 1 (pos 6)

-- e is from 0.0 to 64.0, -0.0 included, and no NaN: a NaN is neither at most nor at least anything
unfoldable pub legal_e : Float → Bool
legal_e e = le zero64 e && le e most64

-- the whole number at or below a float that is finite and not negative
abbrev pub whole_of : Float → ℕ
whole_of nan = 0
whole_of (inf s) = 0
whole_of (fin true m e) = 0
whole_of (fin false m e) = m * up e / down e

-- the total over the parts, rounded
abbrev pub ideal_of : ℕ → ℕ → Float
ideal_of total parts = div binary64 (of_int binary64 (pos total)) (of_int binary64 (pos parts))

-- i + e * i, each operation rounded
unfoldable pub limit_of : ℕ → ℕ → Float → Float
limit_of total parts e = add binary64 (ideal_of total parts) (mul binary64 e (ideal_of total parts))

unfoldable pub ceiling_of : ℕ → ℕ → Float → ℕ
ceiling_of total parts e = whole_of (limit_of total parts e)

-- the largest of f 0, f 1, .. f (n - 1), and 0 where there is none
unfoldable pub largest : ℕ → (ℕ → ℕ) → ℕ
largest zero f = 0
largest (suc n) f = cond (nat_lt (largest n f) (f n)) (f n) (largest n f)

-- number 7's test of the choice: "7 and 12 now begin at choice 4", or 2 with e NaN, below 0 or above 64. "What the choice does not use is not looked at."
unfoldable pub unfit_choice : Ceiling → Bool
unfit_choice asked = nat_lt 3 asked.choice || (asked.choice == 2 && not (legal_e asked.imbalance))

-- the one number of the old choices: "0 carried (the largest starting load), 1 a whole u32 (added), 2 imbalance e"
unfoldable pub ceiling : List ℕ → ℕ → ℕ → Ceiling → ℕ
ceiling loads total parts asked =
    cond (asked.choice == 0) (largest 16 (λ t. slice_index loads t))
    (cond (asked.choice == 1) asked.whole
    (ceiling_of total parts asked.imbalance))

-- "The ceiling routine shall yield one number per part, from a new choice 3 with sixteen whole numbers in the settings, and the old choices give the same number sixteen times"
unfoldable pub ceilings : List ℕ → ℕ → ℕ → Ceiling → List ℕ
ceilings loads total parts asked =
    cond (asked.choice == 3)
    (table 16 (λ t. slice_index asked.each t))
    (table 16 (λ t. ceiling loads total parts asked))

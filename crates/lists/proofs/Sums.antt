-- `sum` and `between`, one step further: what a turn of a loop that adds asks. Assumes nothing.
use mathlib.Core.Path.{◌≡◌, refl, sym, ap₂, ◌∙◌}
use Prim.Native.Nat.{ℕ, suc, ◌+◌, ◌-◌, ◌≤◌}
use native.Mathlib.Omega.{arith}
use native.Mathlib.Numerals.{add-one}
use Rattle.lists.specs.Sum.{sum, between}

pub sum-none : (f : ℕ → ℕ) → sum 0 f ≡ 0
unfolding sum
sum-none f = refl

pub sum_more : (n : ℕ) (f : ℕ → ℕ) → sum (n + 1) f ≡ sum n f + f n
unfolding sum
sum_more n f = rw add-one

pub between_none : (a : ℕ) (f : ℕ → ℕ) → between a a f ≡ 0
unfolding between sum
between_none a f = rw (let r : a - a ≡ 0 = omega arith in r)

pub between_more : (a e : ℕ) (f : ℕ → ℕ) → a ≤ e → between a (e + 1) f ≡ between a e f + f e
unfolding between sum
between_more a e f h =
    let r : e + 1 - a ≡ suc (e - a) = omega arith in
    let q : a + (e - a) ≡ e = omega arith in
    rw r (rw q)

-- a turn of a loop that adds f e to the sum
pub between_step : (a e s t : ℕ) (f : ℕ → ℕ) → a ≤ e → s ≡ between a e f → t ≡ f e → s + t ≡ between a (e + 1) f
between_step a e s t f h p q = ap₂ ◌+◌ p q ∙ sym (between_more a e f h)

pub sum_step : (n s t : ℕ) (f : ℕ → ℕ) → s ≡ sum n f → t ≡ f n → s + t ≡ sum (n + 1) f
sum_step n s t f p q = ap₂ ◌+◌ p q ∙ sym (sum_more n f)

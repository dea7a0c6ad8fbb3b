-- The binary digits of a 16-bit number: those of a single bit, and of a number that it was put into. Assumes nothing.
use mathlib.Core.Path.{◌≡◌, refl, sym, ap, ◌∙◌}
use mathlib.Core.Bool.{Bool, true, false, cond}
use Prim.Native.Nat.{ℕ, suc, ◌+◌, ◌-◌, ◌*◌, ◌/◌, ◌%◌, ◌^◌, ◌<◌, max, suc-le-suc}
use native.Mathlib.Omega.{arith}
use native.Mathlib.Nat.{le_of_suc-le-suc, one-mul, mod-lt, zero-div, div-eq_of_lt, max-le, max-zero, max-eq_right}
use lib.Arith.{digits_mod, lt_of_le-ne}
use lib.Pow.{pow-lt, pow-add, shl-shr, shl_exact}
use lib.Bits.{bit_or, or_step, or_shr, shifted_even}
use lib.Dec.{ltb, eqb}
use borrow.Author.Tests.{eqb-true, eqb-false, ltb-true, ltb-false}

-- digit t of a number, the lowest first
abbrev pub digit : ℕ → ℕ → ℕ
digit m t = m / 2 ^ t % 2

-- `1u16 << t`
abbrev pub bit : ℕ → ℕ
bit t = 1 * 2 ^ t % 65536

digit-below : (m t : ℕ) → digit m t < 2
digit-below m t = mod-lt (m / 2 ^ t) (omega arith)

larger-below : {x y : ℕ} → x < 2 → y < 2 → max x y < 2
larger-below h k = suc-le-suc (max-le (le_of_suc-le-suc h) (le_of_suc-le-suc k))

-- a digit of an or is the larger of the two
or-digit : (a b t : ℕ) → digit (bit_or a b) t ≡ max (digit a t) (digit b t)
or-digit a b t =
    let x = digit-below a t in
    let y = digit-below b t in
    ap (λ (m : ℕ). m % 2) (or_shr a b t ∙ or_step (a / 2 ^ t) (b / 2 ^ t))
    ∙ digits_mod (bit_or (a / 2 ^ t / 2) (b / 2 ^ t / 2)) (larger-below x y)

-- a bit has a 1 at its own place, and no other
bit-own : (t : ℕ) → digit (1 * 2 ^ t) t ≡ 1
bit-own t = ap (λ (x : ℕ). x % 2) (shl-shr 1 t)

bit-above : (t x : ℕ) → t < x → digit (1 * 2 ^ t) x ≡ 0
bit-above t x h = let l = pow-lt h in ap (λ (y : ℕ). y % 2) (div-eq_of_lt (omega arith))

bit_below : (t x : ℕ) → x < t → digit (1 * 2 ^ t) x ≡ 0
bit_below t x h =
    let k = t - x - 1 in
    let q : t ≡ suc k + x = omega arith in
    rw (q, pow-add 2 (suc k) x, one-mul (2 ^ suc k * 2 ^ x), shl-shr (2 ^ suc k) x, ← one-mul (2 ^ suc k)) (shifted_even 1 k)

bit-other : (t x : ℕ) → (t ≡ x → ⊥) → digit (1 * 2 ^ t) x ≡ 0
bit-other t x h = at (ltb t x) refl
  where
    at : (b : Bool) → ltb t x ≡ b → digit (1 * 2 ^ t) x ≡ 0
    at true q = bit-above t x (ltb-true t x q)
    at false q = let l = ltb-false t x q in bit_below t x (lt_of_le-ne l (λ e. h (sym e)))

-- no digit of 0 is a 1
zero-digit : (t : ℕ) → digit 0 t ≡ 0
zero-digit t = ap (λ (x : ℕ). x % 2) (zero-div (2 ^ t))

-- a bit put into a number sets its own digit and no other
pub with-bit : (m t x : ℕ) → t < 16 → digit (bit_or m (bit t)) x ≡ cond (eqb t x) 1 (digit m x)
with-bit m t x h = or-digit m (bit t) x ∙ rw (shl_exact {a = 1} 1 t 16 (omega arith) (omega arith)) (at (eqb t x) refl)
  where
    at : (b : Bool) → eqb t x ≡ b → max (digit m x) (digit (1 * 2 ^ t) x) ≡ cond b 1 (digit m x)
    at true q = let d = digit-below m x in rw (← eqb-true t x q, bit-own t) (max-eq_right (omega arith))
    at false q = rw (bit-other t x (eqb-false t x q)) (max-zero (digit m x))

-- a bit by itself
pub bit-alone : (t x : ℕ) → t < 16 → digit (bit t) x ≡ cond (eqb t x) 1 0
bit-alone t x h = rw (← zero-digit x) (with-bit 0 t x h)

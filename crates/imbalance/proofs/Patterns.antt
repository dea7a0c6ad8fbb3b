-- A legal e told by its bit pattern: the pattern is at most that of 64.0, or it is that of -0.0. The patterns of numbers without a sign rise as the numbers do. Assumes nothing.
use Rattle.std.proofs.Common.{◌≡◌, ℕ, zero, suc, ◌+◌, ◌-◌, ◌*◌, ◌/◌, ◌%◌, ◌^◌, ◌<◌, ◌≤◌, Bool, true, false, cond, not, ◌&&◌, ◌||◌, T, eqb, ltb, leb, sym, refl, ap, ◌∙◌, subst, inl, inr, true≢false, le_trans, mul-le-mul_right, mul_assoc, mul_comm, eq-zero-or-pos, mul-le-mul, lt_of_mul-lt-mul_right, mul-lt-mul_of_pos_right, mul-pos, zero-mul, mul-one, le_of_mul-le-mul_right, arith, lit<, lit≤, pow_pos, pow_mono, le-ltb, lt-ltb, eq-eqb, ne_eqb, eqb-true, le-leb, leb-false, leb-true}
use lib.Ieee.{Float, nan, inf, fin, binary64, up, down, odd, of_fields, of_bits, to_bits, is_nan, fits, le}
use lib.Ieee.Fits.{down_pos}
use lib.Ieee.Exact.{HasValue, odd_sign}
use lib.Ieee.Bits.{of_bits-to_bits}
use borrow.Author.Tests.{eqb-false, lt-leb}
use Rattle.lists.proofs.Bools.{or-none}
use Rattle.imbalance.specs.Ceiling.{legal_e}

-- the pattern of 64.0, and that of -0.0
abbrev pub most : ℕ
most = 0x4050_0000_0000_0000

abbrev pub sign : ℕ
sign = 0x8000_0000_0000_0000

-- 2 ^ 52, the weight of the exponent's field
abbrev unit : ℕ
unit = 0x10_0000_0000_0000

-- ---- a fraction a / c with the sign s is legal where it is 0, or without the sign at most 64
abbrev within : Bool → ℕ → ℕ → Bool
within true a c = eqb a 0
within false a c = leb a (64 * c)

lt-or-eq : (a b : ℕ) → ltb a b || (eqb a b && true) ≡ leb a b
lt-or-eq a b = go (leb a b) refl
  where
    go : (t : Bool) → leb a b ≡ t → ltb a b || (eqb a b && true) ≡ t
    go true h = inner (eqb a b) refl
      where
        inner : (u : Bool) → eqb a b ≡ u → ltb a b || (u && true) ≡ true
        inner true e = rw (le-ltb a b (omega (arith, eqb-true a b e))) refl
        inner false e = rw (lt-ltb a b (omega (arith, leb-true a b h, eqb-false a b e))) refl
    go false h = rw (le-ltb a b (omega (arith, leb-false a b h)), ne_eqb a b (λ e. omega (arith, leb-false a b h))) refl

cross : (x d a c : ℕ) → 0 < c → 0 < d → x * c ≡ a * d → leb x (64 * d) ≡ leb a (64 * c)
cross x d a c C D e = go (leb a (64 * c)) refl
  where
    turned : 64 * d * c ≡ 64 * c * d
    turned = mul_assoc 64 d c ∙ ap (λ (k : ℕ). 64 * k) (mul_comm d c) ∙ sym (mul_assoc 64 c d)

    go : (t : Bool) → leb a (64 * c) ≡ t → leb x (64 * d) ≡ t
    go true h =
        let up : x * c ≤ 64 * d * c = rw (e, turned) (mul-le-mul_right d (leb-true a (64 * c) h)) in
        le-leb x (64 * d) (le_of_mul-le-mul_right up C)
    go false h =
        let up : 64 * d * c < x * c = rw (e, turned) (mul-lt-mul_of_pos_right (leb-false a (64 * c) h) D) in
        lt-leb x (64 * d) (lt_of_mul-lt-mul_right c up)

no-product : (x c : ℕ) → 0 < c → x * c ≡ 0 → x ≡ 0
no-product x c C e = elim (eq-zero-or-pos x) [ inl z ↦ z | inr p ↦ absurd (omega (arith, mul-pos p C)) ]

and_then : (s t u : Bool) → s ≡ true → t ≡ u → s && t ≡ u
and_then s t u p q = rw p q

-- what the two comparisons of a number with the sign come to: it is above 0.0 or equal to it only where it is -0.0, and it is always at most 64.0
signed : (z x y : ℕ) → z ≡ 0 → 0 < y → (eqb z x && eqb z 0) && (ltb 0 (x + y) || (eqb x y && eqb x 0)) ≡ eqb x 0
signed z x y e h = go (eqb x 0) refl
  where
    go : (t : Bool) → eqb x 0 ≡ t → (eqb z x && eqb z 0) && (ltb 0 (x + y) || (eqb x y && eqb x 0)) ≡ t
    go true q = rw (eq-eqb z x (omega (arith, eqb-true x 0 q)), eq-eqb z 0 e, lt-ltb 0 (x + y) (omega arith)) refl
    go false q = rw (ne_eqb z x (λ p. eqb-false x 0 q (omega arith))) refl

value-legal : (x : Float) (s : Bool) (a c : ℕ) → 0 < c → HasValue x s a c → legal_e x ≡ within s a c
unfolding legal_e le
value-legal nan s a c C h = absurd h
value-legal (inf t) s a c C h = absurd h
value-legal (fin true m e) false a c C h = absurd (true≢false h.0)
value-legal (fin false m e) true a c C h = absurd (true≢false (sym h.0))
value-legal (fin false m e) false a c C h =
    let none : 0 * 1 * down e ≤ m * up e * 1 = omega arith in
    and_then _ _ _
    (lt-or-eq (0 * 1 * down e) (m * up e * 1) ∙ le-leb _ _ none)
    (lt-or-eq (m * up e * 1) (1 * 2 ^ 6 * down e) ∙ rw mul-one (cross (m * up e) (down e) a c C (down_pos e) h.1))
value-legal (fin true m e) true a c C h =
    let none : 0 * 1 * down e ≡ 0 = omega arith in
    let some : 0 < 1 * 2 ^ 6 * down e = omega (arith, down_pos e) in
    signed (0 * 1 * down e) (m * up e * 1) (1 * 2 ^ 6 * down e) none some ∙ go (eqb a 0) refl
  where
    go : (t : Bool) → eqb a 0 ≡ t → eqb (m * up e * 1) 0 ≡ t
    go true z =
        eq-eqb _ _ (mul-one (m * up e) ∙ no-product (m * up e) c C (h.1 ∙ rw (eqb-true a 0 z) (zero-mul (down e))))
    go false z =
        ne_eqb _ _ (λ q. eqb-false a 0 z (no-product a (down e) (down_pos e) (sym h.1 ∙ rw (sym (mul-one (m * up e)) ∙ q) (zero-mul c))))

legal-odd : (s : Bool) (q k : ℕ) → legal_e (odd 53 s q k 1074) ≡ within s (q * 2 ^ k) (2 ^ 1074)
legal-odd s q k = value-legal (odd 53 s q k 1074) s (q * 2 ^ k) (2 ^ 1074) (pow_pos 1074) (odd_sign 53 s q k 1074)

-- ---- the same of the pattern's fields: r is the pattern without its sign
abbrev test : Bool → ℕ → Bool
test true r = eqb r 0
test false r = leb r most

-- no leading digit
small : (s : Bool) (t : ℕ) → t < unit → within s (t * 2 ^ 0) (2 ^ 1074) ≡ test s (0 * unit + t)
small true t h = let same : t * 2 ^ 0 ≡ 0 * unit + t = omega arith in ap (λ (k : ℕ). eqb k 0) same
small false t h =
    let low : t * 2 ^ 0 ≤ unit = omega arith in
    let under : 0 * unit + t ≤ most = omega arith in
    le-leb _ _ (le_trans low (lit≤ tt)) ∙ sym (le-leb _ _ under)

-- a leading digit before the digits t, and the exponent's field x + 1: that of 64.0 is 1029
normal : (s : Bool) (x t : ℕ) → t < unit → within s ((unit + t) * 2 ^ x) (2 ^ 1074) ≡ test s (suc x * unit + t)
normal true x t h =
    let some : 0 < (unit + t) * 2 ^ x = mul-pos (omega arith) (pow_pos x) in
    ne_eqb ((unit + t) * 2 ^ x) 0 (λ e. omega arith) ∙ sym (ne_eqb (suc x * unit + t) 0 (λ e. omega arith))
normal false x t h = lower (leb x 1027) refl
  where
    at : x ≡ 1028 → (u : Bool) → eqb t 0 ≡ u → leb ((unit + t) * 2 ^ x) (64 * 2 ^ 1074) ≡ leb (suc x * unit + t) most
    at e true z =
        let q : t ≡ 0 = eqb-true t 0 z in
        let exact : (unit + t) * 2 ^ x ≤ 64 * 2 ^ 1074 = rw (e, q) (lit≤ tt) in
        le-leb _ _ exact ∙ sym (le-leb (suc x * unit + t) most (omega arith))
    at e false z =
        let some : unit < unit + t = omega (arith, eqb-false t 0 z) in
        let over : 64 * 2 ^ 1074 < (unit + t) * 2 ^ x = rw e (mul-lt-mul_of_pos_right some (pow_pos 1028)) in
        lt-leb _ _ over ∙ sym (lt-leb (suc x * unit + t) most (omega (arith, eqb-false t 0 z)))

    upper : (u : Bool) → leb x 1028 ≡ u → 1027 < x → leb ((unit + t) * 2 ^ x) (64 * 2 ^ 1074) ≡ leb (suc x * unit + t) most
    upper true q g = at (omega (arith, leb-true x 1028 q)) (eqb t 0) refl
    upper false q g =
        let first : unit ≤ unit + t = omega arith in
        let second : 1029 ≤ x = leb-false x 1028 q in
        let whole : unit * 2 ^ 1029 ≤ (unit + t) * 2 ^ x = mul-le-mul first (pow_mono {i = 1029} second) in
        lt-leb _ _ (le_trans (lit< tt) whole) ∙ sym (lt-leb (suc x * unit + t) most (omega (arith, leb-false x 1028 q)))

    lower : (u : Bool) → leb x 1027 ≡ u → leb ((unit + t) * 2 ^ x) (64 * 2 ^ 1074) ≡ leb (suc x * unit + t) most
    lower true q =
        let first : unit + t ≤ 2 ^ 53 = omega arith in
        let whole : (unit + t) * 2 ^ x ≤ 2 ^ 53 * 2 ^ 1027 = mul-le-mul first (pow_mono {j = 1027} (leb-true x 1027 q)) in
        le-leb _ _ (le_trans whole (lit≤ tt)) ∙ sym (le-leb (suc x * unit + t) most (omega (arith, leb-true x 1027 q)))
    lower false q = upper (leb x 1028) refl (leb-false x 1027 q)

-- an infinity or a NaN is not legal, and its field is above that of 64.0
endless : (s : Bool) (t : ℕ) (u : Bool) → legal_e (cond u (inf s) nan) ≡ test s (2047 * unit + t)
unfolding legal_e le
endless true t true = sym (ne_eqb (2047 * unit + t) 0 (λ e. omega arith))
endless true t false = sym (ne_eqb (2047 * unit + t) 0 (λ e. omega arith))
endless false t true = sym (lt-leb (2047 * unit + t) most (omega arith))
endless false t false = sym (lt-leb (2047 * unit + t) most (omega arith))

legal-fields : (s : Bool) (x t : ℕ) → t < unit → legal_e (of_fields binary64 s x t) ≡ test s (x * unit + t)
unfolding of_fields
legal-fields s zero t h = legal-odd s t 0 ∙ small s t h
legal-fields s (suc x) t h = go (eqb (suc x) 2047) refl
  where
    go : (u : Bool) → eqb (suc x) 2047 ≡ u → legal_e (cond u (cond (eqb t 0) (inf s) nan) (odd 53 s (unit + t) x 1074)) ≡ test s (suc x * unit + t)
    go true e = endless s t (eqb t 0) ∙ ap (λ (k : ℕ). test s (k * unit + t)) (sym (eqb-true (suc x) 2047 e))
    go false e = legal-odd s (unit + t) x ∙ normal s x t h

-- a pattern is that of a legal e where it is at most that of 64.0, or is that of -0.0
pub legal-by-bits : (b : ℕ) → b < 2 ^ 64 → legal_e (of_bits binary64 b) ≡ leb b most || eqb b sign
unfolding of_bits
legal-by-bits b h = go (leb sign b) refl
  where
    t : ℕ
    t = b % unit

    x : ℕ
    x = b % sign / unit

    go : (u : Bool) → leb sign b ≡ u → legal_e (of_fields binary64 u x t) ≡ leb b most || eqb b sign
    go false q =
        let under : b < sign = leb-false sign b q in
        let whole : x * unit + t ≡ b = omega arith in
        legal-fields false x t (omega arith) ∙ rw (whole, ne_eqb b sign (λ e. omega arith)) (sym (or-none (leb b most)))
    go true q =
        let over : sign ≤ b = leb-true sign b q in
        let whole : x * unit + t ≡ b - sign = omega arith in
        legal-fields true x t (omega arith) ∙ rw (whole, lt-leb b most (omega arith)) (level (eqb b sign) refl)
      where
        level : (v : Bool) → eqb b sign ≡ v → eqb (b - sign) 0 ≡ v
        level true e = eq-eqb (b - sign) 0 (omega (arith, eqb-true b sign e))
        level false e = ne_eqb (b - sign) 0 (λ z. eqb-false b sign e (omega (arith, leb-true sign b q)))

-- a legal e is no NaN
pub legal-number : (e : Float) → T (legal_e e) → T (not (is_nan e))
unfolding is_nan legal_e le
legal-number nan h = absurd h
legal-number (inf s) h = tt
legal-number (fin s m e) h = tt

-- a NaN is not legal
pub nan-illegal : (e : Float) → is_nan e ≡ true → legal_e e ≡ false
unfolding legal_e le is_nan
nan-illegal nan h = refl
nan-illegal (inf s) h = absurd (true≢false (sym h))
nan-illegal (fin s m e) h = absurd (true≢false (sym h))

-- a float that is no NaN is told by its own bits
pub legal-by-own-bits : (e : Float) → fits binary64 e ≡ true → legal_e (of_bits binary64 (to_bits binary64 e)) ≡ legal_e e
legal-by-own-bits e h = ap legal_e (of_bits-to_bits binary64 e (subst T (sym h) tt))

-- The limit i + e * i is finite, not negative and at most 2 ^ 38, for every total below 2 ^ 31, one to sixteen parts and every legal e. So the cast to `u64` is defined, and it is the whole number at or below.
-- Each operation is a rounded fraction; `round` keeps the order, and a power of two rounds to itself. Assumes nothing.
use Rattle.std.proofs.Common.{◌≡◌, ℕ, suc, ◌+◌, ◌-◌, ◌*◌, ◌/◌, ◌^◌, ◌<◌, ◌≤◌, min, Bool, true, false, cond, not, ◌&&◌, ◌||◌, T, eqb, ltb, ◌⊎◌, pos, sym, refl, ap, ◌∙◌, subst, inl, inr, true≢false, le_trans, le_of_eq, lt_of_lt_of_le, le_of_lt, lt_irrefl, mul-le-mul_right, mul_assoc, mul_comm, div-lt_iff_lt-mul, eq-zero-or-pos, mul-le-mul, mul-le-mul_left, mul-pos, one-mul, zero-mul, mul-one, arith, lit<, lit≤, eqb→eq, ltb→lt, lt→ltb, pow_mono, shl_lt}
use native.Mathlib.Nat.{mul-mul-mul_comm}
use lib.Ieee.{Float, nan, inf, fin, Format, binary64, prec, low, emax, up, down, odd, units, round, add, mul, div, of_int, le, lt, to_unsigned}
use lib.Ieee.Fits.{round_is, down_pos, and_l, and_r}
use lib.Ieee.Exact.{HasValue, odd_sign, round_exact}
use lib.Ieee.Order.{round_mono}
use lib.Ieee.Positive.{first_pos}
use Rattle.imbalance.specs.Limit.{most_weight}
use Rattle.imbalance.specs.Ceiling.{zero64, most64, legal_e, whole_of, ideal_of, limit_of}

-- ---- x is finite, has the sign clear, and is at most b
abbrev pub Within : Float → ℕ → Type 0
Within nan b = ⊥
Within (inf s) b = ⊥
Within (fin true m e) b = ⊥
Within (fin false m e) b = m * up e ≤ b * down e

-- ---- `round f false` is never a NaN and never has the sign
abbrev nonneg : Float → Bool
nonneg nan = false
nonneg (inf s) = not s
nonneg (fin s m e) = not s

of-value : (x : Float) (a c : ℕ) → HasValue x false a c → T (nonneg x)
of-value nan a c h = absurd h
of-value (inf s) a c h = absurd h
of-value (fin true m e) a c h = absurd (true≢false h.0)
of-value (fin false m e) a c h = tt

units-nonneg : (f : Format) (q k : ℕ) → T (nonneg (units f false q k))
unfolding units
units-nonneg f q k = go (ltb (q * 2 ^ k) (2 ^ (low f + suc (emax f))))
  where
    go : (b : Bool) → T (nonneg (cond b (odd (suc (prec f)) false q k (low f)) (inf false)))
    go true = of-value (odd (suc (prec f)) false q k (low f)) (q * 2 ^ k) (2 ^ low f) (odd_sign (suc (prec f)) false q k (low f))
    go false = tt

round-nonneg : (f : Format) (a b : ℕ) → T (nonneg (round f false a b))
round-nonneg f a b = subst (λ (x : Float). T (nonneg x)) (sym (round_is f false a b)) (units-nonneg f _ _)

-- ---- at most a power of two
or_split : (a b : Bool) → T (a || b) → T a ⊎ T b
or_split true b t = inl tt
or_split false b t = inr t

lt-or-eq : (a b : ℕ) (z : Bool) → T (ltb a b || (eqb a b && z)) → a ≤ b
lt-or-eq a b z t = elim (or_split (ltb a b) (eqb a b && z) t) [ inl u ↦ le_of_lt (ltb→lt a b u) | inr u ↦ le_of_eq (eqb→eq a b (and_l (eqb a b) z u)) ]

capped : (x : Float) (k : ℕ) → T (nonneg x) → T (le x (fin false 1 (pos k))) → Within x (2 ^ k)
unfolding le
capped nan k p h = absurd p
capped (inf true) k p h = absurd p
capped (inf false) k p h = absurd h
capped (fin true m e) k p h = absurd p
capped (fin false m e) k p h = rw (mul-one, one-mul) at (lt-or-eq (m * up e * 1) (1 * 2 ^ k * down e) true h)

-- a fraction a / b that is at most 2 ^ k rounds to a value that is at most 2 ^ k, where 2 ^ k rounds to itself
round-within : (k a b : ℕ) → round binary64 false (2 ^ k) 1 ≡ fin false 1 (pos k) → 0 < b → a ≤ 2 ^ k * b → Within (round binary64 false a b) (2 ^ k)
round-within k a b e B h =
    capped (round binary64 false a b) k (round-nonneg binary64 a b)
    (subst (λ (z : Float). T (le (round binary64 false a b) z)) e
    (round_mono binary64 a b (2 ^ k) 1 B (lit< tt) (rw mul-one h)))

at31 : round binary64 false (2 ^ 31) 1 ≡ fin false 1 (pos 31)
unfolding round
at31 = refl

at37 : round binary64 false (2 ^ 37) 1 ≡ fin false 1 (pos 37)
unfolding round
at37 = refl

at38 : round binary64 false (2 ^ 38) 1 ≡ fin false 1 (pos 38)
unfolding round
at38 = refl

-- ---- a whole number below 2 ^ 53 is a float exactly
exact : (n : ℕ) → n < 2 ^ 53 → HasValue (of_int binary64 (pos n)) false n 1
unfolding of_int
exact n h = round_exact binary64 false n 1 n 1074 (lit< tt) h (lt_of_lt_of_le (shl_lt 53 1074 h) (pow_mono {i = 1127} {j = 2098} (lit≤ tt))) (sym (mul-one (n * 2 ^ 1074)))

-- ---- the quotient of a total and a number of parts
cut : (a p x y de dd : ℕ) → a ≤ 2 ^ 31 → 0 < p → x ≡ a * de → y ≡ p * dd → x * dd ≤ 2 ^ 31 * (y * de)
cut a p x y de dd h P ex ey =
    rw (ex, ey)
    (le_trans (mul-le-mul_right dd (mul-le-mul_right de h))
    (le_trans (le_of_eq (mul_assoc (2 ^ 31) de dd))
    (mul-le-mul_left (2 ^ 31) (le_trans (le_of_eq (mul_comm de dd)) (mul-le-mul_right de (le_trans (le_of_eq (sym (one-mul dd))) (mul-le-mul_right dd P)))))))

div-within : (x y : Float) (a p : ℕ) → HasValue x false a 1 → HasValue y false p 1 → 0 < p → a ≤ 2 ^ 31 → Within (div binary64 x y) (2 ^ 31)
unfolding div
div-within nan y a p h k P A = absurd h
div-within (inf s) y a p h k P A = absurd h
div-within (fin true m e) y a p h k P A = absurd (true≢false h.0)
div-within (fin false m e) nan a p h k P A = absurd k
div-within (fin false m e) (inf t) a p h k P A = absurd k
div-within (fin false m e) (fin true n d) a p h k P A = absurd (true≢false k.0)
div-within (fin false m e) (fin false n d) a p h k P A = go (eqb n 0) (eqb→eq n 0)
  where
    x≡ : m * up e ≡ a * down e
    x≡ = rw mul-one at h.1

    y≡ : n * up d ≡ p * down d
    y≡ = rw mul-one at k.1

    y-pos : 0 < n * up d
    y-pos = rw y≡ (mul-pos P (down_pos d))

    go : (b : Bool) → (T b → n ≡ 0)
        → Within (cond b (cond (eqb m 0) nan (inf false)) (round binary64 false (m * up e * down d) (n * up d * down e))) (2 ^ 31)
    go true z = absurd (lt_irrefl 0 (subst (λ (w : ℕ). 0 < w) (z tt) (first_pos n (up d) y-pos)))
    go false z = round-within 31 (m * up e * down d) (n * up d * down e) at31 (mul-pos y-pos (down_pos e)) (cut a p (m * up e) (n * up d) (down e) (down d) A P x≡ y≡)

ideal-within : (total parts : ℕ) → total ≤ most_weight → 0 < parts → parts ≤ 16 → Within (ideal_of total parts) (2 ^ 31)
ideal-within total parts h P k =
    div-within (of_int binary64 (pos total)) (of_int binary64 (pos parts)) total parts (exact total (omega arith)) (exact parts (omega arith)) P (omega arith)

-- ---- the product and the sum, for an e with the sign clear
mul-within : (x y : Float) → Within x 64 → Within y (2 ^ 31) → Within (mul binary64 x y) (2 ^ 37)
unfolding mul
mul-within nan y h k = absurd h
mul-within (inf s) y h k = absurd h
mul-within (fin true m e) y h k = absurd h
mul-within (fin false m e) nan h k = absurd k
mul-within (fin false m e) (inf t) h k = absurd k
mul-within (fin false m e) (fin true n d) h k = absurd k
mul-within (fin false m e) (fin false n d) h k =
    round-within 37 (m * up e * (n * up d)) (down e * down d) at37 (mul-pos (down_pos e) (down_pos d))
    (le_trans (mul-le-mul h k) (le_of_eq (mul-mul-mul_comm 64 (down e) (2 ^ 31) (down d))))

swapped : (b x y : ℕ) → b * x * y ≡ b * (y * x)
swapped b x y = mul_assoc b x y ∙ ap (λ (z : ℕ). b * z) (mul_comm x y)

add-within : (x y : Float) → Within x (2 ^ 31) → Within y (2 ^ 37) → Within (add binary64 x y) (2 ^ 38)
unfolding add
add-within nan y h k = absurd h
add-within (inf s) y h k = absurd h
add-within (fin true m e) y h k = absurd h
add-within (fin false m e) nan h k = absurd k
add-within (fin false m e) (inf t) h k = absurd k
add-within (fin false m e) (fin true n d) h k = absurd k
add-within (fin false m e) (fin false n d) h k =
    let a : m * up e * down d ≤ 2 ^ 31 * (down e * down d) = le_trans (mul-le-mul_right (down d) h) (le_of_eq (mul_assoc (2 ^ 31) (down e) (down d))) in
    let b : n * up d * down e ≤ 2 ^ 37 * (down e * down d) = le_trans (mul-le-mul_right (down e) k) (le_of_eq (swapped (2 ^ 37) (down d) (down e))) in
    round-within 38 (m * up e * down d + n * up d * down e) (down e * down d) at38 (mul-pos (down_pos e) (down_pos d)) (total (m * up e * down d) (n * up d * down e) (down e * down d) a b)
  where
    total : (a b c : ℕ) → a ≤ 2 ^ 31 * c → b ≤ 2 ^ 37 * c → a + b ≤ 2 ^ 38 * c
    total a b c h k = omega arith

-- ---- e is -0.0: the product is -0.0, and the sum is i
-- x is finite, has the sign, and is zero
abbrev NegZero : Float → Type 0
NegZero nan = ⊥
NegZero (inf s) = ⊥
NegZero (fin false m e) = ⊥
NegZero (fin true m e) = m * up e ≡ 0

zero-of-value : (x : Float) (a c : ℕ) → 0 < c → a ≡ 0 → HasValue x true a c → NegZero x
zero-of-value nan a c C z h = absurd h
zero-of-value (inf s) a c C z h = absurd h
zero-of-value (fin false m e) a c C z h = absurd (true≢false (sym h.0))
zero-of-value (fin true m e) a c C z h = none (m * up e) c C (h.1 ∙ ap (λ (w : ℕ). w * down e) z ∙ zero-mul (down e))
  where
    none : (x c : ℕ) → 0 < c → x * c ≡ 0 → x ≡ 0
    none x c C e = elim (eq-zero-or-pos x) [ inl z ↦ z | inr p ↦ absurd (lt_irrefl 0 (subst (λ (w : ℕ). 0 < w) e (mul-pos p C))) ]

mul-zero-is : (x y : Float) → NegZero x → Within y (2 ^ 31) → NegZero (mul binary64 x y)
unfolding mul
mul-zero-is nan y h k = absurd h
mul-zero-is (inf s) y h k = absurd h
mul-zero-is (fin false m e) y h k = absurd h
mul-zero-is (fin true m e) nan h k = absurd k
mul-zero-is (fin true m e) (inf t) h k = absurd k
mul-zero-is (fin true m e) (fin true n d) h k = absurd k
mul-zero-is (fin true m e) (fin false n d) h k =
    let a = m * up e * (n * up d) in
    let c = down e * down d in
    let z : a ≡ 0 = ap (λ (w : ℕ). w * (n * up d)) h ∙ zero-mul (n * up d) in
    let C : 0 < c = mul-pos (down_pos e) (down_pos d) in
    zero-of-value (round binary64 true a c) a c C z
    (round_exact binary64 true a c 0 0 C (lit< tt) (lit< tt) (ap (λ (w : ℕ). w * 2 ^ 1074) z ∙ sym (zero-mul c)))

add-zero-is : (x y : Float) → Within x (2 ^ 31) → NegZero y → Within (add binary64 x y) (2 ^ 38)
unfolding add
add-zero-is nan y h k = absurd h
add-zero-is (inf s) y h k = absurd h
add-zero-is (fin true m e) y h k = absurd h
add-zero-is (fin false m e) nan h k = absurd k
add-zero-is (fin false m e) (inf t) h k = absurd k
add-zero-is (fin false m e) (fin false n d) h k = absurd k
add-zero-is (fin false m e) (fin true n d) h k =
    go (m * up e * down d) (n * up d * down e) (down e * down d) (ltb (m * up e * down d) (n * up d * down e)) (ltb→lt (m * up e * down d) (n * up d * down e))
    (ap (λ (w : ℕ). w * down e) k ∙ zero-mul (down e)) (mul-pos (down_pos e) (down_pos d))
    (le_trans (mul-le-mul_right (down d) h) (le_of_eq (mul_assoc (2 ^ 31) (down e) (down d))))
  where
    none : (a b : ℕ) → a < b → b ≡ 0 → ⊥
    none a b h e = omega arith

    small : (a b c : ℕ) → a ≤ 2 ^ 31 * c → a - b ≤ 2 ^ 38 * c
    small a b c h = omega arith

    go : (a b c : ℕ) (t : Bool) → (T t → a < b) → b ≡ 0 → 0 < c → a ≤ 2 ^ 31 * c → Within (cond t (round binary64 true (b - a) c) (round binary64 false (a - b) c)) (2 ^ 38)
    go a b c true l z C h = absurd (none a b (l tt) z)
    go a b c false l z C h = round-within 38 (a - b) c at38 C (small a b c h)

-- ---- a legal e is a number up to 64, or -0.0
cases : (e : Float) → T (le zero64 e) → T (le e most64) → Within e 64 ⊎ NegZero e
unfolding le
cases nan h k = absurd h
cases (inf true) h k = absurd h
cases (inf false) h k = absurd k
cases (fin true m d) h k = inr (rw mul-one at (sym (eqb→eq (0 * down d) (m * up d * 1) (and_l (eqb (0 * down d) (m * up d * 1)) (eqb (0 * down d) 0) h)) ∙ zero-mul (down d)))
cases (fin false m d) h k = inl (rw mul-one at (lt-or-eq (m * up d * 1) (64 * down d) true k))

legal-cases : (e : Float) → T (legal_e e) → Within e 64 ⊎ NegZero e
unfolding legal_e
legal-cases e h = cases e (and_l (le zero64 e) (le e most64) h) (and_r (le zero64 e) (le e most64) h)

-- ---- the whole
pub limit-within : (total parts : ℕ) (e : Float) → total ≤ most_weight → 0 < parts → parts ≤ 16 → T (legal_e e) → Within (limit_of total parts e) (2 ^ 38)
unfolding limit_of
limit-within total parts e h P k l =
    let i = ideal_of total parts in
    let w : Within i (2 ^ 31) = ideal-within total parts h P k in
    elim (legal-cases e l) [ inl x ↦ add-within i (mul binary64 e i) w (mul-within e i x w) | inr z ↦ add-zero-is i (mul binary64 e i) w (mul-zero-is e i z w) ]

-- ---- what the cast to `u64` asks, and what it gives
pub castable : (x : Float) → Within x (2 ^ 38) → T (lt (fin true 1 (pos 0)) x) × T (lt x (fin false 1 (pos 64)))
unfolding lt
castable nan h = absurd h
castable (inf s) h = absurd h
castable (fin true m e) h = absurd h
castable (fin false m e) h =
    (lt→ltb 0 (1 * down e + m * up e * 1) (least (down e) (m * up e * 1) (down_pos e)), lt→ltb (m * up e * 1) (1 * 2 ^ 64 * down e) (most (m * up e) (down e) (down_pos e) h))
  where
    least : (d a : ℕ) → 0 < d → 0 < 1 * d + a
    least d a h = omega arith

    most : (a d : ℕ) → 0 < d → a ≤ 2 ^ 38 * d → a * 1 < 1 * 2 ^ 64 * d
    most a d D h = omega arith

pub whole : (x : Float) → Within x (2 ^ 38) → to_unsigned 64 x ≡ whole_of x
unfolding to_unsigned
whole nan h = absurd h
whole (inf s) h = absurd h
whole (fin true m e) h = absurd h
whole (fin false m e) h = uncapped (m * up e / down e) ((div-lt_iff_lt-mul (down_pos e)).1 (below (m * up e) (down e) (down_pos e) h))
  where
    below : (a d : ℕ) → 0 < d → a ≤ 2 ^ 38 * d → a < 2 ^ 64 * d
    below a d D h = omega arith

    uncapped : (a : ℕ) → a < 2 ^ 64 → min a (2 ^ 64 - 1) ≡ a
    uncapped a h = omega arith

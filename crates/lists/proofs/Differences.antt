-- Whole numbers as differences: `sub_ℕ a b` is a - b, and each operation and test on whole numbers is one on the two naturals, so that `omega` serves. Assumes nothing.
use mathlib.Core.Path.{◌≡◌, refl, sym, ap, ap₂, ◌∙◌}
use mathlib.Core.Bool.{Bool, true, false, not, cond}
use Prim.Native.Nat.{ℕ, zero, suc, ◌+◌, ◌-◌, ◌*◌, ◌^◌, ◌≤◌, ◌<◌}
use native.Mathlib.Omega.{arith}
use lib.Dec.{T, ltb, leb, ltb→lt, nltb→le}
use native.Mathlib.Nat.{add-zero, zero-add}
use borrow.Author.Tests.{lt-ltb, le-ltb, le-leb, lt-leb, ltb-true, ltb-false}
use lib.IntN.{ℤ, pos, negsuc, neg_ℤ, sub_ℕ, ◌+ℤ◌, ◌-ℤ◌, ◌*ℤ◌}
use lib.Signed.{mag, lt_z, le_z}
use mir.Syntax.{w64}
use mir.Val.{SFits, to_z}
use mir.ValLaws.{to_z-of_z}
use Rattle.lists.proofs.Orders.{lt_not_le, not-lt-le}

-- the two cases of a - b
at_least : (a b : ℕ) → b ≤ a → sub_ℕ a b ≡ pos (a - b)
at_least a b h = ap (λ (t : Bool). cond t (negsuc (b - suc a)) (pos (a - b))) (le-ltb a b h)

less : (a b : ℕ) → a < b → sub_ℕ a b ≡ negsuc (b - suc a)
less a b h = ap (λ (t : Bool). cond t (negsuc (b - suc a)) (pos (a - b))) (lt-ltb a b h)

-- the same integer
pub same : (a b c d : ℕ) → a + d ≡ c + b → sub_ℕ a b ≡ sub_ℕ c d
same a b c d e = go (ltb a b) (ltb→lt a b) (nltb→le a b)
  where
    go : (t : Bool) → (T t → a < b) → (T (not t) → b ≤ a) → cond t (negsuc (b - suc a)) (pos (a - b)) ≡ sub_ℕ c d
    go true l g = let h : a < b = l tt in ap negsuc (omega arith) ∙ sym (less c d (omega arith))
    go false l g = let h : b ≤ a = g tt in ap pos (omega arith) ∙ sym (at_least c d (omega arith))

-- an integer by its sign, as a difference: whatever holds of every difference holds of it
pub pos-is : (a : ℕ) → pos a ≡ sub_ℕ a 0
pos-is a = sym (at_least a 0 (omega arith) ∙ ap pos (omega arith))

pub negsuc-is : (a : ℕ) → negsuc a ≡ sub_ℕ 0 (suc a)
negsuc-is a = sym (less 0 (suc a) (omega arith) ∙ ap negsuc (omega arith))

abbrev pub above : ℤ → ℕ
above (pos a) = a
above (negsuc a) = 0

abbrev pub beneath : ℤ → ℕ
beneath (pos a) = 0
beneath (negsuc a) = suc a

pub is-diff : (z : ℤ) → z ≡ sub_ℕ (above z) (beneath z)
is-diff (pos a) = pos-is a
is-diff (negsuc a) = negsuc-is a

-- what holds of a - b where b is at most a, and where it is not, holds of it
pub by_sign : (P : ℤ → Type 0) (a b : ℕ) → (b ≤ a → P (pos (a - b))) → (a < b → P (negsuc (b - suc a))) → P (sub_ℕ a b)
by_sign P a b f g = go (ltb a b) (ltb→lt a b) (nltb→le a b)
  where
    go : (t : Bool) → (T t → a < b) → (T (not t) → b ≤ a) → P (cond t (negsuc (b - suc a)) (pos (a - b)))
    go true l h = g (l tt)
    go false l h = f (h tt)

-- ---- the operations
add-pos : (a : ℕ) (c d : ℕ) → pos a +ℤ sub_ℕ c d ≡ sub_ℕ (a + c) d
add-pos a c d =
    by_sign (λ (z : ℤ). pos a +ℤ z ≡ sub_ℕ (a + c) d) c d
    (λ h. pos-is (a + (c - d)) ∙ same (a + (c - d)) 0 (a + c) d (omega arith))
    (λ h. same a (suc (d - suc c)) (a + c) d (omega arith))

add-negsuc : (a : ℕ) (c d : ℕ) → negsuc a +ℤ sub_ℕ c d ≡ sub_ℕ c (suc a + d)
add-negsuc a c d =
    by_sign (λ (z : ℤ). negsuc a +ℤ z ≡ sub_ℕ c (suc a + d)) c d
    (λ h. same (c - d) (suc a) c (suc a + d) (omega arith))
    (λ h. negsuc-is (suc (a + (d - suc c))) ∙ same 0 (suc (suc (a + (d - suc c)))) c (suc a + d) (omega arith))

pub add : (a b c d : ℕ) → sub_ℕ a b +ℤ sub_ℕ c d ≡ sub_ℕ (a + c) (b + d)
add a b c d =
    by_sign (λ (z : ℤ). z +ℤ sub_ℕ c d ≡ sub_ℕ (a + c) (b + d)) a b
    (λ h. add-pos (a - b) c d ∙ same (a - b + c) d (a + c) (b + d) (omega arith))
    (λ h. add-negsuc (b - suc a) c d ∙ same c (suc (b - suc a) + d) (a + c) (b + d) (omega arith))

neg-pos : (n : ℕ) → neg_ℤ (pos n) ≡ sub_ℕ 0 n
neg-pos zero = refl
neg-pos (suc n) = negsuc-is n

pub neg : (a b : ℕ) → neg_ℤ (sub_ℕ a b) ≡ sub_ℕ b a
neg a b =
    by_sign (λ (z : ℤ). neg_ℤ z ≡ sub_ℕ b a) a b
    (λ h. neg-pos (a - b) ∙ same 0 (a - b) b a (omega arith))
    (λ h. pos-is (suc (b - suc a)) ∙ same (suc (b - suc a)) 0 b a (omega arith))

pub sub : (a b c d : ℕ) → sub_ℕ a b -ℤ sub_ℕ c d ≡ sub_ℕ (a + d) (b + c)
sub a b c d = ap (λ (z : ℤ). sub_ℕ a b +ℤ z) (neg c d) ∙ add a b d c

pub twice : (a b : ℕ) → pos 2 *ℤ sub_ℕ a b ≡ sub_ℕ (2 * a) (2 * b)
twice a b =
    by_sign (λ (z : ℤ). pos 2 *ℤ z ≡ sub_ℕ (2 * a) (2 * b)) a b
    (λ h. pos-is (2 * (a - b)) ∙ same (2 * (a - b)) 0 (2 * a) (2 * b) (omega arith))
    (λ h. neg-pos (2 * suc (b - suc a)) ∙ same 0 (2 * suc (b - suc a)) (2 * a) (2 * b) (omega arith))

-- ---- the order
-- two tests that pass and fail together are equal
alike : (a b c d : ℕ) → (a < b → c < d) → (b ≤ a → d ≤ c) → ltb a b ≡ ltb c d
alike a b c d f g = go (ltb a b) (ltb→lt a b) (nltb→le a b)
  where
    go : (t : Bool) → (T t → a < b) → (T (not t) → b ≤ a) → t ≡ ltb c d
    go true l h = sym (lt-ltb c d (f (l tt)))
    go false l h = sym (le-ltb c d (g (h tt)))

lt-pos : (x c d : ℕ) → lt_z (pos x) (sub_ℕ c d) ≡ ltb (x + d) c
lt-pos x c d =
    by_sign (λ (z : ℤ). lt_z (pos x) z ≡ ltb (x + d) c) c d
    (λ h. alike x (c - d) (x + d) c (λ l. omega arith) (λ l. omega arith))
    (λ h. sym (le-ltb (x + d) c (omega arith)))

lt-negsuc : (x c d : ℕ) → lt_z (negsuc x) (sub_ℕ c d) ≡ ltb d (c + suc x)
lt-negsuc x c d =
    by_sign (λ (z : ℤ). lt_z (negsuc x) z ≡ ltb d (c + suc x)) c d
    (λ h. sym (lt-ltb d (c + suc x) (omega arith)))
    (λ h. alike (d - suc c) x d (c + suc x) (λ l. omega arith) (λ l. omega arith))

pub order : (a b c d : ℕ) → lt_z (sub_ℕ a b) (sub_ℕ c d) ≡ ltb (a + d) (c + b)
order a b c d =
    by_sign (λ (z : ℤ). lt_z z (sub_ℕ c d) ≡ ltb (a + d) (c + b)) a b
    (λ h. lt-pos (a - b) c d ∙ alike (a - b + d) c (a + d) (c + b) (λ l. omega arith) (λ l. omega arith))
    (λ h. lt-negsuc (b - suc a) c d ∙ alike d (c + suc (b - suc a)) (a + d) (c + b) (λ l. omega arith) (λ l. omega arith))

pub at_most : (a b c d : ℕ) → le_z (sub_ℕ a b) (sub_ℕ c d) ≡ leb (a + d) (c + b)
at_most a b c d = go (ltb (c + b) (a + d)) refl
  where
    go : (t : Bool) → ltb (c + b) (a + d) ≡ t → le_z (sub_ℕ a b) (sub_ℕ c d) ≡ leb (a + d) (c + b)
    go true e = lt_not_le (sub_ℕ a b) (sub_ℕ c d) (order c d a b ∙ e) ∙ sym (lt-leb (a + d) (c + b) (ltb-true (c + b) (a + d) e))
    go false e = not-lt-le (sub_ℕ c d) (sub_ℕ a b) (order c d a b ∙ e) ∙ sym (le-leb (a + d) (c + b) (ltb-false (c + b) (a + d) e))

-- a difference that is not above 0
pub at-most-none : (a b : ℕ) → le_z (sub_ℕ a b) (pos 0) ≡ leb a b
at-most-none a b = ap (le_z (sub_ℕ a b)) (pos-is 0) ∙ at_most a b 0 0 ∙ ap₂ leb (add-zero a) (zero-add b)

-- ---- the range
pub fits : (a b : ℕ) → a < 2 ^ 63 → b ≤ 2 ^ 63 → SFits w64 (sub_ℕ a b)
fits a b h k = record { sfits = by_sign (λ (z : ℤ). mag z < 2 ^ 63) a b (λ l. omega arith) (λ l. omega arith) }

-- ---- what the machine reads back from the bits of a number that is cast from an unsigned one
pub minus : (a b : ℕ) → pos a -ℤ pos b ≡ sub_ℕ a b
minus a b = ap (λ (z : ℤ). z -ℤ pos b) (pos-is a) ∙ ap (λ (z : ℤ). sub_ℕ a 0 -ℤ z) (pos-is b) ∙ sub a 0 b 0 ∙ same (a + 0) (0 + b) a b (omega arith)

pub small : (a : ℕ) → a < 2 ^ 63 → SFits w64 (pos a)
small a h = record { sfits = h }

pub read : (a : ℕ) → a < 2 ^ 63 → to_z w64 a ≡ pos a
read a h = to_z-of_z w64 (pos a) (small a h)

pub read-minus : (a b : ℕ) → a < 2 ^ 63 → b < 2 ^ 63 → to_z w64 a -ℤ to_z w64 b ≡ sub_ℕ a b
read-minus a b h k = ap (λ (z : ℤ). z -ℤ to_z w64 b) (read a h) ∙ ap (λ (z : ℤ). pos a -ℤ z) (read b k) ∙ minus a b

pub read-minus-fits : (a b : ℕ) → a < 2 ^ 63 → b < 2 ^ 63 → SFits w64 (to_z w64 a -ℤ to_z w64 b)
read-minus-fits a b h k = rw (read-minus a b h k) (fits a b h (omega arith))

-- ---- twice w, as the machine reads it
pub doubled : (w : ℕ) → w < 2 ^ 32 → pos 2 *ℤ to_z w64 w ≡ pos (2 * w)
doubled w h = ap (λ (z : ℤ). pos 2 *ℤ z) (read w (omega arith))

-- ---- sizes: `mag z` is z without its sign
pub mag-sub : (a b : ℕ) → mag (sub_ℕ a b) ≤ a + b
mag-sub a b = by_sign (λ (z : ℤ). mag z ≤ a + b) a b (λ h. omega arith) (λ h. omega arith)

pub mag_up : (z : ℤ) (k : ℕ) → mag (z +ℤ pos k) ≤ mag z + k
mag_up (pos a) k = omega arith
mag_up (negsuc a) k = by_sign (λ (z : ℤ). mag z ≤ a + k) k (suc a) (λ h. omega arith) (λ h. omega arith)

pub mag_down : (z : ℤ) (k : ℕ) → mag (z -ℤ pos k) ≤ mag z + k
mag_down (pos a) zero = omega arith
mag_down (pos a) (suc k) = by_sign (λ (z : ℤ). mag z ≤ a + suc k) a (suc k) (λ h. omega arith) (λ h. omega arith)
mag_down (negsuc a) zero = by_sign (λ (z : ℤ). mag z ≤ a + 0) 0 (suc a) (λ h. omega arith) (λ h. omega arith)
mag_down (negsuc a) (suc k) = omega arith

-- ---- a natural added or taken away
pub plus : (a b k : ℕ) → sub_ℕ a b +ℤ pos k ≡ sub_ℕ (a + k) b
plus a b k = ap (λ (z : ℤ). sub_ℕ a b +ℤ z) (pos-is k) ∙ add a b k 0 ∙ same (a + k) (b + 0) (a + k) b (omega arith)

pub take-away : (a b k : ℕ) → sub_ℕ a b -ℤ pos k ≡ sub_ℕ a (b + k)
take-away a b k = ap (λ (z : ℤ). sub_ℕ a b -ℤ z) (pos-is k) ∙ sub a b k 0 ∙ same (a + 0) (b + k) a (b + k) (omega arith)

-- a natural less a difference
pub pos-minus : (c a b d : ℕ) → d + a ≡ c + b → pos c -ℤ sub_ℕ a b ≡ pos d
pos-minus c a b d e = ap (λ (z : ℤ). z -ℤ sub_ℕ a b) (pos-is c) ∙ sub c 0 a b ∙ same (c + b) (0 + a) d 0 (omega arith) ∙ sym (pos-is d)

-- the difference of two whole numbers is not much larger than they are
parts-small : (z : ℤ) → above z + beneath z ≤ mag z + 1
parts-small (pos a) = omega arith
parts-small (negsuc a) = omega arith

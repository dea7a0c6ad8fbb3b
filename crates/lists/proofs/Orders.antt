-- The order of whole numbers, as tests. Assumes nothing.
use mathlib.Core.Path.{◌≡◌, refl}
use mathlib.Core.Bool.{Bool, true, false}
use Prim.Native.Nat.{ℕ}
use native.Mathlib.Omega.{arith}
use borrow.Author.Tests.{lt-ltb, le-ltb, le-leb, lt-leb, ltb-true, ltb-false, leb-true, leb-false}
use lib.IntN.{ℤ, pos, negsuc}
use lib.Signed.{lt_z, le_z}

-- a test does not both hold and fail
pub clash : {X : Type 0} (t : Bool) → t ≡ true → t ≡ false → X
clash t p q = let o : ◌≡◌ {A = ℕ} 0 1 = cc in absurd (omega arith)

pub le-lt : (a b c : ℤ) → le_z a b ≡ true → lt_z b c ≡ true → lt_z a c ≡ true
le-lt (pos a) (pos b) (pos c) p q = let x = leb-true a b p in let y = ltb-true b c q in lt-ltb a c (omega arith)
le-lt (pos a) (pos b) (negsuc c) p q = q
le-lt (pos a) (negsuc b) c p q = clash false p refl
le-lt (negsuc a) b (pos c) p q = refl
le-lt (negsuc a) (pos b) (negsuc c) p q = clash false q refl
le-lt (negsuc a) (negsuc b) (negsuc c) p q = let x = leb-true b a p in let y = ltb-true c b q in lt-ltb c a (omega arith)

pub lt-then-le : (a b c : ℤ) → lt_z a b ≡ true → le_z b c ≡ true → lt_z a c ≡ true
lt-then-le (pos a) (pos b) (pos c) p q = let x = ltb-true a b p in let y = leb-true b c q in lt-ltb a c (omega arith)
lt-then-le (pos a) (pos b) (negsuc c) p q = q
lt-then-le (pos a) (negsuc b) c p q = clash false p refl
lt-then-le (negsuc a) b (pos c) p q = refl
lt-then-le (negsuc a) (pos b) (negsuc c) p q = clash false q refl
lt-then-le (negsuc a) (negsuc b) (negsuc c) p q = let x = ltb-true b a p in let y = leb-true c b q in lt-ltb c a (omega arith)

pub lt-le : (a b : ℤ) → lt_z a b ≡ true → le_z a b ≡ true
lt-le (pos a) (pos b) p = let x = ltb-true a b p in le-leb a b (omega arith)
lt-le (pos a) (negsuc b) p = p
lt-le (negsuc a) (pos b) p = p
lt-le (negsuc a) (negsuc b) p = let x = ltb-true b a p in le-leb b a (omega arith)

pub not-lt-le : (a b : ℤ) → lt_z a b ≡ false → le_z b a ≡ true
not-lt-le (pos a) (pos b) p = le-leb b a (ltb-false a b p)
not-lt-le (pos a) (negsuc b) p = refl
not-lt-le (negsuc a) (pos b) p = clash true refl p
not-lt-le (negsuc a) (negsuc b) p = le-leb a b (ltb-false b a p)

pub not-le-lt : (a b : ℤ) → le_z a b ≡ false → lt_z b a ≡ true
not-le-lt (pos a) (pos b) p = lt-ltb b a (leb-false a b p)
not-le-lt (pos a) (negsuc b) p = refl
not-le-lt (negsuc a) (pos b) p = clash true refl p
not-le-lt (negsuc a) (negsuc b) p = lt-ltb a b (leb-false b a p)

pub lt_not_le : (a b : ℤ) → lt_z b a ≡ true → le_z a b ≡ false
lt_not_le (pos a) (pos b) p = lt-leb a b (ltb-true b a p)
lt_not_le (pos a) (negsuc b) p = refl
lt_not_le (negsuc a) (pos b) p = clash false p refl
lt_not_le (negsuc a) (negsuc b) p = lt-leb b a (ltb-true a b p)

-- what is at most another is not above it
pub le_not : (a b : ℤ) → le_z a b ≡ true → lt_z b a ≡ false
le_not a b p = go (lt_z b a) refl
  where
    go : (t : Bool) → lt_z b a ≡ t → t ≡ false
    go true q = clash (le_z a b) p (lt_not_le a b q)
    go false q = refl

pub lt-self : (a : ℤ) → lt_z a a ≡ false
lt-self (pos a) = le-ltb a a (omega arith)
lt-self (negsuc a) = le-ltb a a (omega arith)

-- nothing is below what is below it
pub lt-not-lt : (a b : ℤ) → lt_z a b ≡ true → lt_z b a ≡ false
lt-not-lt a b p = go (lt_z b a) refl
  where
    go : (t : Bool) → lt_z b a ≡ t → lt_z b a ≡ false
    go true q = clash (lt_z a a) (le-lt a b a (lt-le a b p) q) (lt-self a)
    go false q = q

-- what a is not below, nothing that a is at most is below
pub no_more : (a b c : ℤ) → le_z a b ≡ true → lt_z a c ≡ false → lt_z b c ≡ false
no_more a b c p q = go (lt_z b c) refl
  where
    go : (t : Bool) → lt_z b c ≡ t → lt_z b c ≡ false
    go true r = clash (lt_z a c) (le-lt a b c p r) q
    go false r = r

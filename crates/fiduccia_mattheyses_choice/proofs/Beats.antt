-- The scan's order: by the larger gain, then by the smaller load. Assumes nothing.
use mathlib.Core.Path.{◌≡◌, refl}
use mathlib.Core.Bool.{Bool, true, false, ◌&&◌, ◌||◌}
use Prim.Native.Nat.{ℕ, ◌<◌}
use native.Mathlib.Omega.{arith}
use lib.Dec.{ltb}
use borrow.Author.Tests.{lt-ltb, le-ltb, ltb-true, ltb-false}
use lib.IntN.{ℤ}
use lib.Signed.{lt_z, le_z}
use Rattle.lists.proofs.Bools.{and-false, and_left, and_right, or-true, or-false}
use Rattle.lists.proofs.Orders.{clash, le-lt, lt-then-le, lt-le, le_not, not-lt-le, not-le-lt, lt_not_le, lt-not-lt, no_more}
use Rattle.fiduccia_mattheyses_choice.specs.inner.Scan.{is_free, lock, beats}

-- by the gain, or by the load where the gain is not lower
pub by-gain : (g : ℤ) (l : ℕ) (h : ℤ) (m : ℕ) → lt_z h g ≡ true → beats g l h m ≡ true
by-gain g l h m p = rw p

pub by-load : (g : ℤ) (l : ℕ) (h : ℤ) (m : ℕ) → le_z h g ≡ true → l < m → beats g l h m ≡ true
by-load g l h m p q = rw (p, lt-ltb l m q) (or-true (lt_z h g))

-- what goes before another does not have the lower gain
pub beats-le : (g : ℤ) (l : ℕ) (h : ℤ) (m : ℕ) → beats g l h m ≡ true → le_z h g ≡ true
beats-le g l h m p = go (lt_z h g) refl p
  where
    go : (t : Bool) → lt_z h g ≡ t → t || (le_z h g && ltb l m) ≡ true → le_z h g ≡ true
    go true q r = lt-le h g q
    go false q r = and_left (le_z h g) (ltb l m) r

pub free-beats : (g : ℤ) (l : ℕ) (h : ℤ) (m : ℕ) → is_free h ≡ true → beats g l h m ≡ true → is_free g ≡ true
free-beats g l h m f p = lt-then-le lock h g f (beats-le g l h m p)

-- the lower gain does not go before the higher
pub lower-not : (g : ℤ) (l : ℕ) (h : ℤ) (m : ℕ) → lt_z g h ≡ true → beats g l h m ≡ false
lower-not g l h m p = rw (lt-not-lt g h p, lt_not_le h g p)

-- nor does one of no higher gain and no smaller load
pub level-not : (g : ℤ) (l : ℕ) (h : ℤ) (m : ℕ) → lt_z h g ≡ false → ltb l m ≡ false → beats g l h m ≡ false
level-not g l h m p q = rw (p, q) (and-false (le_z h g))

-- what goes before b goes before all that does not
pub beats-on : (a : ℤ) (x : ℕ) (b : ℤ) (y : ℕ) (c : ℤ) (z : ℕ) → beats a x b y ≡ true → beats c z b y ≡ false → beats a x c z ≡ true
beats-on a x b y c z p n = go (lt_z b a) refl p
  where
    not-above : lt_z b c ≡ false
    not-above = (or-false (lt_z b c) (le_z b c && ltb z y) n).0

    not-lighter : le_z b c && ltb z y ≡ false
    not-lighter = (or-false (lt_z b c) (le_z b c && ltb z y) n).1

    level : le_z b a ≡ true → x < y → (t : Bool) → le_z b c ≡ t → (u : Bool) → ltb z y ≡ u → t && u ≡ false → beats a x c z ≡ true
    level ba xy false q u r e = by-gain a x c z (lt-then-le c b a (not-le-lt b c q) ba)
    level ba xy true q true r e = clash true refl e
    level ba xy true q false r e =
        let yz = ltb-false z y r in
        by-load a x c z (not-lt-le a c (no_more b a c ba not-above)) (omega arith)

    go : (t : Bool) → lt_z b a ≡ t → t || (le_z b a && ltb x y) ≡ true → beats a x c z ≡ true
    go true q r = by-gain a x c z (le-lt c b a (not-lt-le b c not-above) q)
    go false q r = level (and_left (le_z b a) (ltb x y) r) (ltb-true x y (and_right (le_z b a) (ltb x y) r)) (le_z b c) refl (ltb z y) refl not-lighter

-- of two, one at most goes before the other
pub beats-not : (a : ℤ) (x : ℕ) (b : ℤ) (y : ℕ) → beats a x b y ≡ true → beats b y a x ≡ false
beats-not a x b y p = go (lt_z b a) refl p
  where
    go : (t : Bool) → lt_z b a ≡ t → t || (le_z b a && ltb x y) ≡ true → beats b y a x ≡ false
    go true q r = lower-not b y a x q
    go false q r =
        let xy = ltb-true x y (and_right (le_z b a) (ltb x y) r) in
        level-not b y a x (le_not b a (and_left (le_z b a) (ltb x y) r)) (le-ltb y x (omega arith))

-- nothing goes before itself
pub beats-self : (a : ℤ) (x : ℕ) → beats a x a x ≡ false
beats-self a x = go (beats a x a x) refl
  where
    go : (t : Bool) → beats a x a x ≡ t → t ≡ false
    go true p = clash (beats a x a x) p (beats-not a x a x p)
    go false p = refl

-- Laws of the tests' connectives, and of a weight that counts where a test holds. Assumes nothing.
use mathlib.Core.Path.{◌≡◌, refl, sym, ◌∙◌}
use mathlib.Core.Bool.{Bool, true, false, not, ◌&&◌, ◌||◌}
use Prim.Native.Nat.{ℕ, ◌+◌, ◌≤◌}
use native.Mathlib.Omega.{arith}
use native.Mathlib.Nat.{add-zero, zero-add}
use lib.Dec.{eqb}
use borrow.Author.Tests.{eq-eqb, ne_eqb, eqb-true, eqb-false}
use Rattle.lists.specs.Sum.{weigh}

pub and-false : (t : Bool) → t && false ≡ false
and-false true = refl
and-false false = refl

pub and_left : (s t : Bool) → s && t ≡ true → s ≡ true
and_left true t e = refl
and_left false t e = e

pub and_right : (s t : Bool) → s && t ≡ true → t ≡ true
and_right true t e = e
and_right false t e = let o : ◌≡◌ {A = ℕ} 0 1 = cc in absurd (omega arith)

pub or-true : (t : Bool) → t || true ≡ true
or-true true = refl
or-true false = refl

pub or-none : (t : Bool) → t || false ≡ t
or-none true = refl
or-none false = refl

pub or-false : (s t : Bool) → s || t ≡ false → (s ≡ false) × (t ≡ false)
or-false true t e = let o : ◌≡◌ {A = ℕ} 0 1 = cc in absurd (omega arith)
or-false false t e = (refl, e)

pub eqb-sym : (a b : ℕ) → eqb a b ≡ eqb b a
eqb-sym a b = go (eqb a b) refl
  where
    go : (t : Bool) → eqb a b ≡ t → eqb a b ≡ eqb b a
    go true e = e ∙ sym (eq-eqb b a (sym (eqb-true a b e)))
    go false e = e ∙ sym (ne_eqb b a (λ q. eqb-false a b e (sym q)))

pub weigh-zero : (t : Bool) → weigh t 0 ≡ 0
weigh-zero true = refl
weigh-zero false = refl

pub weigh-weigh : (s t : Bool) (x : ℕ) → weigh s (weigh t x) ≡ weigh t (weigh s x)
weigh-weigh true t x = refl
weigh-weigh false true x = refl
weigh-weigh false false x = refl

pub weigh-most : (t : Bool) (x : ℕ) → weigh t x ≤ x
weigh-most true x = omega arith
weigh-most false x = omega arith

-- a weight counted where the test fails and where it holds
pub weigh-split : (t : Bool) (x : ℕ) → weigh (not t) x + weigh t x ≡ x
weigh-split true x = zero-add x
weigh-split false x = add-zero x

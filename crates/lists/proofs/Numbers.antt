-- Laws of the number that a call gives: the first test that holds decides. Assumes nothing.
use mathlib.Core.Path.{◌≡◌, refl, sym, ◌∙◌, ap}
use mathlib.Core.Bool.{Bool, true, false, not, cond, ◌||◌}
use Prim.Native.Nat.{ℕ, zero, suc}
use native.Mathlib.Omega.{arith}
use lib.Dec.{ltb, eqb}
use borrow.Author.Tests.{eq-eqb, ne_eqb, ltb-true}
use Rattle.lists.specs.Number.{or_else}

-- where the first number is not 0 it is the answer
pub or-else-first : (r m k : ℕ) → r ≡ m → (r ≡ 0 → ⊥) → r ≡ or_else m k
or-else-first r zero k e ne = absurd (ne e)
or-else-first r (suc m) k e ne = e

-- where it is 0 the second is
pub or-else-then : (r m k : ℕ) → r ≡ m → r ≡ 0 → or_else m k ≡ k
or-else-then r m k e z = ap (λ (x : ℕ). or_else x k) (sym e ∙ z)

-- 0 only where both are
pub or-else-zero : (m k : ℕ) → or_else m k ≡ 0 → (m ≡ 0) × (k ≡ 0)
or-else-zero zero k e = (refl, e)
or-else-zero (suc m) k e = absurd (omega arith)

-- a number above 0 that its test did not give
pub not-given : (t : Bool) (m k : ℕ) → cond t (suc m) k ≡ 0 → (t ≡ false) × (k ≡ 0)
not-given true m k e = absurd (omega arith)
not-given false m k e = (refl, e)

-- A number's definition against the code's tests, a law for each way in which a test s of the code, which is the definition's t, was answered: k is given, or r is looked for further on.
pub test-holds : (t s : Bool) (k rest : ℕ) → s ≡ t → s ≡ true → k ≡ cond t k rest
test-holds t s k rest e h = rw (sym e ∙ h)

pub test-fails : (t s : Bool) (r k rest : ℕ) → s ≡ t → s ≡ false → r ≡ rest → r ≡ cond t k rest
test-fails t s r k rest e h q = rw (sym e ∙ h) q

pub rule-fails : (t s : Bool) (k rest : ℕ) → s ≡ t → not s ≡ true → k ≡ cond (not t) k rest
rule-fails t s k rest e h = rw (← e, h)

pub rule-holds : (t s : Bool) (r k rest : ℕ) → s ≡ t → not s ≡ false → r ≡ rest → r ≡ cond (not t) k rest
rule-holds t s r k rest e h q = rw (← e, h) q

-- the test of two counts
pub counts-differ : (a b k rest : ℕ) → (a ≡ b → ⊥) → k ≡ cond (not (eqb a b)) k rest
counts-differ a b k rest h = rw (ne_eqb a b h)

pub counts-agree : (a b r k rest : ℕ) → a ≡ b → r ≡ rest → r ≡ cond (not (eqb a b)) k rest
counts-agree a b r k rest h q = rw (eq-eqb a b h) q

-- one of two tests
pub either_first : (t u s : Bool) (k rest : ℕ) → s ≡ t → s ≡ true → k ≡ cond (t || u) k rest
either_first t u s k rest e h = rw (sym e ∙ h)

pub either_second : (t u s v : Bool) (k rest : ℕ) → s ≡ t → s ≡ false → v ≡ u → v ≡ true → k ≡ cond (t || u) k rest
either_second t u s v k rest e h f i = rw (sym e ∙ h, sym f ∙ i)

pub neither : (t u s v : Bool) (r k rest : ℕ) → s ≡ t → s ≡ false → v ≡ u → v ≡ false → r ≡ rest → r ≡ cond (t || u) k rest
neither t u s v r k rest e h f i q = rw (sym e ∙ h, sym f ∙ i) q

-- the first tests gave r, or none of them did
pub first_gives : (r m rest : ℕ) → ltb 0 r ≡ true → r ≡ m → r ≡ or_else m rest
first_gives r m rest h e = or-else-first r m rest e (λ z. (let l = ltb-true 0 r h in absurd (omega arith)))

pub first-gives-none : (r m rest : ℕ) → 0 ≡ m → r ≡ rest → r ≡ or_else m rest
first-gives-none r m rest e q = q ∙ sym (or-else-then 0 m rest e refl)

-- the tests of a definition, for `search`; where it wants more steps than it may take, only those that the way out needs
pub ruleset numbering = (test-holds, test-fails, rule-fails, rule-holds, counts-differ, counts-agree, either_first, either_second, neither, first_gives, first-gives-none)

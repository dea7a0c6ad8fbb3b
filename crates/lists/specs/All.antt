-- Tests over a range of numbers.
use Rattle.std.specs.Prelude.{Bool, true, false, ◌&&◌, ◌||◌, ℕ, zero, suc, ◌+◌, ◌-◌}

-- f holds at every number below n
unfoldable pub all : ℕ → (ℕ → Bool) → Bool
all zero f = true
all (suc n) f = all n f && f n

-- f holds at every number from a up to b
unfoldable pub all_from : ℕ → ℕ → (ℕ → Bool) → Bool
all_from a b f = all (b - a) (λ i. f (a + i))

-- f holds at some number below n
unfoldable pub any : ℕ → (ℕ → Bool) → Bool
any zero f = false
any (suc n) f = any n f || f n

-- f holds at some number from a up to b
unfoldable pub any_from : ℕ → ℕ → (ℕ → Bool) → Bool
any_from a b f = any (b - a) (λ i. f (a + i))

-- Sums over a range of numbers.
use Rattle.std.specs.Prelude.{Bool, cond, List, ℕ, zero, suc, ◌+◌, ◌-◌, length, get_or}

-- f 0 + f 1 + .. + f (n - 1)
unfoldable pub sum : ℕ → (ℕ → ℕ) → ℕ
sum zero f = 0
sum (suc n) f = sum n f + f n

-- f a + f (a + 1) + .. + f (b - 1)
unfoldable pub between : ℕ → ℕ → (ℕ → ℕ) → ℕ
between a b f = sum (b - a) (λ i. f (a + i))

-- w where the test holds, and 0 where not
abbrev pub weigh : Bool → ℕ → ℕ
weigh t w = cond t w 0

-- the sum of a list
unfoldable pub total : List ℕ → ℕ
total xs = sum (length xs) (λ i. get_or xs i 0)

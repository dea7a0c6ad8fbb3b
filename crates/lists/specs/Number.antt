-- The first of several numbers that is not 0.
use Rattle.std.specs.Prelude.{ℕ, zero, suc}

-- m, or where that is 0, k
abbrev pub or_else : ℕ → ℕ → ℕ
or_else zero k = k
or_else (suc m) k = suc m

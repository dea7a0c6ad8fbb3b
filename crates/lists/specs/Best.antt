-- The best of the numbers below a bound.
use Rattle.std.specs.Prelude.{Bool, true, false, cond, ℕ, zero, suc}
use Rattle.std.proofs.Math.Option.{Option, none, some}

-- i comes into the choice where it is allowed, and takes the place of the one chosen before it only where it is better
abbrev pub offer : Bool → (ℕ → ℕ → Bool) → ℕ → Option ℕ → Option ℕ
offer false better i o = o
offer true better i none = some i
offer true better i (some v) = some (cond (better i v) i v)

-- of the allowed numbers below n the one that none is better than: with a strict test the lowest of several, with "at least as good" the last
unfoldable pub best : (ℕ → Bool) → (ℕ → ℕ → Bool) → ℕ → Option ℕ
best allowed better zero = none
best allowed better (suc i) = offer (allowed i) better i (best allowed better i)

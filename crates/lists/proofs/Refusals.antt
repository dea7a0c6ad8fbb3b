-- A refusal's number is never 0, the number of a call that is done. Assumes nothing.
use Rattle.std.proofs.Common.{◌≡◌, ℕ, false, refl, ◌==◌}
use borrow.Author.Tests.{eqb-false}
use Rattle.lists.specs.Number.{or_else}
use Rattle.lists.proofs.Numbers.{or-else-first}
use Rattle.lists.specs.declared.refusal.Refusal.{Refusal}
use Rattle.lists.specs.declared.refusal.Refusal.TheVariants.{Lengths, Limits, Rows, Opposites, Weights, Labels, Settings, Lent, FileLength, Check, HeaderLayout, HeaderNumbers, LaterBlocks, Records, Targets}
use Rattle.lists.specs.Refusal.{number_of}

pub not-done : (refusal : Refusal) → (number_of refusal == 0) ≡ false
not-done Lengths = refl
not-done Limits = refl
not-done Rows = refl
not-done Opposites = refl
not-done Weights = refl
not-done Labels = refl
not-done Settings = refl
not-done Lent = refl
not-done FileLength = refl
not-done Check = refl
not-done HeaderLayout = refl
not-done HeaderNumbers = refl
not-done LaterBlocks = refl
not-done Records = refl
not-done Targets = refl

-- where a call's first tests refuse, that is its refusal
pub refused-first : (refusal : Refusal) (m k : ℕ) → number_of refusal ≡ m → number_of refusal ≡ or_else m k
refused-first refusal m k e = or-else-first (number_of refusal) m k e (eqb-false (number_of refusal) 0 (not-done refusal))

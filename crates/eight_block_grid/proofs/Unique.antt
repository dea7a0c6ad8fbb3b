-- Any two answers that meet the self-test's promise are equal. Assumes nothing.
use mathlib.Core.Path.{◌≡◌, sym, ◌∙◌}
use Prim.Native.Nat.{ℕ}
use Rattle.eight_block_grid.specs.SelfTest.{Tested}

pub unique : (r r' : ℕ) → Tested r → Tested r' → r ≡ r'
unique r r' a b = a.compared ∙ sym b.compared

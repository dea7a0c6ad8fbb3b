-- Any two results that meet the promise of `refine_text` at the same inputs are equal. Assumes nothing.
use mathlib.Core.Path.{◌≡◌, sym, ◌∙◌}
use mathlib.Core.List.{List}
use Prim.Native.Nat.{ℕ}
use Rattle.refine_text.specs.Refine.{Printed}

pub unique : (s t : List ℕ) (r r' : ℕ) (u u' : List ℕ) → Printed s t r u → Printed s t r' u' → (r ≡ r') × (u ≡ u')
unique s t r r' u u' a b = (a.answered ∙ sym b.answered, a.output ∙ sym b.output)

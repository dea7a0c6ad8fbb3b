-- Any two results that meet the promise of `read_plan` at the same inputs are equal. Assumes nothing.
use mathlib.Core.Path.{◌≡◌, sym, ◌∙◌}
use mathlib.Core.List.{List}
use Prim.Native.Nat.{ℕ}
use Rattle.plan_reader.specs.declared.ReadAnswer.{ReadAnswer}
use Rattle.plan_reader.specs.Read.{Targets, Read}
use Rattle.plan_reader.proofs.ReadEntry.{same-targets}

pub read-unique : (s : List ℕ) (t : Targets) (r r' : ReadAnswer) (u u' : Targets) → Read s t r u → Read s t r' u' → (r ≡ r') × (u ≡ u')
read-unique s t r r' u u' a b = (
  a.answered ∙ sym b.answered,
  same-targets (a.labels ∙ sym b.labels) (a.weights ∙ sym b.weights) (a.starts ∙ sym b.starts) (a.neighbours ∙ sym b.neighbours) (a.arc_weights ∙ sym b.arc_weights),
)

-- Any two results that meet the promise of `write_plan` at the same inputs are equal. Assumes nothing.
use Rattle.std.proofs.Common.{◌≡◌, ℕ, List, sym, ◌∙◌}
use Rattle.plan_writer.specs.declared.WriteAnswer.{WriteAnswer}
use Rattle.plan_writer.specs.Write.{Given, Written}

pub write-unique : (g : Given) (t : List ℕ) (r r' : WriteAnswer) (u u' : List ℕ) → Written g t r u → Written g t r' u' → (r ≡ r') × (u ≡ u')
write-unique g t r r' u u' a b = (a.answered ∙ sym b.answered, a.target ∙ sym b.target)

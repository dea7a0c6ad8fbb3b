-- Any two results that meet the promise of `imbalance::compute_parts_load` at the same lists are equal. Assumes nothing.
use Rattle.std.proofs.Common.{◌≡◌, ℕ, List, sym, ◌∙◌}
use Rattle.imbalance.specs.declared.LoadsAnswer.{LoadsAnswer}
use Rattle.imbalance.specs.Number.{loads_answer}

pub unique : (weights labels : List ℕ) (r r' : LoadsAnswer) → r ≡ loads_answer weights labels → r' ≡ loads_answer weights labels → r ≡ r'
unique weights labels r r' a b = a ∙ sym b

-- Any two results that meet the call's promise at the same inputs are equal. Assumes nothing.
use mathlib.Core.Path.{◌≡◌, sym, ◌∙◌}
use Rattle.kernighan_lin.specs.declared.Report.{Report}
use Rattle.kernighan_lin.specs.Entry.{Given, Lent, Refined}
use Rattle.kernighan_lin.proofs.Entering.{same-lent}

pub unique : (p : Given) (l : Lent) (r r' : Report) (k k' : Lent) → Refined p l r k → Refined p l r' k' → (r ≡ r') × (k ≡ k')
unique p l r r' k k' a b = (
  a.answered ∙ sym b.answered,
  same-lent (a.labels ∙ sym b.labels) (a.gains ∙ sym b.gains) (a.locks ∙ sym b.locks) (a.swaps ∙ sym b.swaps),
)

-- Any two results that meet the call's promise at the same inputs are equal. Assumes nothing.
use mathlib.Core.Path.{◌≡◌, sym, ◌∙◌}
use Rattle.arc_swap.specs.declared.Report.{Report}
use Rattle.arc_swap.specs.Entry.{Given, Lent, Refined}

same-lent : {k k' : Lent} → k.labels ≡ k'.labels → k.stack ≡ k'.stack → k.run ≡ k'.run → k ≡ k'
same-lent a b c = λ i. record { labels = a i; stack = b i; run = c i }

pub unique : (p : Given) (l : Lent) (r r' : Report) (k k' : Lent) → Refined p l r k → Refined p l r' k' → (r ≡ r') × (k ≡ k')
unique p l r r' k k' a b = (
  a.answered ∙ sym b.answered,
  same-lent (a.labels ∙ sym b.labels) (a.stack ∙ sym b.stack) (a.run ∙ sym b.run),
)

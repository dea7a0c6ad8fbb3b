-- Any two results that meet the call's promise at the same inputs are equal. Assumes nothing.
use mathlib.Core.Path.{◌≡◌, sym, ◌∙◌}
use Rattle.fiduccia_mattheyses.specs.declared.Report.{Report}
use Rattle.fiduccia_mattheyses.specs.Entry.{Given, Lent, Refined}

-- the lists, list by list
pub same-lent : {k k' : Lent} → k.labels ≡ k'.labels → k.gains ≡ k'.gains → k.moves ≡ k'.moves → k.made ≡ k'.made → k.rewound ≡ k'.rewound → k ≡ k'
same-lent a b c d e = λ i. record { labels = a i; gains = b i; moves = c i; made = d i; rewound = e i }

pub unique : (p : Given) (l : Lent) (r r' : Report) (k k' : Lent) → Refined p l r k → Refined p l r' k' → (r ≡ r') × (k ≡ k')
unique p l r r' k k' a b = (
  a.answered ∙ sym b.answered,
  same-lent (a.labels ∙ sym b.labels) (a.gains ∙ sym b.gains) (a.moves ∙ sym b.moves) (a.made ∙ sym b.made) (a.rewound ∙ sym b.rewound),
)

-- Any two results that meet the call's promise at the same inputs are equal. Assumes nothing.
use mathlib.Core.Path.{◌≡◌, sym, ◌∙◌}
use Prim.Native.Nat.{ℕ}
use Rattle.fiduccia_mattheyses.specs.declared.Report.{Report}
use Rattle.fiduccia_mattheyses.specs.Entry.{Given}
use Rattle.fiduccia_mattheyses_records.specs.Own.{Lists, RefinedWith}

-- the lists, list by list
same_lists : {k k' : Lists} → k.labels ≡ k'.labels → k.gains ≡ k'.gains → k.made ≡ k'.made → k.rewound ≡ k'.rewound → k ≡ k'
same_lists a b c d = λ i. record { labels = a i; gains = b i; made = c i; rewound = d i }

pub unique : (m : ℕ) (p : Given) (l : Lists) (r r' : Report) (k k' : Lists) → RefinedWith m p l r k → RefinedWith m p l r' k' → (r ≡ r') × (k ≡ k')
unique m p l r r' k k' a b = (
  a.answered ∙ sym b.answered,
  same_lists (a.labels ∙ sym b.labels) (a.gains ∙ sym b.gains) (a.made ∙ sym b.made) (a.rewound ∙ sym b.rewound),
)

-- `kernighan_lin::number::mislabels` meets its contract. Assumes nothing.
use Rattle.std.proofs.Common.{sym, ◌∙◌}
use Rattle.kernighan_lin.specs.Entry.{mislabelled}
use Rattle.kernighan_lin.proofs.number.mislabels.Goals as goal

pub returns-then-label_above : goal.returns-then-label_above
unfolding mislabelled
returns-then-label_above c = rw (← c.label_above.ensures, c.if-label_above.true)

pub returns-else-label_above : goal.returns-else-label_above
unfolding mislabelled
returns-else-label_above c = rw (sym c.label_above.ensures ∙ c.if-label_above.false, ← c.different_labels.ensures)

-- `kernighan_lin_pass::pass::count_swap` meets its contract. Assumes nothing.
use mathlib.Core.Path.{sym, ◌∙◌}
use Rattle.kernighan_lin_pass.specs.inner.Steps.{counted}
use Rattle.kernighan_lin_pass.proofs.pass.count_swap.Goals as goal

pub returns-then-lower : goal.returns-then-lower
unfolding counted
returns-then-lower c = rw (sym c.lower.ensures ∙ c.if-lower.true)

pub returns : goal.returns
unfolding counted
returns c = rw (sym c.lower.ensures ∙ c.if-lower.false)

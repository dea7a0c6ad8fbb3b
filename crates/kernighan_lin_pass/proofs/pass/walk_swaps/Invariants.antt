-- What the loop of `kernighan_lin_pass::pass::walk_swaps` keeps: what is left of the walk from here is the walk from the start.
use mathlib.Core.Path.{◌≡◌}
use lib.ListN.{length}
use Rattle.kernighan_lin_pass.specs.inner.Steps.{terms_in}
use Rattle.kernighan_lin_pass.proofs.Walks.{On}
use Rattle.kernighan_lin_pass.proofs.pass.walk_swaps.Given as goal

abbrev pub invariant-loop-k : goal.invariant-loop-k
invariant-loop-k l =
    On (terms_in l.frame) l.frame.limits.swaps l.initial.labels l.labels l.gains l.locks l.swaps l.after l.walked × (length l.swaps ≡ length l.initial.swaps) × (l.walked.made ≡ l.k)

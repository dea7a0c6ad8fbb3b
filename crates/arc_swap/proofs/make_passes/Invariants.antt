-- What the loop of `arc_swap::make_passes` keeps: the passes made.
use lib.ListN.{length}
use Rattle.arc_swap.specs.inner.Steps.{terms_in}
use Rattle.arc_swap.proofs.Running.{Running}
use Rattle.arc_swap.proofs.make_passes.Given as goal

abbrev pub invariant-loop-end : goal.invariant-loop-end
invariant-loop-end l = Running (terms_in l.frame (length l.initial.stack)) l.initial.labels l.initial.st.cut l.passes l.labels l.stack l.st l.run

abbrev pub decreases-loop-end : goal.decreases-loop-end
decreases-loop-end l = l.st.cut

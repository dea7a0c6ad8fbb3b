-- What the loop of `arc_swap::drain_stack` keeps: what is left to drain from here gives what draining gives.
use Prim.Native.Nat.{◌+◌, ◌*◌}
use lib.ListN.{length}
use Rattle.arc_swap.specs.inner.Steps.{terms_in}
use Rattle.arc_swap.proofs.Drains.{Draining}
use Rattle.arc_swap.proofs.drain_stack.Given as goal

abbrev pub invariant-loop-st : goal.invariant-loop-st
invariant-loop-st l = Draining (terms_in l.frame (length l.initial.stack)) l.initial.labels l.initial.stack l.initial.st l.initial.run l.labels l.stack l.st l.run

abbrev pub decreases-loop-st : goal.decreases-loop-st
decreases-loop-st l = l.st.cut * (length l.initial.stack + 1) + l.st.top

-- What the loop of `arc_swap::make_pass` keeps: the turns passed, and the rest of the sweep from here.
use lib.ListN.{length}
use Rattle.arc_swap.specs.inner.Steps.{terms_in}
use Rattle.arc_swap.proofs.Passing.{Sweeping}
use Rattle.arc_swap.proofs.make_pass.Given as goal

abbrev pub invariant-loop-v : goal.invariant-loop-v
invariant-loop-v l = Sweeping (terms_in l.frame (length l.initial.stack)) l.initial.labels l.initial.stack l.initial.st.cut l.initial.run l.v l.labels l.stack l.st l.run

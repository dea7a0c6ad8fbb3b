-- What the loop of `kernighan_lin::make_passes` keeps: what is left of the run from here is the run from the start.
use Rattle.kernighan_lin_pass.specs.inner.Steps.{terms_by}
use Rattle.kernighan_lin.proofs.Running.{Passing}
use Rattle.kernighan_lin.proofs.make_passes.Given as goal

abbrev pub invariant-loop-i : goal.invariant-loop-i
invariant-loop-i l =
    Passing (terms_by l.frame.graph.now l.frame.first l.settings.bad) l.settings.swaps l.settings.passes l.initial.labels l.i l.last l.labels l.gains l.locks l.swaps

-- `arc_swap::make_passes` meets its contract: each pass is a law of `Running`. Assumes nothing.
use Rattle.arc_swap.proofs.Running.{running, again, ends}
use Rattle.arc_swap.proofs.make_passes.Goals as goal

pub loop-end-init : goal.loop-end-init
loop-end-init c = running _ _ _ _ _ c.requires.0 c.requires.1 c.requires.2

pub returns-in-Some : goal.returns-in-Some
returns-in-Some c =
    let i = c.loop-end.invariant in
    ends _ _ _ _ _ c.requires.0 c.requires.1 c.requires.2 _ _ _ _ _ i _ _ _ _
    (rw i.ordered.places at c.make_pass-st.ensures) c.in-Some.end c.in-Some.ensures

pub loop-end-preserved : goal.loop-end-preserved
loop-end-preserved c =
    let i = c.loop-end.invariant in
    let goes_on = c.in_default.ensures in
    again _ _ _ _ _ c.requires.0 c.requires.1 c.requires.2 _ _ _ _ _ i _ _ _ _
    (rw i.ordered.places at c.make_pass-st.ensures) goes_on

-- `arc_swap::drain_stack` meets its contract: each attempt is a law of `Drains`. Assumes nothing.
use mathlib.Core.Path.{refl}
use borrow.Author.Tests.{not-true, not-false}
use Rattle.arc_swap.proofs.Drains.{draining, emptied, again, full, lessens}
use Rattle.arc_swap.proofs.drain_stack.Goals as goal

pub loop-st-init : goal.loop-st-init
loop-st-init c = draining _ refl _ _ _ _ c.requires.0 c.requires.1

pub returns-then-not-st : goal.returns-then-not-st
returns-then-not-st c =
    let i = c.loop-st.invariant in
    full _ refl _ _ _ _ c.requires.0 _ _ _ _ i c.loop-st-test.true _ _ _ c.attempt-tried.auto.stack
    (rw i.ordered.places at c.attempt-tried.ensures) _ c.note.ensures (not-true _ c.if-not-st.true)

pub loop-st-smaller : goal.loop-st-smaller
loop-st-smaller c =
    let i = c.loop-st.invariant in
    lessens _ refl _ _ _ _ c.requires.0 _ _ _ _ i c.loop-st-test.true _ _ _ c.attempt-tried.auto.stack
    (rw i.ordered.places at c.attempt-tried.ensures) _ c.note.ensures

pub loop-st-preserved : goal.loop-st-preserved
loop-st-preserved c =
    let i = c.loop-st.invariant in
    again _ refl _ _ _ _ c.requires.0 _ _ _ _ i c.loop-st-test.true _ _ _ c.attempt-tried.auto.stack
    (rw i.ordered.places at c.attempt-tried.ensures) _ c.note.ensures (not-false _ c.if-not-st.false)

pub returns : goal.returns
returns c = emptied _ refl _ _ _ _ c.requires.0 _ _ _ _ c.loop-st.invariant c.loop-st-test.false

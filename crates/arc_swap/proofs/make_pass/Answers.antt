-- `arc_swap::make_pass` meets its contract: each turn is a law of `Taken`, and the pass one of `Passing`. Assumes nothing.
use mathlib.Core.Path.{refl, ◌∙◌}
use borrow.Author.Tests.{not-true, not-false}
use Rattle.arc_swap.proofs.Taken.{drain-asked, turned}
use Rattle.arc_swap.proofs.Passing.{sweeping, turn-asked, next-turn, stopped, swept}
use Rattle.arc_swap.proofs.make_pass.Goals as goal

pub loop-v-init : goal.loop-v-init
loop-v-init c = sweeping _ _ _ _ _ c.requires

pub drain_stack-st-requires : goal.drain_stack-st-requires
drain_stack-st-requires c =
    let i = c.loop-v.invariant in
    let a = turn-asked _ _ _ _ _ c.requires _ _ _ _ _ i c.loop-v-test.true in
    rw (c.push_first-pushed.auto.stack ∙ i.ordered.places)
    (drain-asked _ refl _ _ _ _ a.0 _ a.1 _ _ c.push_first-pushed.ensures)

pub returns-then-not-st : goal.returns-then-not-st
returns-then-not-st c =
    let i = c.loop-v.invariant in
    let a = turn-asked _ _ _ _ _ c.requires _ _ _ _ _ i c.loop-v-test.true in
    stopped _ _ _ _ _ c.requires _ _ _ _ _ i c.loop-v-test.true _ _ _ _
    (turned _ refl _ _ _ _ a.0 _ a.1 _ _ c.push_first-pushed.ensures _ _ _ _
    (rw (c.push_first-pushed.auto.stack ∙ i.ordered.places) at c.drain_stack-st.ensures))
    (not-true _ c.if-not-st.true)

pub loop-v-preserved : goal.loop-v-preserved
loop-v-preserved c =
    let i = c.loop-v.invariant in
    let a = turn-asked _ _ _ _ _ c.requires _ _ _ _ _ i c.loop-v-test.true in
    next-turn _ _ _ _ _ c.requires _ _ _ _ _ i c.loop-v-test.true _ _ _ _
    (turned _ refl _ _ _ _ a.0 _ a.1 _ _ c.push_first-pushed.ensures _ _ _ _
    (rw (c.push_first-pushed.auto.stack ∙ i.ordered.places) at c.drain_stack-st.ensures))
    (not-false _ c.if-not-st.false)

pub returns : goal.returns
returns c = swept _ _ _ _ _ c.requires _ _ _ _ _ c.loop-v.invariant c.loop-v-test.false

-- `arc_swap::number::check` meets its contract: the first test that holds decides. Assumes nothing.
use Rattle.std.proofs.Common.{refl}
use Rattle.std.proofs.lemmas.Result.{err_from_is_err_and}
use Rattle.lists.proofs.Numbers.{test-holds, test-fails, first-gives-none}
use Rattle.lists.proofs.Refusals.{refused-first}
use Rattle.arc_swap.specs.Entry.{number}
use Rattle.arc_swap.proofs.number.check.Goals as goal

pub returns-in_err-check : goal.returns-in_err-check
unfolding number
returns-in_err-check c =
    let p = err_from_is_err_and c.from_residual.result c.from_residual.ensures.1 in
    let e = c.in_err-check.ensures in
    rw (p.1, p.2) (refused-first _ _ _ e)

pub returns-then-label_above : goal.returns-then-label_above
unfolding number
returns-then-label_above c =
    let graph = c.in_ok-check.ensures in
    first-gives-none _ _ _ graph (test-holds _ _ _ _ c.label_above.ensures c.if-label_above.true)

pub returns-then-unfit_choice : goal.returns-then-unfit_choice
unfolding number
returns-then-unfit_choice c =
    let graph = c.in_ok-check.ensures in
    first-gives-none _ _ _ graph
    (test-fails _ _ _ _ _ c.label_above.ensures c.if-label_above.false (test-holds _ _ _ _ c.unfit_choice.ensures c.if-unfit_choice.true))

pub returns : goal.returns
unfolding number
returns c =
    let graph = c.in_ok-check.ensures in
    first-gives-none _ _ _ graph
    (test-fails _ _ _ _ _ c.label_above.ensures c.if-label_above.false (test-fails _ _ _ _ _ c.unfit_choice.ensures c.if-unfit_choice.false refl))

-- `fiduccia_mattheyses::number::check` meets its contract: the first test that holds decides. Assumes nothing.
use Rattle.std.proofs.Common.{refl}
use Rattle.std.proofs.lemmas.Result.{err_from_is_err_and}
use Rattle.lists.proofs.Numbers.{test-holds, test-fails, first-gives-none}
use Rattle.lists.proofs.Refusals.{refused-first}
use Rattle.fiduccia_mattheyses.specs.Entry.{number_of}
use Rattle.fiduccia_mattheyses.proofs.number.check.Goals as goal

pub returns-in_err-check : goal.returns-in_err-check
unfolding number_of
returns-in_err-check c =
    let p = err_from_is_err_and c.from_residual.result c.from_residual.ensures.1 in
    let e = c.in_err-check.ensures in
    rw (p.1, p.2) (refused-first _ _ _ e)

pub returns-then-label_above : goal.returns-then-label_above
unfolding number_of
returns-then-label_above c =
    let graph = c.in_ok-check.ensures in
    first-gives-none _ _ _ graph (test-holds _ _ _ _ c.label_above.ensures c.if-label_above.true)

pub returns-then-unfit : goal.returns-then-unfit
unfolding number_of
returns-then-unfit c =
    let graph = c.in_ok-check.ensures in
    first-gives-none _ _ _ graph
    (test-fails _ _ _ _ _ c.label_above.ensures c.if-label_above.false (test-holds _ _ _ _ c.unfit_settings-unfit.ensures c.if-unfit.true))

pub returns-then-short : goal.returns-then-short
unfolding number_of
returns-then-short c =
    let graph = c.in_ok-check.ensures in
    first-gives-none _ _ _ graph
    (test-fails _ _ _ _ _ c.label_above.ensures c.if-label_above.false
    (test-fails _ _ _ _ _ c.unfit_settings-unfit.ensures c.if-unfit.false (test-holds _ _ _ _ c.too_short-short.ensures c.if-short.true)))

pub returns : goal.returns
unfolding number_of
returns c =
    let graph = c.in_ok-check.ensures in
    first-gives-none _ _ _ graph
    (test-fails _ _ _ _ _ c.label_above.ensures c.if-label_above.false
    (test-fails _ _ _ _ _ c.unfit_settings-unfit.ensures c.if-unfit.false (test-fails _ _ _ _ _ c.too_short-short.ensures c.if-short.false refl)))

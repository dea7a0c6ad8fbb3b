-- `kernighan_lin::number::check` meets its contract: the first test that holds decides. Assumes nothing.
use Rattle.std.proofs.Common.{refl, lt-ltb, le-ltb}
use Rattle.std.proofs.lemmas.Result.{err_from_is_err_and}
use Rattle.lists.proofs.Numbers.{test-holds, test-fails, first-gives-none}
use Rattle.lists.proofs.Refusals.{refused-first}
use Rattle.kernighan_lin.specs.Entry.{number_of}
use Rattle.kernighan_lin.proofs.number.check.Goals as goal

pub returns-in_err-check : goal.returns-in_err-check
unfolding number_of
returns-in_err-check c =
    let p = err_from_is_err_and c.from_residual.result c.from_residual.ensures.1 in
    let e = c.in_err-check.ensures in
    rw (p.1, p.2) (refused-first _ _ _ e)

pub returns-then-mislabels : goal.returns-then-mislabels
unfolding number_of
returns-then-mislabels c =
    let graph = c.in_ok-check.ensures in
    first-gives-none _ _ _ graph (test-holds _ _ _ _ c.mislabels.ensures c.if-mislabels.true)

pub returns-then-passes-gt-MOST_PASSES : goal.returns-then-passes-gt-MOST_PASSES
unfolding number_of
returns-then-passes-gt-MOST_PASSES c =
    let graph = c.in_ok-check.ensures in
    first-gives-none _ _ _ graph
    (test-fails _ _ _ _ _ c.mislabels.ensures c.if-mislabels.false (rw (lt-ltb _ _ c.if-passes-gt-MOST_PASSES.true)))

pub returns-then-too_short : goal.returns-then-too_short
unfolding number_of
returns-then-too_short c =
    let graph = c.in_ok-check.ensures in
    first-gives-none _ _ _ graph
    (test-fails _ _ _ _ _ c.mislabels.ensures c.if-mislabels.false
    (rw (le-ltb _ _ c.if-passes-gt-MOST_PASSES.false) (test-holds _ _ _ _ c.too_short.ensures c.if-too_short.true)))

pub returns : goal.returns
unfolding number_of
returns c =
    let graph = c.in_ok-check.ensures in
    first-gives-none _ _ _ graph
    (test-fails _ _ _ _ _ c.mislabels.ensures c.if-mislabels.false
    (rw (le-ltb _ _ c.if-passes-gt-MOST_PASSES.false) (test-fails _ _ _ _ _ c.too_short.ensures c.if-too_short.false refl)))

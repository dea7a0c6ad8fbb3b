-- `Graph::check_lambda_cut` meets its contract: the first test that holds decides. Assumes nothing.
use Rattle.std.proofs.Common.{refl}
use Rattle.std.proofs.lemmas.Result.{err_from_is_err_and}
use Rattle.lists.proofs.Numbers.{test-holds, test-fails, first-gives-none}
use Rattle.lists.proofs.Refusals.{refused-first}
use Rattle.topology.specs.Number.{lambda_cut_number}
use Rattle.topology.proofs.Graph.check_lambda_cut.Goals as goal

pub returns-in_err-check : goal.returns-in_err-check
unfolding lambda_cut_number
returns-in_err-check c =
    let p = err_from_is_err_and c.from_residual.result c.from_residual.ensures.1 in
    let e = c.in_err-check.ensures in
    rw (p.1, p.2) (refused-first _ _ _ e)

pub returns-then-label_above : goal.returns-then-label_above
unfolding lambda_cut_number
returns-then-label_above c =
    let graph = c.in_ok-check.ensures in
    first-gives-none _ _ _ graph (test-holds _ _ _ _ c.label_above.ensures c.if-label_above.true)

pub returns : goal.returns
unfolding lambda_cut_number
returns c =
    let graph = c.in_ok-check.ensures in
    first-gives-none _ _ _ graph (test-fails _ _ _ _ _ c.label_above.ensures c.if-label_above.false refl)

-- `eight_block_grid::check_cuts` meets its contract: the first test that holds decides, and the two cuts give one number. Assumes nothing.
use Rattle.std.proofs.Common.{refl}
use Rattle.std.proofs.lemmas.Result.{err_from_is_err_and}
use Rattle.lists.proofs.Numbers.{test-holds, test-fails, first-gives-none}
use Rattle.lists.proofs.Refusals.{refused-first}
use Rattle.topology.specs.Number.{edge_cut_number}
use Rattle.eight_block_grid.proofs.Cuts.{no-five, one_number}
use Rattle.eight_block_grid.proofs.check_cuts.Goals as goal

pub returns-in_err-check_rows : goal.returns-in_err-check_rows
unfolding edge_cut_number
returns-in_err-check_rows c =
    let p = err_from_is_err_and c.from_residual.result c.from_residual.ensures.1 in
    let e = c.in_err-check_rows.ensures in
    rw (p.1, p.2) (one_number _ _ (refused-first _ _ _ (rw c.requires at e)))

pub returns-then-label_above : goal.returns-then-label_above
unfolding edge_cut_number
returns-then-label_above c =
    let rows = c.in_ok-check_rows.ensures in
    one_number _ _ (first-gives-none _ _ _ (rw c.requires at rows) (no-five _ _ _ (test-holds _ _ _ _ c.label_above.ensures c.if-label_above.true)))

pub returns : goal.returns
unfolding edge_cut_number
returns c =
    let rows = c.in_ok-check_rows.ensures in
    one_number _ _ (first-gives-none _ _ _ (rw c.requires at rows) (no-five _ _ _ (test-fails _ _ _ _ _ c.label_above.ensures c.if-label_above.false refl)))

-- `eight_block_grid::rounds_well` meets its contract: the totals are those of the report, within their limit, and the ceilings are compared. Assumes nothing.
use native.Mathlib.Omega.{arith}
use Rattle.eight_block_grid.proofs.Gives.{totals-called, ceiling-asked, legal-imbalances, rounded}
use Rattle.eight_block_grid.proofs.rounds_well.Goals as goal

pub ceiling_by-requires : goal.ceiling_by-requires
ceiling_by-requires c =
    ((ceiling-asked _ (totals-called _ _ _ c.asked.ensures (rw c.the_grid.ensures at c.with_moves-r.ensures))).0, omega arith, omega arith, legal-imbalances.0)

pub ceiling_by-requires-2 : goal.ceiling_by-requires-2
ceiling_by-requires-2 c =
    ((ceiling-asked _ (totals-called _ _ _ c.asked.ensures (rw c.the_grid.ensures at c.with_moves-r.ensures))).1, omega arith, omega arith, legal-imbalances.1)

pub ceiling_by-requires-3 : goal.ceiling_by-requires-3
ceiling_by-requires-3 c =
    ((ceiling-asked _ (totals-called _ _ _ c.asked.ensures (rw c.the_grid.ensures at c.with_moves-r.ensures))).0, omega arith, omega arith, legal-imbalances.2)

pub returns : goal.returns
returns c =
    rounded _ _ _ _ _ (totals-called _ _ _ c.asked.ensures (rw c.the_grid.ensures at c.with_moves-r.ensures)) c.ceiling_by.ensures c.ceiling_by-2.ensures c.ceiling_by-3.ensures c.eq.ensures

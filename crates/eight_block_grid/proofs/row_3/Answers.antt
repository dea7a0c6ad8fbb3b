-- `eight_block_grid::row_3` meets its contract. Assumes nothing.
use Rattle.eight_block_grid.proofs.Gives.{gains-compared}
use Rattle.eight_block_grid.proofs.row_3.Goals as goal

pub returns : goal.returns
returns c = gains-compared _ _ (rw c.the_grid.ensures at c.fresh_gains.ensures) c.eq.ensures

-- `eight_block_grid::loads_give` meets its contract. Assumes nothing.
use mathlib.Core.List.{[], ◌∷◌}
use lib.ListN.{get_or}
use Rattle.eight_block_grid.proofs.Gives.{loads-give}
use Rattle.eight_block_grid.proofs.loads_give.Goals as goal

pub returns : goal.returns
returns c =
    let r = c.compute_parts_load-r.result in
    loads-give _ _ _ _ c.compute_parts_load-r.ensures (λ i. c.from.ensures i ∷ get_or r.loads.at 0 0 ∷ get_or r.loads.at 1 0 ∷ []) c.eq.ensures

-- `eight_block_grid::swap_gives` meets its contract. Assumes nothing.
use mathlib.Core.List.{[], ◌∷◌}
use lib.ListN.{get_or}
use mathlib.Core.Path.{refl}
use Rattle.eight_block_grid.proofs.Gives.{swap-gives, then-and, else-and}
use Rattle.eight_block_grid.proofs.swap_gives.Goals as goal

pub returns-then-eq : goal.returns-then-eq
returns-then-eq c =
    let r = c.arc_swap_counted-answered.result.report in
    let run = c.arc_swap_counted-answered.result.run in
    swap-gives _ _ _ _ _ _ _ _ _ c.asked.ensures (rw c.the_grid.ensures at c.arc_swap_counted-answered.ensures)
    (λ i. c.from.ensures i ∷ c.from-2.ensures i ∷ c.from-3.ensures i ∷ r.first ∷ r.last ∷ get_or r.loads.at 0 0 ∷ get_or r.loads.at 1 0
    ∷ run.attempts ∷ run.moves ∷ run.no_gain ∷ run.bad_balance ∷ [])
    c.eq.ensures c.eq-then-eq.ensures (then-and _ c.if-eq.true)

pub returns-else-eq : goal.returns-else-eq
returns-else-eq c =
    swap-gives _ _ _ _ _ _ _ _ _ c.asked.ensures (rw c.the_grid.ensures at c.arc_swap_counted-answered.ensures) refl c.eq.ensures refl (else-and _ c.if-eq.false)

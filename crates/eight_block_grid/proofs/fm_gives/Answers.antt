-- `eight_block_grid::fm_gives` meets its contract. Assumes nothing.
use mathlib.Core.List.{[], ◌∷◌}
use lib.ListN.{get_or}
use mathlib.Core.Path.{refl}
use Rattle.eight_block_grid.proofs.Gives.{fm-gives, then-and, else-and}
use Rattle.eight_block_grid.proofs.fm_gives.Goals as goal

pub returns-then-eq : goal.returns-then-eq
returns-then-eq c =
    let r = c.with_moves-r.result in
    fm-gives _ _ _ _ _ _ _ _ _ _ _ c.asked.ensures (rw c.the_grid.ensures at c.with_moves-r.ensures)
    (λ i. c.from.ensures i ∷ c.from-2.ensures i ∷ c.from-3.ensures i ∷ r.first ∷ r.last ∷ get_or r.loads.at 0 0 ∷ get_or r.loads.at 1 0
    ∷ c.from-4.ensures i ∷ c.from-5.ensures i ∷ c.from-6.ensures i ∷ c.from-7.ensures i ∷ [])
    c.eq.ensures c.eq-then-eq.ensures (then-and _ c.if-eq.true)

pub returns-else-eq : goal.returns-else-eq
returns-else-eq c =
    fm-gives _ _ _ _ _ _ _ _ _ _ _ c.asked.ensures (rw c.the_grid.ensures at c.with_moves-r.ensures) refl c.eq.ensures refl (else-and _ c.if-eq.false)

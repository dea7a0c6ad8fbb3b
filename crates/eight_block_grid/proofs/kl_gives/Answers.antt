-- `eight_block_grid::kl_gives` meets its contract. Assumes nothing.
use mathlib.Core.List.{[], ◌∷◌}
use mathlib.Core.Path.{refl}
use Rattle.eight_block_grid.proofs.Gives.{kl-gives, then-and, else-and}
use Rattle.eight_block_grid.proofs.kl_gives.Goals as goal

pub returns-then-eq : goal.returns-then-eq
returns-then-eq c =
    let r = c.kernighan_lin-r.result in
    kl-gives _ _ _ _ _ _ _ _ _ _ _ (rw c.the_grid.ensures at c.kernighan_lin-r.ensures)
    (λ i. c.from.ensures i ∷ c.from-2.ensures i ∷ c.from-3.ensures i ∷ r.first ∷ r.last ∷ [])
    c.eq.ensures c.eq-then-eq.ensures (then-and _ c.if-eq.true)

pub returns-else-eq : goal.returns-else-eq
returns-else-eq c =
    kl-gives _ _ _ _ _ _ _ _ _ _ _ (rw c.the_grid.ensures at c.kernighan_lin-r.ensures) refl c.eq.ensures refl (else-and _ c.if-eq.false)

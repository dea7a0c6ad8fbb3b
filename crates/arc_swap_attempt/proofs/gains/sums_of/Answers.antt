-- `arc_swap_attempt::gains::sums_of` meets its contract: each arc adds to the sum of its part. Assumes nothing.
use mathlib.Core.Path.{refl, ◌∙◌}
use native.Mathlib.Omega.{arith}
use Rattle.arc_swap_attempt.proofs.Rowsums.{begins, turn, ended}
use borrow.Author.Rules.{rules}
use Rattle.arc_swap_attempt.proofs.gains.sums_of.Goals as goal

pub loop-e-init : goal.loop-e-init
loop-e-init c = search (begins, rules)

pub loop-e-preserved : goal.loop-e-preserved
loop-e-preserved c =
    let named = c.requires.1 c.neighbour.result (search rules) in
    turn c.loop-e.invariant c.loop-e-test.true _ _ _ c.neighbour.ensures refl named (c.from.ensures ∙ c.weight.ensures)
    (omega (arith, c.from.ensures, c.weight.type_inv))

pub returns : goal.returns
returns c = search (ended, rules)

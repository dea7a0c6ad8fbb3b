-- `arc_swap_attempt::moves::push_neighbours` meets its contract: an arc is passed by, pushes, or finds no place. Assumes nothing.
use mathlib.Core.Path.{◌∙◌}
use native.Mathlib.Omega.{arith}
use Rattle.arc_swap_attempt.proofs.Pushes.{begins, passed-by, pushes-one, no_place}
use Rattle.arc_swap_attempt.proofs.moves.push_neighbours.Goals as goal
use Rattle.arc_swap_attempt.proofs.moves.push_neighbours.Goals.{then-has_gain+else-top-stack, else-has_gain}

pub loop-e-init : goal.loop-e-init
loop-e-init c = begins _ _ _ _ _ _ c.requires.2 c.requires.0.rows c.requires.1 _ _ c.past-e-end.ensures c.first-e.ensures

pub returns-then-top-stack : goal.returns-then-top-stack
returns-then-top-stack c =
    no_place _ _ _ _ _ _ c.requires.2 _ _ _ _ c.loop-e.invariant c.loop-e-test.true _ c.neighbour-u.ensures _
    c.has_gain.ensures c.if-has_gain.true
    (c.if-top-stack.true ∙ c.loop-e.invariant.long)

pub loop-e-preserved : goal.loop-e-preserved
loop-e-preserved c =
    let i = c.loop-e.invariant in
    let t = c.loop-e-test.true in
    let g = c.has_gain.ensures in
    let u = c.neighbour-u.ensures in
    let n = c.requires.2 in
    elim c.if-has_gain.branch [
      | then-has_gain+else-top-stack w ↦ rw (w.stack-is, w.top-is) (pushes-one _ _ _ _ _ _ n _ _ _ _ i t _ u _ g w.if-has_gain.true (omega (arith, w.if-top-stack.false, i.within, i.long)))
      | else-has_gain w ↦ rw (w.stack-is, w.top-is) (passed-by _ _ _ _ _ _ n _ _ _ _ i t _ u _ g w.if-has_gain.false)
    ]

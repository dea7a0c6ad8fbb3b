-- What the loop of `lists::fill` keeps: the places so far are filled.
use mathlib.Core.Path.{◌≡◌}
use Rattle.lists.specs.Fill.{filled}
use Rattle.lists.proofs.fill.Given as goal

abbrev pub invariant-loop-i : goal.invariant-loop-i
invariant-loop-i g l = l.xs ≡ filled l.x l.i l.initial.xs

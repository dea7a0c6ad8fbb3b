-- What the loop of `arc_swap::number::parts_of` keeps: the largest label of the vertices passed.
use Rattle.std.proofs.Common.{◌≡◌}
use Rattle.imbalance.specs.Load.{part}
use Rattle.imbalance.specs.Ceiling.{largest}
use Rattle.arc_swap.proofs.number.parts_of.Given as goal

abbrev pub invariant-loop-label : goal.invariant-loop-label
invariant-loop-label l = l.most ≡ largest l.label-index (λ u. part l.labels u)

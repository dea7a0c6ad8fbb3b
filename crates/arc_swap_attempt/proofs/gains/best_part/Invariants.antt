-- What the loop of `arc_swap_attempt::gains::best_part` keeps: the best of the parts passed.
use mathlib.Core.Path.{◌≡◌}
use lib.ListN.{get_or}
use Rattle.arc_swap_attempt.specs.inner.Steps.{picked, best_by}
use Rattle.arc_swap_attempt.proofs.gains.best_part.Given as goal

abbrev pub invariant-loop-t : goal.invariant-loop-t
invariant-loop-t l = l.best ≡ picked l.own (λ u. get_or l.sums.at u 0) (best_by (λ u. get_or l.sums.at u 0) l.own l.t)

-- What the loop of `kernighan_lin_pass::gain::add_fresh` keeps: the gains passed have their fresh gain added, and the others are as they were.
use mathlib.Core.Path.{◌≡◌}
use lib.ListN.{get_or}
use lib.IntN.{pos, ◌+ℤ◌}
use Rattle.lists.specs.Fill.{written}
use Rattle.kernighan_lin_pass.specs.Gain.{fresh}
use Rattle.kernighan_lin_pass.proofs.gain.add_fresh.Given as goal

abbrev pub invariant-loop-u : goal.invariant-loop-u
invariant-loop-u l = l.gains ≡ written (λ i. get_or l.initial.gains i (pos 0) +ℤ fresh l.graph l.labels i) l.u l.initial.gains

-- What the loop of `kernighan_lin::number::different_labels` keeps: the count is that of the labels passed that some vertex has.
use mathlib.Core.Path.{◌≡◌}
use Prim.Native.Nat.{◌≤◌}
use Rattle.lists.specs.Sum.{sum, weigh}
use Rattle.kernighan_lin.specs.Entry.{uses}
use Rattle.kernighan_lin.proofs.number.different_labels.Given as goal

abbrev pub invariant-loop-t : goal.invariant-loop-t
invariant-loop-t l = (l.count ≡ sum l.t (λ i. weigh (uses l.labels i) 1)) × (l.count ≤ l.t)

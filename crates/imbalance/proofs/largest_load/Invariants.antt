-- What the loop of `imbalance::largest_load` keeps: `most` is the largest of the loads passed.
use Rattle.std.proofs.Common.{◌≡◌, get_or}
use Rattle.imbalance.specs.Ceiling.{largest}
use Rattle.imbalance.proofs.largest_load.Given as goal

abbrev pub invariant-loop-load : goal.invariant-loop-load
invariant-loop-load l = l.most ≡ largest l.load-index (λ t. get_or l.load-items t 0)

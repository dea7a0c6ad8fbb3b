-- What the loop of `imbalance::parts_load` keeps: the array holds each part's load over the vertices passed.
use Rattle.std.proofs.Common.{◌≡◌}
use Rattle.lists.specs.Fill.{table}
use Rattle.imbalance.proofs.PartLoads.{load_to}
use Rattle.imbalance.proofs.parts_load.Given as goal

abbrev pub invariant-loop-v : goal.invariant-loop-v
invariant-loop-v l = l.at ≡ table 16 (load_to l.weights l.labels l.v)

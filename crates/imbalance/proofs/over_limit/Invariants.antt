-- What the loop of `imbalance::over_limit` keeps: the weights passed and what remains make up the limit.
use Rattle.imbalance.proofs.Limits.{Remains}
use Rattle.imbalance.proofs.over_limit.Given as goal

abbrev pub invariant-loop-weight : goal.invariant-loop-weight
invariant-loop-weight l = Remains l.weights l.weight-index l.rest

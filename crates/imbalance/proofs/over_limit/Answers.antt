-- `imbalance::over_limit` meets its contract, by what its loop keeps. Assumes nothing.
use Rattle.std.proofs.Common.{rules}
use Rattle.imbalance.proofs.Limits.{nothing-off, one-off, too-heavy, all-off}
use Rattle.imbalance.proofs.over_limit.Goals as goal

pub loop-weight-init : goal.loop-weight-init
loop-weight-init c = search (nothing-off, rules)

pub returns-then-rest-w : goal.returns-then-rest-w
returns-then-rest-w c = search (too-heavy, rules)

pub loop-weight-preserved : goal.loop-weight-preserved
loop-weight-preserved c = search (one-off, rules)

pub returns : goal.returns
returns c = search (all-off, rules)

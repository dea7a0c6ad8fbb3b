-- `imbalance::total_weight` meets its contract: the library's sum is the total, which is within the limit. Assumes nothing.
use Rattle.std.proofs.Common.{◌<◌, ◌^◌, arith, rules, ◌∙◌, ◌≡◌}
use Rattle.std.specs.List.{sum_by}
use Rattle.lists.proofs.Totals.{total-sum}
use Rattle.imbalance.proofs.total_weight.Goals as goal

pub sum-requires-clause-fits : goal.sum-requires-clause-fits
sum-requires-clause-fits c =
    let fits : sum_by (λ x. x) c.args.weights.now < 2 ^ 64 = omega (arith, total-sum c.args.weights.now, c.requires) in
    search rules

pub returns : goal.returns
returns c =
    let s : c.sum.result ≡ sum_by (λ x. x) c.args.weights.now = search rules in
    s ∙ total-sum c.args.weights.now

-- `imbalance::ceilings_by_part` meets its contract: each ceiling is the number of its part. Assumes nothing.
use Rattle.std.proofs.Common.{get_or, rules, tests, ◌∙◌}
use Rattle.lists.proofs.Tables.{table_of, table-ext}
use Rattle.imbalance.proofs.ceilings_by_part.Goals as goal

pub returns : goal.returns
returns c =
    table_of 16 0 _ c.map.ensures.items.long
    ∙ table-ext 16 (λ t. get_or c.map.result t 0) (λ t. get_or c.args.asked.each t 0) (λ t l. let k = c.map.ensures.items.at t 0 0 l in search (rules, tests))

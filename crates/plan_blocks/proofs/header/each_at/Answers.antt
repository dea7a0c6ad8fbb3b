-- `plan_blocks::header::each_at` meets its contract: the number of each part is the word of its place. Assumes nothing.
use Rattle.std.proofs.Common.{◌+◌, get_or, rules, tests, ◌∙◌}
use Rattle.lists.proofs.Tables.{table_of, table-ext}
use Rattle.plan_blocks.specs.Word.{word}
use Rattle.plan_blocks.proofs.header.each_at.Goals as goal

pub returns : goal.returns
returns c =
    table_of 16 0 _ c.from_fn.ensures.items.long
    ∙ table-ext 16 (λ t. get_or c.from_fn.result t 0) (λ t. word c.args.bytes.now (7 + t)) (λ t l. let k = c.from_fn.ensures.items.at t 0 l in search (rules, tests))

-- `imbalance::label_above` meets its contract: the library asks of each label what the definition asks of each place. Assumes nothing.
use Rattle.std.proofs.Common.{ltb, rules, tests, ◌∙◌}
use Rattle.std.proofs.lemmas.Iterator.{YieldsList-from_slice}
use Rattle.std.proofs.lemmas.Iterator.Search.{any_from_yields_List}
use Rattle.lists.proofs.Alls.{any-listed}
use Rattle.imbalance.specs.Limit.{label_above}
use Rattle.imbalance.proofs.label_above.Goals as goal

pub returns : goal.returns
unfolding label_above
returns c =
    any_from_yields_List (λ x. ltb c.args.most x) _ _ _ c.any.ensures.ran (YieldsList-from_slice c.args.labels.now cc) (λ x b q k. search (rules, tests))
    ∙ any-listed (λ x. ltb c.args.most x) 0 c.args.labels.now

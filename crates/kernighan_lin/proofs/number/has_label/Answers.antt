-- `kernighan_lin::number::has_label` meets its contract: the library asks of each label what the definition asks of each place. Assumes nothing.
use Rattle.std.proofs.Common.{eqb, rules, tests, ◌∙◌}
use Rattle.std.proofs.lemmas.Iterator.{YieldsList-from_slice}
use Rattle.std.proofs.lemmas.Iterator.Search.{any_from_yields_List}
use Rattle.lists.proofs.Alls.{any-listed}
use Rattle.kernighan_lin.specs.Entry.{uses}
use Rattle.kernighan_lin.proofs.number.has_label.Goals as goal

pub returns : goal.returns
unfolding uses
returns c =
    any_from_yields_List (λ x. eqb x c.args.t) _ _ _ c.any.ensures.ran (YieldsList-from_slice c.args.labels.now cc) (λ x b q k. search (rules, tests))
    ∙ any-listed (λ x. eqb x c.args.t) 0 c.args.labels.now

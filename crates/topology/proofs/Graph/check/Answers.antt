-- `Graph::check` meets its contract: the first test that holds decides. Assumes nothing.
use Rattle.std.proofs.Common.{refl, ap, ◌∙◌}
use Rattle.std.proofs.lemmas.Result.{err_from_is_err_and}
use Rattle.lists.proofs.Numbers.{counts-differ, counts-agree, either_first, either_second, neither, first-gives-none}
use Rattle.lists.proofs.Refusals.{refused-first}
use Rattle.imbalance.specs.Limit.{heavy}
use Rattle.topology.specs.Graph.{Graph}
use Rattle.topology.specs.Rule.{graph_number}
use Rattle.topology.proofs.Graph.check.Goals as goal
use Rattle.topology.proofs.Graph.check.Goals.{then-over_limit-via-then-over_limit, then-over_limit-via-else-over_limit+then-over_limit-2}

pub returns-then-weights-n : goal.returns-then-weights-n
unfolding graph_number
returns-then-weights-n c = counts-differ _ _ _ _ c.if-weights-n.true

pub returns-in_err-check_rows : goal.returns-in_err-check_rows
unfolding graph_number
returns-in_err-check_rows c =
    let p = err_from_is_err_and c.from_residual.result c.from_residual.ensures.1 in
    let e = c.in_err-check_rows.ensures in
    rw (p.1, p.2) (counts-agree _ _ _ _ _ c.if-weights-n.false (refused-first _ _ _ e))

pub returns-then-over_limit : goal.returns-then-over_limit
unfolding graph_number
returns-then-over_limit c =
    let rows = c.in_ok-check_rows.ensures in
    let arcs = ap (λ (g : Graph). heavy g.weights) c.self.view_is in
    counts-agree _ _ _ _ _ c.if-weights-n.false
    (first-gives-none _ _ _ rows
    (elim c.then-over_limit.branch [
      | then-over_limit-via-then-over_limit w ↦ either_first _ _ _ _ _ c.over_limit.ensures w.if-over_limit.true
      | then-over_limit-via-else-over_limit+then-over_limit-2 w ↦ either_second _ _ _ _ _ _ c.over_limit.ensures w.if-over_limit.false (w.over_limit-else-over_limit.ensures ∙ arcs) w.if-over_limit-2.true
    ]))

pub returns : goal.returns
unfolding graph_number
returns c =
    let rows = c.in_ok-check_rows.ensures in
    let arcs = ap (λ (g : Graph). heavy g.weights) c.self.view_is in
    counts-agree _ _ _ _ _ c.if-weights-n.false
    (first-gives-none _ _ _ rows (neither _ _ _ _ _ _ _ c.over_limit.ensures c.if-over_limit.false (c.over_limit-else-over_limit.ensures ∙ arcs) c.if-over_limit-2.false refl))

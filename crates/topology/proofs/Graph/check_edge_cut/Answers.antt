-- `Graph::check_edge_cut` meets its contract: the first test that holds decides. Assumes nothing.
use Rattle.std.proofs.Common.{ap, ◌∙◌, refl}
use Rattle.std.proofs.lemmas.Result.{err_from_is_err_and}
use Rattle.lists.proofs.Numbers.{test-holds, test-fails, first-gives-none}
use Rattle.lists.proofs.Refusals.{refused-first}
use Rattle.imbalance.specs.Limit.{heavy}
use Rattle.topology.specs.Graph.{Graph}
use Rattle.topology.specs.Number.{edge_cut_number}
use Rattle.topology.proofs.Graph.check_edge_cut.Goals as goal

pub returns-in_err-check_rows : goal.returns-in_err-check_rows
unfolding edge_cut_number
returns-in_err-check_rows c =
    let p = err_from_is_err_and c.from_residual.result c.from_residual.ensures.1 in
    let e = c.in_err-check_rows.ensures in
    rw (p.1, p.2) (refused-first _ _ _ e)

pub returns-then-over_limit : goal.returns-then-over_limit
unfolding edge_cut_number
returns-then-over_limit c =
    let rows = c.in_ok-check_rows.ensures in
    let arcs = ap (λ (g : Graph). heavy g.weights) c.self.view_is in
    first-gives-none _ _ _ rows (test-holds _ _ _ _ (c.over_limit.ensures ∙ arcs) c.if-over_limit.true)

pub returns-then-label_above : goal.returns-then-label_above
unfolding edge_cut_number
returns-then-label_above c =
    let rows = c.in_ok-check_rows.ensures in
    let arcs = ap (λ (g : Graph). heavy g.weights) c.self.view_is in
    first-gives-none _ _ _ rows
    (test-fails _ _ _ _ _ (c.over_limit.ensures ∙ arcs) c.if-over_limit.false (test-holds _ _ _ _ c.label_above.ensures c.if-label_above.true))

pub returns : goal.returns
unfolding edge_cut_number
returns c =
    let rows = c.in_ok-check_rows.ensures in
    let arcs = ap (λ (g : Graph). heavy g.weights) c.self.view_is in
    first-gives-none _ _ _ rows
    (test-fails _ _ _ _ _ (c.over_limit.ensures ∙ arcs) c.if-over_limit.false (test-fails _ _ _ _ _ c.label_above.ensures c.if-label_above.false refl))

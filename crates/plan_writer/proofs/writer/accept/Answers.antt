-- `plan_writer::writer::accept` meets its contract: each way out by the tests that led there. Assumes nothing.
use Rattle.plan_writer.proofs.WriteTests.{counts-ranged, lent-judged, counted, labels-below, starts-judged, by-twelve, by_one, by_three, by-fourteen, by-fifteen, by-none}
use Rattle.plan_writer.specs.Write.{given_by, unfit, miscounted, size_of}
use Rattle.plan_blocks.specs.Block.{blocks_of, blocks_for}
use Rattle.topology.specs.Graph.{Graph}
use Rattle.lists.proofs.Bools.{or-false}
use Rattle.std.proofs.Common.{◌≡◌, not, ℕ, ◌*◌, length, sym, ap, ◌∙◌, arith}
use Rattle.plan_writer.proofs.writer.accept.Goals as goal

pub returns-then-unfit : goal.returns-then-unfit
unfolding unfit
returns-then-unfit c = by-twelve _ _ (lent-judged _ _ _ _ _ _ _ c.graph.view_is c.unfit.ensures c.if-unfit.true)

pub returns-then-miscounted : goal.returns-then-miscounted
unfolding unfit miscounted
returns-then-miscounted c =
    by_one _ _ (lent-judged _ _ _ _ _ _ _ c.graph.view_is c.unfit.ensures c.if-unfit.false) (sym c.miscounted.ensures ∙ c.if-miscounted.true)

pub starts_ok-requires : goal.starts_ok-requires
unfolding miscounted
starts_ok-requires c = counted _ (length c.args.graph.now.neighbours) (length c.args.weights.now) _ (length c.args.graph.now.weights) (sym c.miscounted.ensures ∙ c.if-miscounted.false)

pub returns-then-not-starts_ok : goal.returns-then-not-starts_ok
unfolding unfit miscounted
returns-then-not-starts_ok c =
    by_three _ _ (lent-judged _ _ _ _ _ _ _ c.graph.view_is c.unfit.ensures c.if-unfit.false) (sym c.miscounted.ensures ∙ c.if-miscounted.false) (starts-judged _ _ c.starts_ok.ensures ∙ ap not c.if-not-starts_ok.true)

pub overflow_sub-k : goal.overflow_sub-k
overflow_sub-k c =
    let r = counts-ranged _ _ _ _ (lent-judged _ _ _ _ _ _ _ c.graph.view_is c.unfit.ensures c.if-unfit.false) in
    omega arith

pub returns-then-label_above : goal.returns-then-label_above
unfolding unfit miscounted
returns-then-label_above c =
    let r = counts-ranged _ _ _ _ (lent-judged _ _ _ _ _ _ _ c.graph.view_is c.unfit.ensures c.if-unfit.false) in
    by-fourteen _ _ (lent-judged _ _ _ _ _ _ _ c.graph.view_is c.unfit.ensures c.if-unfit.false) (sym c.miscounted.ensures ∙ c.if-miscounted.false) (starts-judged _ _ c.starts_ok.ensures ∙ ap not c.if-not-starts_ok.false) (sym (c.label_above.ensures ∙ labels-below _ _ (omega arith)) ∙ c.if-label_above.true)

pub blocks_of-requires : goal.blocks_of-requires
blocks_of-requires c =
    let arcs : length c.graph.inside.neighbours.now ≡ length c.args.graph.now.neighbours = ap (λ (g : Graph). length g.neighbours) c.graph.view_is in
    let r = counts-ranged _ _ _ _ (lent-judged _ _ _ _ _ _ _ c.graph.view_is c.unfit.ensures c.if-unfit.false) in
    omega arith

pub overflow_mul-blocks_of : goal.overflow_mul-blocks_of
unfolding blocks_of blocks_for
overflow_mul-blocks_of c =
    let arcs : length c.graph.inside.neighbours.now ≡ length c.args.graph.now.neighbours = ap (λ (g : Graph). length g.neighbours) c.graph.view_is in
    let r = counts-ranged _ _ _ _ (lent-judged _ _ _ _ _ _ _ c.graph.view_is c.unfit.ensures c.if-unfit.false) in
    let e = c.blocks_of.ensures in
    omega arith

pub returns-then-places-blocks_of : goal.returns-then-places-blocks_of
unfolding unfit miscounted size_of
returns-then-places-blocks_of c =
    let r = counts-ranged _ _ _ _ (lent-judged _ _ _ _ _ _ _ c.graph.view_is c.unfit.ensures c.if-unfit.false) in
    by-fifteen _ _ (lent-judged _ _ _ _ _ _ _ c.graph.view_is c.unfit.ensures c.if-unfit.false) (sym c.miscounted.ensures ∙ c.if-miscounted.false) (starts-judged _ _ c.starts_ok.ensures ∙ ap not c.if-not-starts_ok.false) (sym (c.label_above.ensures ∙ labels-below _ _ (omega arith)) ∙ c.if-label_above.false) _ (ap (λ (b : ℕ). 512 * b) (c.blocks_of.ensures ∙ ap (λ (g : Graph). blocks_of (length c.args.labels.now) (length g.neighbours)) c.graph.view_is)) c.if-places-blocks_of.true

pub header_with-header-requires : goal.header_with-header-requires
unfolding unfit
header_with-header-requires c =
    (or-false _ _ (lent-judged _ _ _ _ _ _ _ c.graph.view_is c.unfit.ensures c.if-unfit.false)).1

pub returns : goal.returns
unfolding unfit miscounted size_of
returns c =
    let r = counts-ranged _ _ _ _ (lent-judged _ _ _ _ _ _ _ c.graph.view_is c.unfit.ensures c.if-unfit.false) in
    (sym (by-none _ _ (lent-judged _ _ _ _ _ _ _ c.graph.view_is c.unfit.ensures c.if-unfit.false) (sym c.miscounted.ensures ∙ c.if-miscounted.false) (starts-judged _ _ c.starts_ok.ensures ∙ ap not c.if-not-starts_ok.false) (sym (c.label_above.ensures ∙ labels-below _ _ (omega arith)) ∙ c.if-label_above.false) _ (ap (λ (b : ℕ). 512 * b) (c.blocks_of.ensures ∙ ap (λ (g : Graph). blocks_of (length c.args.labels.now) (length g.neighbours)) c.graph.view_is)) c.if-places-blocks_of.false), rw (← c.graph.view_is) c.header_with-header.ensures)

-- `eight_block_grid::cuts_give` meets its contract: the number and zeros, or the two cuts. Assumes nothing.
use Rattle.std.proofs.Common.{refl, sym, ◌∙◌}
use Rattle.topology.specs.Cut.{lambda, touches, parts_around}
use Rattle.topology.specs.Number.{edge_cut_answer, lambda_cut_answer}
use Rattle.topology.proofs.Numbers.{edge-cut-asked, lambda-cut-asked}
use Rattle.eight_block_grid.proofs.Cuts.{answer-refused, answer-done}
use Rattle.eight_block_grid.proofs.Gives.{cuts-give}
use Rattle.eight_block_grid.proofs.cuts_give.Goals as goal

pub returns-in-Err : goal.returns-in-Err
unfolding edge_cut_answer lambda_cut_answer
returns-in-Err c =
    let refused = c.in-Err.ensures in
    let number = c.from-number.ensures ∙ c.from.ensures in
    cuts-give _ _ _ _ _ _ (answer-refused c.in-Err.refusal _ _ _ number refused.0) (answer-refused c.in-Err.refusal _ _ _ number refused.1) refl c.eq.ensures

pub cut_of-edge-requires : goal.cut_of-edge-requires
cut_of-edge-requires c = let done = c.in_default.ensures in rw c.the_grid-graph.ensures (edge-cut-asked _ _ (sym done.0))

pub lambda_of-lambda-requires : goal.lambda_of-lambda-requires
lambda_of-lambda-requires c = let done = c.in_default.ensures in rw c.the_grid-graph.ensures (lambda-cut-asked _ _ _ (sym done.1))

pub returns : goal.returns
unfolding edge_cut_answer lambda_cut_answer lambda parts_around touches
returns c =
    let done = c.in_default.ensures in
    cuts-give _ _ _ _ _ _ (answer-done _ _ _ done.0 (rw c.the_grid-graph.ensures at c.cut_of-edge.ensures)) (answer-done _ _ _ done.1 (rw c.the_grid-graph.ensures at c.lambda_of-lambda.ensures)) refl c.eq-2.ensures

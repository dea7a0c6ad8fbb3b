-- `Graph::lambda_cut` meets its contract: a refusal, or the cut. Assumes nothing.
use Rattle.std.proofs.Common.{sym}
use Rattle.lists.proofs.Refusals.{not-done}
use Rattle.topology.specs.Number.{lambda_cut_answer}
use Rattle.topology.proofs.Numbers.{lambda-cut-asked}
use Rattle.topology.proofs.Graph.lambda_cut.Goals as goal

pub returns-in-Err : goal.returns-in-Err
unfolding lambda_cut_answer
returns-in-Err c = rw (← c.in-Err.ensures, c.from.ensures, not-done c.in-Err.refusal)

pub lambda_of-requires : goal.lambda_of-requires
lambda_of-requires c = let done = c.in_default.ensures in lambda-cut-asked _ _ _ (sym done)

pub returns : goal.returns
unfolding lambda_cut_answer
returns c = let done = c.in_default.ensures in rw (← done, c.lambda_of.ensures)

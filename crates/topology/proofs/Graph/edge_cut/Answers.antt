-- `Graph::edge_cut` meets its contract: a refusal, or the cut. Assumes nothing.
use Rattle.std.proofs.Common.{sym}
use Rattle.lists.proofs.Refusals.{not-done}
use Rattle.topology.specs.Number.{edge_cut_answer}
use Rattle.topology.proofs.Numbers.{edge-cut-asked}
use Rattle.topology.proofs.Graph.edge_cut.Goals as goal

pub returns-in-Err : goal.returns-in-Err
unfolding edge_cut_answer
returns-in-Err c = rw (← c.in-Err.ensures, c.from.ensures, not-done c.in-Err.refusal)

pub cut_of-requires : goal.cut_of-requires
cut_of-requires c = let done = c.in_default.ensures in edge-cut-asked _ _ (sym done)

pub returns : goal.returns
unfolding edge_cut_answer
returns c = let done = c.in_default.ensures in rw (← done, c.cut_of.ensures)

-- `arc_swap::turns::on_cut` meets its contract: an arc leads away, or to the vertex's own part. Assumes nothing.
use borrow.Author.Rules.{rules}
use Rattle.arc_swap.proofs.Taken.{begins, found, passed, nowhere}
use Rattle.arc_swap.proofs.turns.on_cut.Goals as goal

pub loop-e-init : goal.loop-e-init
loop-e-init c = search (begins, rules)

pub returns-then-labels-u : goal.returns-then-labels-u
returns-then-labels-u c = search (found, rules)

pub loop-e-preserved : goal.loop-e-preserved
loop-e-preserved c = passed _ _ _ _ _ _ c.loop-e.invariant c.loop-e-test.true _ c.neighbour-u.ensures c.if-labels-u.false

pub returns : goal.returns
returns c = search (nowhere, rules)

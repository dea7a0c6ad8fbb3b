-- `Graph::check_rows` meets its contract: the first test that holds decides. Assumes nothing.
use Rattle.lists.proofs.Numbers.{numbering}
use Rattle.topology.specs.Rule.{rows_number}
use Rattle.topology.proofs.Numbers.{starts_fit, rows-ready}
use Rattle.std.proofs.Common.{ap, not}
use Rattle.topology.proofs.Graph.check_rows.Goals as goal

pub returns-then-misfits : goal.returns-then-misfits
unfolding rows_number
returns-then-misfits c = search numbering depth 8

pub returns-then-oversized : goal.returns-then-oversized
unfolding rows_number
returns-then-oversized c = search numbering depth 8

pub rows_ok-requires : goal.rows_ok-requires
rows_ok-requires c = starts_fit _ _ _ c.misfits.ensures c.if-misfits.false

pub returns-then-not-rows_ok : goal.returns-then-not-rows_ok
unfolding rows_number
returns-then-not-rows_ok c = search numbering depth 16 fits 9000

pub answered_all-requires : goal.answered_all-requires
answered_all-requires c =
    rows-ready _ _ _ _ _ c.misfits.ensures c.if-misfits.false c.oversized.ensures c.if-oversized.false c.rows_ok.ensures (ap not c.if-not-rows_ok.false)

pub returns-then-not-answered_all : goal.returns-then-not-answered_all
unfolding rows_number
returns-then-not-answered_all c = search numbering depth 16 fits 9000

pub returns : goal.returns
unfolding rows_number
returns c = search numbering depth 16 fits 9000

-- `Graph::all_rows_ok` meets its contract, by what its loop keeps. Assumes nothing.
use Rattle.std.proofs.Common.{sym, ◌∙◌}
use Rattle.lists.proofs.Alls.{all_none, all_more, all-fails}
use Rattle.topology.proofs.Graph.all_rows_ok.Goals as goal

pub loop-u-init : goal.loop-u-init
loop-u-init c = all_none _

pub returns-then-not-row_ok : goal.returns-then-not-row_ok
returns-then-not-row_ok c = sym (all-fails c.args.n c.loop-u.u _ c.loop-u-test.true (sym c.row_ok.ensures ∙ c.if-not-row_ok.true))

pub loop-u-preserved : goal.loop-u-preserved
loop-u-preserved c = all_more c.loop-u.u _ c.loop-u.invariant (sym c.row_ok.ensures ∙ c.if-not-row_ok.false)

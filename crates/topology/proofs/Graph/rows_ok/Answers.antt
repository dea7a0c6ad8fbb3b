-- `Graph::rows_ok` meets its contract: the starts' rule, then every row's. Assumes nothing.
use Rattle.std.proofs.Common.{sym, ◌∙◌}
use Rattle.topology.specs.Rule.{rows_ok}
use Rattle.topology.proofs.Graph.rows_ok.Goals as goal

pub returns-then-starts_ok : goal.returns-then-starts_ok
unfolding rows_ok
returns-then-starts_ok c = rw (sym c.starts_ok.ensures ∙ c.if-starts_ok.true) c.all_rows_ok.ensures

pub returns-else-starts_ok : goal.returns-else-starts_ok
unfolding rows_ok
returns-else-starts_ok c = rw (c.if-starts_ok.false, sym c.starts_ok.ensures ∙ c.if-starts_ok.false)

-- `Graph::oversized` meets its contract: each way out rewrites with the tests that led there. Assumes nothing.
use Rattle.std.proofs.Common.{length, ap, lt-ltb, le-ltb, ltb}
use Rattle.imbalance.specs.Limit.{most_arcs}
use Rattle.topology.specs.Graph.{Graph}
use Rattle.topology.specs.Rule.{oversize}
use Rattle.topology.proofs.Graph.oversized.Goals as goal

pub returns-then-n-gt-MOST_VERTICES : goal.returns-then-n-gt-MOST_VERTICES
unfolding oversize
returns-then-n-gt-MOST_VERTICES c = rw (lt-ltb _ _ c.if-n-gt-MOST_VERTICES.true)

pub returns-else-n-gt-MOST_VERTICES : goal.returns-else-n-gt-MOST_VERTICES
unfolding oversize
returns-else-n-gt-MOST_VERTICES c =
    rw (le-ltb _ _ c.if-n-gt-MOST_VERTICES.false) (ap (λ (g : Graph). ltb most_arcs (length g.neighbours)) c.self.view_is)

-- `Graph::arc_ok` meets its contract: each way out rewrites with the tests that led there. Assumes nothing.
use Rattle.std.proofs.Common.{lt-ltb, le-ltb, eq-eqb, ne_eqb}
use Rattle.topology.specs.Rule.{arc_ok}
use Rattle.topology.proofs.Graph.arc_ok.Goals as goal
use Rattle.topology.proofs.Graph.arc_ok.Goals.{then-n-v-via-then-n-v, then-n-v-via-else-n-v+then-v-u}

pub returns-then-n-v : goal.returns-then-n-v
unfolding arc_ok
returns-then-n-v c =
    elim c.then-n-v.branch [
      | then-n-v-via-then-n-v w ↦ rw (← c.neighbour-v.ensures, le-ltb _ _ w.if-n-v.true)
      | then-n-v-via-else-n-v+then-v-u w ↦ rw (← c.neighbour-v.ensures, lt-ltb _ _ w.if-n-v.false, eq-eqb _ _ w.if-v-u.true)
    ]

pub returns-then-e-lo : goal.returns-then-e-lo
unfolding arc_ok
returns-then-e-lo c =
    rw (← c.neighbour-v.ensures, lt-ltb _ _ c.if-n-v.false, ne_eqb _ _ c.if-v-u.false, eq-eqb _ _ c.if-e-lo.true)

pub returns-else-e-lo : goal.returns-else-e-lo
unfolding arc_ok
returns-else-e-lo c =
    rw (
      ← c.neighbour.ensures,
      ← c.neighbour-v.ensures,
      lt-ltb _ _ c.if-n-v.false,
      ne_eqb _ _ c.if-v-u.false,
      ne_eqb _ _ c.if-e-lo.false,
    )

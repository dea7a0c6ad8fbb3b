-- What the loop of `fiduccia_mattheyses_pass::gains::fresh_gains` keeps: the gains of the vertices so far are written.
use Rattle.std.proofs.Common.{◌≡◌}
use Rattle.lists.specs.Fill.{written}
use Rattle.imbalance.specs.Load.{part}
use Rattle.topology.specs.Graph.{gain}
use Rattle.fiduccia_mattheyses_choice.specs.Choice.{other}
use Rattle.fiduccia_mattheyses_pass.proofs.gains.fresh_gains.Given as goal

abbrev pub invariant-loop-v : goal.invariant-loop-v
invariant-loop-v l = l.gains ≡ written (λ u. gain l.graph l.labels u (other (part l.labels u))) l.v l.initial.gains

-- What the loops of `Sight::sweep` keep: the vertices so far are swept.
use Rattle.std.proofs.Common.{◌*◌}
use Rattle.fiduccia_mattheyses_choice.specs.inner.Look.{Swept}
use Rattle.fiduccia_mattheyses_choice.proofs.scan.Sight.sweep.Given as goal

abbrev pub invariant-loop-block : goal.invariant-loop-block
invariant-loop-block l = Swept l.self l.fn.start (l.block * 20) l.held

abbrev pub invariant-loop-v : goal.invariant-loop-v
invariant-loop-v l = Swept l.self l.fn.start l.v l.held

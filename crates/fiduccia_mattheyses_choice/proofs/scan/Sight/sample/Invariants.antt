-- What the loop of `Sight::sample` keeps: what is held may move, or nobody is held yet.
use Rattle.std.proofs.Common.{◌-◌, length}
use Rattle.fiduccia_mattheyses_choice.specs.inner.Look.{nobody, Holds}
use Rattle.fiduccia_mattheyses_choice.proofs.scan.Sight.sample.Given as goal

abbrev pub invariant-loop-next : goal.invariant-loop-next
invariant-loop-next l = Holds l.self nobody l.held

abbrev pub decreases-loop-next : goal.decreases-loop-next
decreases-loop-next l = length l.self.labels - l.next

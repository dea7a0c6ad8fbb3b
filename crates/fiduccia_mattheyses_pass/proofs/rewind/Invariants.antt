-- What the loop of `fiduccia_mattheyses_pass::rewind` keeps: the moves so far are taken back, and the loads are those of the labels.
use Rattle.std.proofs.Common.{◌≡◌, ◌-◌}
use Rattle.lists.specs.Fill.{table}
use Rattle.imbalance.specs.Load.{load}
use Rattle.fiduccia_mattheyses_pass.specs.inner.Steps.{undone}
use Rattle.fiduccia_mattheyses_pass.proofs.rewind.Given as goal

abbrev pub invariant-loop-at : goal.invariant-loop-at
invariant-loop-at l = (l.labels ≡ undone l.moves l.kept (l.at - l.kept) l.initial.labels) × (l.back.at ≡ table 16 (load l.weights l.labels))

-- What the loop of `plan_reader::reader::read_arcs` keeps: the places of the arcs passed are written.
use Rattle.plan_reader.proofs.ReadLaws.{ArcsTo}
use Rattle.plan_reader.proofs.reader.read_arcs.Given as goal

abbrev pub invariant-loop-e : goal.invariant-loop-e
invariant-loop-e l = ArcsTo l.bytes l.initial.neighbours l.initial.arc_weights l.a l.first l.neighbours l.arc_weights l.e

-- What the loop of `plan_reader::reader::read_vertices` keeps: the places of the vertices passed are written, and `row` is the sum of their degrees.
use Rattle.plan_reader.proofs.ReadLaws.{VerticesTo}
use Rattle.plan_reader.proofs.reader.read_vertices.Given as goal

abbrev pub invariant-loop-v : goal.invariant-loop-v
invariant-loop-v l = VerticesTo l.bytes l.initial.labels l.initial.weights l.initial.starts l.n l.labels l.weights l.starts l.row l.v

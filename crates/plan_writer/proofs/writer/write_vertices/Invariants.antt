-- What the loop of `plan_writer::writer::write_vertices` keeps: the records of the vertices passed are put.
use Rattle.plan_writer.proofs.Puts.{PutTo}
use Rattle.plan_writer.specs.Write.{plan_with}
use Rattle.plan_writer.specs.inner.Writing.{record_at}
use Rattle.plan_blocks.specs.Encode.{vertex_word}
use Rattle.std.proofs.Common.{◌*◌, [], length}
use Rattle.plan_writer.proofs.writer.write_vertices.Given as goal

abbrev pub invariant-loop-v : goal.invariant-loop-v
invariant-loop-v l = PutTo (record_at 1) (vertex_word (plan_with l.labels l.weights l.starts [] [] 0 0 0 [])) (2 * length l.labels) l.initial.target l.target (2 * l.v)

-- What the loop of `plan_writer::writer::write_arcs` keeps: the records of the arcs passed are put.
use Rattle.plan_writer.proofs.Puts.{PutTo}
use Rattle.plan_writer.specs.Write.{plan_with}
use Rattle.plan_writer.specs.inner.Writing.{record_at}
use Rattle.plan_blocks.specs.Encode.{arc_word}
use Rattle.std.proofs.Common.{◌*◌, [], length}
use Rattle.plan_writer.proofs.writer.write_arcs.Given as goal

abbrev pub invariant-loop-e : goal.invariant-loop-e
invariant-loop-e l = PutTo (record_at l.first) (arc_word (plan_with [] [] [] l.neighbours l.arc_weights 0 0 0 [])) (2 * length l.neighbours) l.initial.target l.target (2 * l.e)

-- What the loop of `plan_writer::writer::lay_out` keeps: the first words of the blocks passed are put among zeros.
use Rattle.plan_writer.proofs.Puts.{PutTo}
use Rattle.plan_writer.specs.inner.Writing.{opening_word}
use Rattle.std.proofs.Common.{◌*◌}
use Rattle.plan_writer.proofs.writer.lay_out.Given as goal

abbrev pub invariant-loop-b : goal.invariant-loop-b
invariant-loop-b l = PutTo (λ i. 128 * i) (opening_word l.header.choice l.header.n l.header.a) l.blocks l.initial.target l.target l.b

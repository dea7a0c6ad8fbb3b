-- What the loop of `plan_writer::writer::put_row` keeps: the numbers passed are put.
use Rattle.plan_writer.proofs.Puts.{PutTo}
use Rattle.std.proofs.Common.{◌+◌, get_or, length}
use Rattle.plan_writer.proofs.writer.put_row.Given as goal

abbrev pub invariant-loop-i : goal.invariant-loop-i
invariant-loop-i l = PutTo (λ i. l.first + i) (λ i. get_or l.xs i 0) (length l.xs) l.initial.target l.target l.i

-- What the loop of `plan_reader::reader::bad_records` keeps: the labels passed are below k, and the sum is that of the degrees passed.
use Rattle.plan_reader.proofs.ReadLaws.{Passed}
use Rattle.plan_reader.proofs.reader.bad_records.Given as goal

abbrev pub invariant-loop-v : goal.invariant-loop-v
invariant-loop-v l = Passed l.bytes l.header.n l.header.k l.sum l.v

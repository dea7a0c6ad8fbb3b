-- `plan_reader::reader::bad_length` meets its contract: each way out rewrites with the test that led there. Assumes nothing.
use Rattle.std.proofs.Common.{eq-eqb, ne_eqb}
use Rattle.plan_blocks.specs.Decode.{bad_length}
use Rattle.plan_reader.proofs.reader.bad_length.Goals as goal

pub returns-then-bytes-eq0 : goal.returns-then-bytes-eq0
unfolding bad_length
returns-then-bytes-eq0 c = simp (eq-eqb _ _ c.if-bytes-eq0.true)

pub returns-else-bytes-eq0 : goal.returns-else-bytes-eq0
unfolding bad_length
returns-else-bytes-eq0 c = simp (ne_eqb _ _ c.if-bytes-eq0.false)

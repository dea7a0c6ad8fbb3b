-- `plan_writer::writer::put_row` meets its contract, by what its loop keeps. Assumes nothing.
use Rattle.plan_writer.proofs.Puts.{put-none, put-more}
use Rattle.std.proofs.Common.{refl}
use Rattle.plan_writer.proofs.writer.put_row.Goals as goal

pub loop-i-init : goal.loop-i-init
loop-i-init c = put-none _ _ _ _

pub loop-i-preserved : goal.loop-i-preserved
loop-i-preserved c =
    put-more _ _ _ _ _ _ _ _ _ c.loop-i.invariant c.loop-i-test.true refl refl c.put_word.ensures

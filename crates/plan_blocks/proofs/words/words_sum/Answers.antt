-- `plan_blocks::words::words_sum` meets its contract, by what its loop keeps. Assumes nothing.
use Rattle.plan_blocks.proofs.WordLaws.{wrap-step}
use Rattle.lists.proofs.Sums.{sum-none}
use Rattle.std.proofs.Common.{refl}
use Rattle.plan_blocks.proofs.words.words_sum.Goals as goal

pub loop-j-init : goal.loop-j-init
loop-j-init c = rw sum-none

pub loop-j-preserved : goal.loop-j-preserved
loop-j-preserved c =
    wrap-step _ _ _ _ _ c.loop-j.invariant c.word_at-sum.ensures refl

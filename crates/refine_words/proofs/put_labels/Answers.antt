-- `refine_words::put_labels` meets its contract, number by number. Assumes nothing.
use Rattle.refine_words.proofs.Texts.{here-none, here-more, numbers-none, numbers-next}
use Rattle.refine_words.proofs.put_labels.Goals as goal

pub loop-x-init : goal.loop-x-init
loop-x-init c = here-none _ _ _ _ _ numbers-none

pub loop-x-preserved : goal.loop-x-preserved
loop-x-preserved c =
    here-more c.requires c.loop-x-test.true c.loop-x.invariant
    (numbers-next _ _ _ c.loop-x-test.true c.from.ensures) c.put_number-here.ensures

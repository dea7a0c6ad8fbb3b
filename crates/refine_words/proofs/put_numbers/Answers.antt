-- `refine_words::put_numbers` meets its contract, number by number. Assumes nothing.
use mathlib.Core.Path.{refl}
use Rattle.refine_words.proofs.Texts.{here-none, here-more, numbers-none, numbers-next}
use Rattle.refine_words.proofs.put_numbers.Goals as goal

pub loop-x-init : goal.loop-x-init
loop-x-init c = here-none _ _ _ _ _ numbers-none

pub loop-x-preserved : goal.loop-x-preserved
loop-x-preserved c =
    here-more c.requires c.loop-x-test.true c.loop-x.invariant (numbers-next _ _ _ c.loop-x-test.true refl)
    c.put_number-here.ensures

-- `refine_words::put_word` meets its contract, byte by byte. Assumes nothing.
use mathlib.Core.Path.{refl}
use native.Mathlib.Omega.{arith}
use Rattle.refine_words.proofs.Texts.{here-none, here-more, word_next}
use Rattle.refine_words.proofs.put_word.Goals as goal

pub loop-byte-init : goal.loop-byte-init
loop-byte-init c = here-none _ _ _ _ _ refl

pub loop-byte-preserved : goal.loop-byte-preserved
loop-byte-preserved c =
    here-more (omega (arith, c.requires)) c.loop-byte-test.true c.loop-byte.invariant (word_next _ _ c.loop-byte-test.true)
    c.put_byte-here.ensures

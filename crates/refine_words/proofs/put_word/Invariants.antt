-- What the loop of `refine_words::put_word` keeps.
use lib.ListN.{length, take}
use Rattle.refine_words.proofs.Texts.{Here}
use Rattle.refine_words.proofs.put_word.Given as goal

abbrev pub invariant-loop-byte : goal.invariant-loop-byte
invariant-loop-byte l = Here (λ k. take k l.word) 1 (length l.word) l.at l.byte-index l.initial.out l.out l.here

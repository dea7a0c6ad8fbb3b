-- What the loop of `refine_words::put_numbers` keeps.
use lib.ListN.{length, take}
use Rattle.refine_words.specs.Text.{numbers}
use Rattle.refine_words.proofs.Texts.{Here}
use Rattle.refine_words.proofs.put_numbers.Given as goal

abbrev pub invariant-loop-x : goal.invariant-loop-x
invariant-loop-x l = Here (λ k. numbers (take k l.xs)) 21 (length l.xs) l.at l.x-index l.initial.out l.out l.here

-- What the loop of `plan_blocks::words::words_sum` keeps: the sum, wrapping, of the words passed.
use Rattle.plan_blocks.specs.Word.{wrap, word}
use Rattle.std.proofs.Common.{◌≡◌, ◌+◌, ◌%◌}
use Rattle.plan_blocks.proofs.words.words_sum.Given as goal

abbrev pub invariant-loop-j : goal.invariant-loop-j
invariant-loop-j l = l.sum ≡ Rattle.lists.specs.Sum.sum l.j (λ i. word l.s (l.first + i)) % wrap

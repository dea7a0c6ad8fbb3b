-- What the loop of `refine_words::lines::put_pass_lines` keeps.
use Rattle.std.proofs.Common.{length}
use Rattle.refine_words.specs.Line.{pass_lines}
use Rattle.refine_words.proofs.Texts.{Here}
use Rattle.refine_words.proofs.lines.put_pass_lines.Given as goal

abbrev pub invariant-loop-moves : goal.invariant-loop-moves
invariant-loop-moves l = Here (λ k. pass_lines k l.made l.rewound) 47 l.passes l.at (length l.yielded) l.initial.out l.out l.here

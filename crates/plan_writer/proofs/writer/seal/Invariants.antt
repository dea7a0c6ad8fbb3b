-- What the loop of `plan_writer::writer::seal` keeps: the last words of the blocks passed are put.
use Rattle.plan_writer.proofs.Puts.{PutTo}
use Rattle.plan_blocks.specs.Block.{new_kind, sum_at, check_word}
use Rattle.plan_blocks.specs.Decode.{in_block}
use Rattle.std.proofs.Common.{◌+◌, ◌*◌}
use Rattle.plan_writer.proofs.writer.seal.Given as goal

abbrev pub invariant-loop-b : goal.invariant-loop-b
invariant-loop-b l = PutTo (λ i. 128 * i + 127) (λ i. check_word (sum_at new_kind i) (in_block l.initial.target i)) l.blocks l.initial.target l.target l.b

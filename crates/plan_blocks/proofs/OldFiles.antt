-- A file of the old kind is judged by the old rule. Assumes nothing.
use Rattle.std.proofs.Common.{◌≡◌, ℕ, List}
use Rattle.plan_blocks.specs.Block.{sum_at}
use Rattle.plan_blocks.specs.Decode.{kind_of, bad_kind, bad_check, file_number}
use Rattle.plan_blocks.specs.Old.{old_check, old_number}

-- "Files whose header has byte 1 = 0 are still read by the old rule": the number is that of the chain as it was
pub old-rule : (s : List ℕ) → kind_of s ≡ 0 → file_number s ≡ old_number s
unfolding file_number bad_kind bad_check sum_at old_number old_check
old-rule s e = rw e

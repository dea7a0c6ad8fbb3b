-- The old rule (document 01, "Plan blocks", as it stood before document 02's A2): "Files whose header has byte 1 = 0 are still read by the old rule".
use Rattle.std.specs.Prelude.{ℕ, Bool, cond, not, List}
use Rattle.lists.specs.All.{all}
use Rattle.plan_blocks.specs.Block.{checks}
use Rattle.plan_blocks.specs.Decode.{in_block, blocks_in, header_at, bad_length, bad_header, bad_numbers, bad_later, bad_records}

-- 10: a block whose "sum of its 128 words, wrapping," is not "zero"
unfoldable pub old_check : List ℕ → Bool
old_check s = not (all (blocks_in s) (λ b. checks 0 (in_block s b)))

-- the smallest number that applies, 0 if none does; byte 1 of each block is "a zero byte"
unfoldable pub old_number : List ℕ → ℕ
old_number s =
    cond (bad_length s) 9
    (cond (old_check s) 10
    (cond (bad_header 0 s) 11
    (cond (bad_numbers (header_at s)) 12
    (cond (bad_later 0 (header_at s) s) 13
    (cond (bad_records (header_at s) s) 14 0)))))

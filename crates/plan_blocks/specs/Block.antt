-- A block, as its 128 words (document 01, "Plan blocks"; document 02, A2 and A4), and how many blocks of each kind there are.
-- A file is of the old kind, 0, or of the new kind, 1. Byte 1 of its header says which; every block has the same byte, and the sum that a block must have follows from the header's.
use Rattle.std.specs.Prelude.{ℕ, ◌+◌, ◌-◌, ◌*◌, ◌/◌, ◌%◌, Bool, cond, ◌&&◌, ◌==◌, nat_eq, nat_le, nat_lt}
use Rattle.lists.specs.Sum.{sum}
use Rattle.lists.specs.All.{all_from}
use Rattle.plan_blocks.specs.Word.{wrap}

-- what the writer makes: "the writer makes only the new kind"
abbrev pub new_kind : ℕ
new_kind = 1

-- "kind, a zero byte, record count u16"; in a file of the new kind "byte 1 is 1": a block's first word
abbrev pub opening : ℕ → ℕ → ℕ → ℕ
opening file kind count = kind + 256 * file + 65536 * count

-- the sum that block b's words must have in a file of this kind: zero in the old one, "the block's position in the file, counted from 0" in the new one
unfoldable pub sum_at : ℕ → ℕ → ℕ
sum_at file b = cond (file == 0) 0 b

-- "the block's words now sum, wrapping, to" what they must
unfoldable pub checks : ℕ → (ℕ → ℕ) → Bool
checks must w = sum 128 w % wrap == must

-- a block is laid out as the kinds and its count ask: the first word is right, and "Unused places are zero"
unfoldable pub laid_out : ℕ → ℕ → ℕ → (ℕ → ℕ) → Bool
laid_out file kind count w = w 0 == opening file kind count && all_from (1 + 2 * count) 127 (λ j. nat_eq (w j) 0)

-- the word that makes the sum of the 128 words, wrapping, what it must be
unfoldable pub check_word : ℕ → (ℕ → ℕ) → ℕ
check_word must w = (must + (wrap - sum 127 w % wrap)) % wrap

-- how many blocks so many records fill, 63 to a block; "none if a is 0"
unfoldable pub blocks_for : ℕ → ℕ
blocks_for records = (records + 62) / 63

-- "all of a later kind hold 63 records but its last, which holds the rest": the records in block i of those
unfoldable pub held_by : ℕ → ℕ → ℕ
held_by records i = cond (nat_lt 63 (records - 63 * i)) 63 (records - 63 * i)

-- the blocks of a plan of n vertices and a arcs: one of kind 1, then kind 2, then kind 3
unfoldable pub blocks_of : ℕ → ℕ → ℕ
blocks_of n a = 1 + blocks_for n + blocks_for a

-- "Blocks stand by kind, 1, 2, 3": block b's kind
unfoldable pub kind_at : ℕ → ℕ → ℕ
kind_at n b = cond (b == 0) 1 (cond (nat_le b (blocks_for n)) 2 3)

-- the header's record count: "Kind 1, once, first, 3 records", and "Plan headers with choice 3 carry eight further records"; "11 judges the record count by choice, a choice above 3 as three records"
unfoldable pub header_count : ℕ → ℕ
header_count choice = cond (choice == 3) 11 3

-- block b's record count, in a plan with this choice of the ceiling
unfoldable pub count_at : ℕ → ℕ → ℕ → ℕ → ℕ
count_at choice n a b = cond (b == 0) (header_count choice) (cond (nat_le b (blocks_for n)) (held_by n (b - 1)) (held_by a (b - 1 - blocks_for n)))

-- The bytes of a plan (document 01, "Plan blocks"; document 02, A2 and A4), in a file of either kind.
use Rattle.std.specs.Prelude.{ℕ, ◌+◌, ◌-◌, ◌*◌, ◌/◌, ◌%◌, cond, List, ◌∷◌, ◌==◌, nat_le, slice_index}
use Rattle.plan_blocks.specs.declared.header.Header.{Header}
use Rattle.plan_blocks.specs.Word.{wrap, bytes}
use Rattle.plan_blocks.specs.Block.{opening, sum_at, check_word, blocks_for, blocks_of, kind_at, count_at}
use Rattle.plan_blocks.specs.Plan.{Plan, header_in}

-- "n and a; k and ceiling choice; ceiling value as 8 bytes", "eight further records of two numbers": word r of the header's records
unfoldable pub header_word : Header → ℕ → ℕ
header_word header r =
    slice_index (header.n ∷ header.a ∷ header.k ∷ header.choice ∷ header.value % wrap ∷ header.value / wrap ∷ header.each) r

-- "weight u32, label u16, degree u16, by vertex": word r of all records of kind 2
unfoldable pub vertex_word : Plan → ℕ → ℕ
vertex_word p r =
    cond (r % 2 == 0) (slice_index p.weights (r / 2)) (slice_index p.labels (r / 2) + 65536 * slice_index p.degrees (r / 2))

-- "neighbour u32, weight u32, row by row": word r of all records of kind 3
unfoldable pub arc_word : Plan → ℕ → ℕ
arc_word p r = cond (r % 2 == 0) (slice_index p.neighbours (r / 2)) (slice_index p.arc_weights (r / 2))

-- word r of the records of block b; a block of a later kind has 126 words of records before it for each earlier block of its kind
unfoldable pub record_word : Plan → ℕ → ℕ → ℕ
record_word p b r =
    cond (b == 0) (header_word (header_in p) r)
    (cond (nat_le b (blocks_for p.n)) (vertex_word p (126 * (b - 1) + r))
    (arc_word p (126 * (b - 1 - blocks_for p.n) + r)))

-- word j of block b, the last apart: the opening, the records, and "Unused places are zero"
unfoldable pub body_word : ℕ → Plan → ℕ → ℕ → ℕ
body_word file p b j =
    cond (j == 0) (opening file (kind_at p.n b) (count_at p.choice p.n p.a b))
    (cond (nat_le j (2 * count_at p.choice p.n p.a b)) (record_word p b (j - 1)) 0)

-- word w of the file, 128 to a block: the last of a block is "a word chosen so that the sum of its 128 words, wrapping, is" what it must be
unfoldable pub file_word : ℕ → Plan → ℕ → ℕ
file_word file p w =
    cond (w % 128 == 127)
    (check_word (sum_at file (w / 128)) (body_word file p (w / 128)))
    (body_word file p (w / 128) (w % 128))

-- THE FILE of a plan, of a kind
unfoldable pub encode : ℕ → Plan → List ℕ
encode file p = bytes (128 * blocks_of p.n p.a) (file_word file p)

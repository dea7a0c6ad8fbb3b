-- The plan that a file holds, or the number that refuses it (document 01, "Plan blocks" and numbers 9 to 14; document 02, A2 and A4).
use Rattle.std.specs.Prelude.{ℕ, ◌+◌, ◌*◌, ◌/◌, ◌%◌, Bool, cond, not, ◌||◌, ltb, List, length, ◌==◌, nat_lt, slice_index}
use Rattle.lists.specs.Sum.{sum}
use Rattle.lists.specs.All.{all, all_from}
use Rattle.lists.specs.Fill.{table}
use Rattle.plan_blocks.specs.declared.header.Header.{Header}
use Rattle.plan_blocks.specs.Word.{wrap, word}
use Rattle.plan_blocks.specs.Block.{sum_at, checks, laid_out, blocks_for, blocks_of, header_count, kind_at, count_at}
use Rattle.plan_blocks.specs.Plan.{Plan, Decoded, accepted, refused, out_of_range, unfit_value}

-- word j of block b
abbrev pub in_block : List ℕ → ℕ → ℕ → ℕ
in_block s b j = word s (128 * b + j)

-- the file's blocks
abbrev pub blocks_in : List ℕ → ℕ
blocks_in s = length s / 512

-- the file's kind: byte 1 of its header
abbrev pub kind_of : List ℕ → ℕ
kind_of s = slice_index s 1

-- "eight further records of two numbers": the number of each part, after the header's first three records
abbrev pub each_at : List ℕ → List ℕ
each_at s = table 16 (λ t. word s (7 + t))

-- "n and a; k and ceiling choice; ceiling value as 8 bytes", then the number of each part: the header's numbers. Where the choice does not use these, they are unused places.
abbrev pub header_at : List ℕ → Header
header_at s =
    record {
      n = word s 1;
      a = word s 2;
      k = word s 3;
      choice = word s 4;
      value = word s 5 + wrap * word s 6;
      each = each_at s;
    }

-- the first word of vertex v's record: vertices stand 63 to a block, from block 1 on
abbrev pub vertex_at : ℕ → ℕ
vertex_at v = 128 * (1 + v / 63) + 1 + 2 * (v % 63)

-- the first word of arc e's record: arcs stand 63 to a block, after the vertices' blocks
abbrev pub arc_at : ℕ → ℕ → ℕ
arc_at n e = 128 * (1 + blocks_for n + e / 63) + 1 + 2 * (e % 63)

-- "label u16, degree u16": the two halves of the second word of vertex v's record
abbrev pub label_at : List ℕ → ℕ → ℕ
label_at s v = word s (vertex_at v + 1) % 65536

abbrev pub degree_at : List ℕ → ℕ → ℕ
degree_at s v = word s (vertex_at v + 1) / 65536

-- what stands in the file's places, by "n and a; k and ceiling choice; ceiling value as 8 bytes", "weight u32, label u16, degree u16" and "neighbour u32, weight u32"
unfoldable pub plan_of : List ℕ → Plan
plan_of s =
    record {
      n = word s 1;
      a = word s 2;
      k = word s 3;
      choice = word s 4;
      value = word s 5 + wrap * word s 6;
      each = each_at s;
      weights = table (word s 1) (λ v. word s (vertex_at v));
      labels = table (word s 1) (label_at s);
      degrees = table (word s 1) (degree_at s);
      neighbours = table (word s 2) (λ e. word s (arc_at (word s 1) e));
      arc_weights = table (word s 2) (λ e. word s (arc_at (word s 1) e + 1));
    }

-- 9: "plan length not a positive multiple of 512"
unfoldable pub bad_length : List ℕ → Bool
bad_length s = length s == 0 || not (length s % 512 == 0)

-- 11: "a header value above 1 gives 11, ahead of 10"
unfoldable pub bad_kind : List ℕ → Bool
bad_kind s = nat_lt 1 (kind_of s)

-- 10: "a block's check fails"
unfoldable pub bad_check : ℕ → List ℕ → Bool
bad_check file s = not (all (blocks_in s) (λ b. checks (sum_at file b) (in_block s b)))

-- 11: "header block laid out wrongly": "11 judges the record count by choice"
unfoldable pub bad_header : ℕ → List ℕ → Bool
bad_header file s = not (laid_out file 1 (header_count (word s 4)) (in_block s 0))

-- 12: "a header number out of range"
unfoldable pub bad_numbers : Header → Bool
bad_numbers header = out_of_range header.n header.a header.k || unfit_value header.choice header.value

-- each later block is laid out as the file's kind, n and a ask: "a block whose byte 1 differs from the header's gives 13"
unfoldable pub later_laid : ℕ → Header → List ℕ → Bool
later_laid file header s =
    all_from 1 (blocks_in s)
    (λ b. laid_out file (kind_at header.n b) (count_at header.choice header.n header.a b) (in_block s b))

-- 13: "a later block laid out wrongly, or block count wrong"
unfoldable pub bad_later : ℕ → Header → List ℕ → Bool
bad_later file header s =
    not (blocks_in s == blocks_of header.n header.a) || not (later_laid file header s)

-- every vertex's label is below k
unfoldable pub labelled : ℕ → ℕ → List ℕ → Bool
labelled n k s = all n (λ v. ltb (label_at s v) k)

-- 14: "degrees do not sum to a, or a label is not below k"
unfoldable pub bad_records : Header → List ℕ → Bool
bad_records header s =
    not (sum header.n (degree_at s) == header.a) || not (labelled header.n header.k s)

-- the first number that applies, in the order 9, 11 for the file's kind alone, 10, 11, 12, 13, 14; 0 if none does
unfoldable pub file_number : List ℕ → ℕ
file_number s =
    cond (bad_length s) 9
    (cond (bad_kind s) 11
    (cond (bad_check (kind_of s) s) 10
    (cond (bad_header (kind_of s) s) 11
    (cond (bad_numbers (header_at s)) 12
    (cond (bad_later (kind_of s) (header_at s) s) 13
    (cond (bad_records (header_at s) s) 14 0))))))

-- THE PLAN of a file
unfoldable pub decode : List ℕ → Decoded
decode s = cond (file_number s == 0) (accepted (plan_of s)) (refused (file_number s))

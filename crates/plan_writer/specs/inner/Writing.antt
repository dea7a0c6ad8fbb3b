-- What the writer's inner functions ask and promise: lists that can be written, and words put at their places, step by step.
use Rattle.std.specs.Prelude.{Result, Ok, Err, ◌≡◌, ℕ, zero, suc, ◌+◌, ◌*◌, ◌/◌, ◌%◌, ◌^◌, ◌<◌, ◌≤◌, List, length, slice_index}
use Rattle.lists.specs.Fill.{filled}
use Rattle.lists.specs.Refusal.{number_of}
use Rattle.lists.specs.declared.refusal.Refusal.{Refusal}
use Rattle.imbalance.specs.Limit.{most_vertices, most_arcs}
use Rattle.plan_blocks.specs.declared.header.Header.{Header}
use Rattle.plan_blocks.specs.Word.{put_word}
use Rattle.plan_blocks.specs.Block.{new_kind, opening, sum_at, check_word, blocks_of, header_count, kind_at, count_at}
use Rattle.plan_blocks.specs.Encode.{header_word}
use Rattle.plan_blocks.specs.Decode.{in_block}
use Rattle.plan_blocks.specs.Plan.{value_of, each_of}
use Rattle.plan_writer.specs.Write.{Given, vertices, arcs, write_number}

-- the header of what is given
abbrev pub header_from : Given → Header
header_from g =
    record {
      n = vertices g;
      a = arcs g;
      k = g.k;
      choice = g.ceiling.choice;
      value = value_of g.ceiling;
      each = each_of g.ceiling;
    }

-- what is given is accepted for a target of so many places, with its header, or refused with its number
abbrev pub accepted_as : Given → ℕ → Result Header Refusal → Type 0
accepted_as g places (Ok header) = (write_number g places ≡ 0) × (header ≡ header_from g)
accepted_as g places (Err refusal) = number_of refusal ≡ write_number g places

-- What the vertices' records ask of the lists: their counts, starts in order, and labels that two bytes hold.
pub record VerticesFit (labels weights starts : List ℕ) : Type 0 where
  pub few : length labels ≤ most_vertices
  pub weighed : length weights ≡ length labels
  pub started : length starts ≡ length labels + 1
  pub rises : (v : ℕ) → v < length labels → slice_index starts v ≤ slice_index starts (v + 1)
  pub within : (v : ℕ) → v < length labels → slice_index starts (v + 1) ≤ most_arcs
  pub named : (v : ℕ) → v < length labels → slice_index labels v < 2 ^ 16

-- What the arcs' records ask of the lists: their counts.
pub record ArcsFit (neighbours arc_weights : List ℕ) : Type 0 where
  pub few : length neighbours ≤ most_arcs
  pub paired : length arc_weights ≡ length neighbours

-- the words x 0, x 1, .. x (m - 1), put at the places at 0, at 1, .. at (m - 1)
unfoldable pub put_words : (ℕ → ℕ) → (ℕ → ℕ) → ℕ → List ℕ → List ℕ
put_words at x zero s = s
put_words at x (suc i) s = put_word (put_words at x i s) (at i) (x i)

-- block b's first word
abbrev pub opening_word : ℕ → ℕ → ℕ → ℕ → ℕ
opening_word choice n a b = opening new_kind (kind_at n b) (count_at choice n a b)

-- the blocks laid out: each one's first word, and zeros
abbrev pub laid_down : ℕ → ℕ → ℕ → List ℕ → List ℕ
laid_down choice n a s =
    put_words (λ b. 128 * b) (opening_word choice n a) (blocks_of n a) (filled 0 (512 * blocks_of n a) s)

-- the header's records: two words each after the first block's first
abbrev pub put_header : Header → List ℕ → List ℕ
put_header header s = put_words (λ r. 1 + r) (header_word header) (2 * header_count header.choice) s

-- word r of the records of a kind whose blocks start at block `first`: 126 to a block, after its first word
abbrev pub record_at : ℕ → ℕ → ℕ
record_at first r = 128 * (first + r / 126) + 1 + r % 126

-- so many records of two words of a kind
abbrev pub put_records : ℕ → (ℕ → ℕ) → ℕ → List ℕ → List ℕ
put_records first x records s = put_words (record_at first) x (2 * records) s

-- the blocks' last words, each chosen by its block's position and the words before it
abbrev pub sealed : ℕ → List ℕ → List ℕ
sealed blocks s = put_words (λ b. 128 * b + 127) (λ b. check_word (sum_at new_kind b) (in_block s b)) blocks s

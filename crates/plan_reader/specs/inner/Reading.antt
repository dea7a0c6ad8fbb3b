-- What the reader's inner functions promise: its number in two parts, before and after the header is decoded.
use Rattle.std.specs.Prelude.{◌≡◌, cond, List, ℕ, Result, Ok, Err}
use Rattle.lists.specs.declared.refusal.Refusal.{Refusal}
use Rattle.lists.specs.Refusal.{number_of}
use Rattle.plan_blocks.specs.declared.header.Header.{Header}
use Rattle.plan_blocks.specs.Decode.{header_at, kind_of, bad_length, bad_kind, bad_check, bad_header, bad_numbers, bad_later, bad_records}
use Rattle.plan_reader.specs.declared.reader.Lengths.{Lengths}
use Rattle.plan_reader.specs.Read.{short, number_for}

-- the first of 9, 11 for the file's kind, 10 and 11 that applies, 0 if none does
unfoldable pub frame_number : List ℕ → ℕ
frame_number s =
    cond (bad_length s) 9
    (cond (bad_kind s) 11
    (cond (bad_check (kind_of s) s) 10
    (cond (bad_header (kind_of s) s) 11 0)))

-- the smallest of 12 to 15 that applies to a header, its file and targets of these lengths, 0 if none does
unfoldable pub plan_number : Header → List ℕ → ℕ → ℕ → ℕ → ℕ → ℕ → ℕ
plan_number header s labels weights starts neighbours arc_weights =
    cond (bad_numbers header) 12
    (cond (bad_later (kind_of s) header s) 13
    (cond (bad_records header s) 14
    (cond (short header.n header.a labels weights starts neighbours arc_weights) 15 0)))

-- the reader's number for targets of these lengths
abbrev pub number_with : List ℕ → Lengths → ℕ
number_with s lengths =
    number_for s lengths.labels lengths.weights lengths.starts lengths.neighbours lengths.arc_weights

-- a file is accepted with the header that it holds, or refused with its number
abbrev pub accepted_as : List ℕ → Lengths → Result Header Refusal → Type 0
accepted_as s lengths (Ok header) = (number_with s lengths ≡ 0) × (header ≡ header_at s)
accepted_as s lengths (Err refusal) = number_of refusal ≡ number_with s lengths

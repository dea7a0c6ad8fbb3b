-- What number the choice in a header brings (document 02, A4): "11 judges the record count by choice, a choice above 3 as three records", "7 and 12 now begin at choice 4". Assumes nothing.
use Rattle.std.proofs.Common.{◌≡◌, ℕ, ◌+◌, ◌*◌, ◌<◌, true, false, List, arith, ne_eqb}
use Rattle.lists.proofs.Bools.{or-true}
use Rattle.plan_blocks.specs.Word.{wrap, word}
use Rattle.plan_blocks.specs.Block.{opening, laid_out, header_count}
use Rattle.plan_blocks.specs.Plan.{out_of_range, unfit_value}
use Rattle.plan_blocks.specs.Decode.{in_block, kind_of, bad_length, bad_kind, bad_check, bad_header, bad_numbers, file_number}
use Rattle.plan_blocks.proofs.Bits.{choice-above}
use Rattle.plan_blocks.proofs.Places.{eleven-records, three-records}

-- a first block that opens with another count than the choice asks for is laid out wrongly
pub count-differs : (file : ℕ) (s : List ℕ) (count : ℕ) → word s 0 ≡ opening file 1 count → (count ≡ header_count (word s 4) → ⊥) → bad_header file s ≡ true
unfolding bad_header laid_out
count-differs file s count e ne =
    simp (ne_eqb (word s 0) (opening file 1 (header_count (word s 4))) (λ q. ne (omega arith)))

-- a file to which no number ahead of the header's applies
module _ (s : List ℕ) (long : bad_length s ≡ false) (known : bad_kind s ≡ false) (checked : bad_check (kind_of s) s ≡ false) where
  header_refused : bad_header (kind_of s) s ≡ true → file_number s ≡ 11
  unfolding file_number
  header_refused bad = simp (long, known, checked, bad)

  -- choice 3 with three records
  pub three-refused : word s 4 ≡ 3 → word s 0 ≡ opening (kind_of s) 1 3 → file_number s ≡ 11
  three-refused new e =
      header_refused (count-differs (kind_of s) s 3 e (λ q. let c = eleven-records (word s 4) new in omega arith))

  -- another choice, one above 3 among them, with eleven
  pub eleven-refused : (word s 4 ≡ 3 → ⊥) → word s 0 ≡ opening (kind_of s) 1 11 → file_number s ≡ 11
  eleven-refused other e =
      header_refused (count-differs (kind_of s) s 11 e (λ q. let c = three-records (word s 4) other in omega arith))

  -- laid out as its choice asks, with a value that does not fit the choice
  unfit-refused : laid_out (kind_of s) 1 (header_count (word s 4)) (in_block s 0) ≡ true → unfit_value (word s 4) (word s 5 + wrap * word s 6) ≡ true → file_number s ≡ 12
  unfolding file_number bad_header bad_numbers
  unfit-refused laid unfit =
      simp (long, known, checked, laid, unfit, or-true (out_of_range (word s 1) (word s 2) (word s 3)))

  -- a choice above 3 with three records
  pub choice-refused : 3 < word s 4 → laid_out (kind_of s) 1 3 (in_block s 0) ≡ true → file_number s ≡ 12
  choice-refused above laid =
      unfit-refused (rw (three-records (word s 4) (λ e. omega arith)) laid) (choice-above (word s 4) _ above)

  -- choice 3 with eleven records, and not "a zero value place"
  pub value-refused : word s 4 ≡ 3 → laid_out (kind_of s) 1 11 (in_block s 0) ≡ true → (word s 5 + wrap * word s 6 ≡ 0 → ⊥) → file_number s ≡ 12
  unfolding unfit_value
  value-refused new laid used =
      unfit-refused (rw (eleven-records (word s 4) new) laid) (rw new (simp (ne_eqb (word s 5 + wrap * word s 6) 0 used)))

-- The writer's steps, one after another, make the file of the plan, of the new kind. Assumes nothing.
use Rattle.std.proofs.Common.{◌≡◌, ℕ, ◌+◌, ◌-◌, ◌*◌, ◌/◌, ◌%◌, ◌<◌, ◌≤◌, Bool, true, false, eqb, leb, List, [], length, sym, refl, ap, ◌∙◌, ⊎_elim, arith, eqb-true, leb-false, leb-true}
use native.Mathlib.Nat.{zero-div}
use borrow.Author.Tests.{eqb-false}
use Rattle.lists.specs.Fill.{filled, over}
use Rattle.lists.proofs.Totals.{sum-ext}
use Rattle.lists.proofs.Fills.{length-written}
use Rattle.lists.proofs.Tables.{table-ext, written_over}
use Rattle.plan_blocks.specs.declared.header.Header.{Header}
use Rattle.plan_blocks.specs.Word.{wrap, byte_of, bytes}
use Rattle.plan_blocks.specs.Block.{new_kind, sum_at, check_word, blocks_for, blocks_of, held_by, header_count, count_at}
use Rattle.plan_blocks.specs.Plan.{Plan, header_in}
use Rattle.plan_blocks.specs.Encode.{header_word, vertex_word, arc_word, body_word, file_word, encode}
use Rattle.plan_blocks.specs.Decode.{in_block}
use Rattle.plan_blocks.proofs.WordLaws.{byte_in, bytes-ext, sum-wrapped, word_over}
use Rattle.plan_blocks.proofs.Places.{held_in, header-most, file-body, file-check, body-rest, vertex-block, arc-block, header-words, vertex-words, arc-words, by_kind}
use Rattle.plan_writer.specs.Write.{plan_with, size_of}
use Rattle.plan_writer.specs.inner.Writing.{put_words, opening_word, laid_down, put_header, record_at, put_records, sealed}
use Rattle.plan_writer.proofs.Puts.{length-puts, after, puts-over, after_is}

-- zeros are the bytes of words that are zero
cleared : (m : ℕ) (s : List ℕ) → 4 * m ≤ length s → filled 0 (4 * m) s ≡ over (bytes m (λ w. 0)) s
unfolding bytes byte_of
cleared m s places =
    written_over (λ i. 0) (4 * m) s places
    ∙ ap (λ (t : List ℕ). over t s) (table-ext (4 * m) (λ i. 0) (byte_in (λ w. 0)) (λ i l. sym (ap (λ (x : ℕ). x % 256) (zero-div _))))

module _ (p : Plan) where
  -- the file's word at each place where one is put
  first_word : (b : ℕ) → file_word new_kind p (128 * b) ≡ opening_word p.choice p.n p.a b
  unfolding body_word
  first_word b =
      let z : 128 * b ≡ 128 * b + 0 = omega arith in
      ap (file_word new_kind p) z ∙ file-body new_kind p b 0 (omega arith)

  vertex-word : (r : ℕ) → r < 2 * p.n → file_word new_kind p (record_at 1 r) ≡ vertex_word p r
  vertex-word r l =
      let z : record_at 1 r ≡ 128 * (1 + r / 2 / 63) + 1 + 2 * (r / 2 % 63) + r % 2 = omega arith in
      let q : 2 * (r / 2) + r % 2 ≡ r = omega arith in
      ap (file_word new_kind p) z ∙ vertex-words new_kind p (r % 2) (omega arith) (r / 2) (omega arith) ∙ ap (vertex_word p) q

  arc-word : (r : ℕ) → r < 2 * p.a → file_word new_kind p (record_at (1 + blocks_for p.n) r) ≡ arc_word p r
  arc-word r l =
      let z : record_at (1 + blocks_for p.n) r ≡ 128 * (1 + blocks_for p.n + r / 2 / 63) + 1 + 2 * (r / 2 % 63) + r % 2 = omega arith in
      let q : 2 * (r / 2) + r % 2 ≡ r = omega arith in
      ap (file_word new_kind p) z ∙ arc-words new_kind p (r % 2) (omega arith) (r / 2) (omega arith) ∙ ap (arc_word p) q

  -- a word of the file at none of these places, and not a block's last, is zero
  module _ (b j : ℕ) (inside : b < blocks_of p.n p.a) (early : j < 127)
      (no-first : (i : ℕ) → i < blocks_of p.n p.a → 128 * b + j ≡ 128 * i → ⊥)
      (no_Header : (r : ℕ) → r < 2 * header_count p.choice → 128 * b + j ≡ 1 + r → ⊥)
      (no_vertex : (r : ℕ) → r < 2 * p.n → 128 * b + j ≡ record_at 1 r → ⊥)
      (no-arc : (r : ℕ) → r < 2 * p.a → 128 * b + j ≡ record_at (1 + blocks_for p.n) r → ⊥) where
    later : 0 < j
    later = go (eqb j 0) refl
      where
        go : (t : Bool) → eqb j 0 ≡ t → 0 < j
        go true e = let z = eqb-true j 0 e in absurd (no-first b inside (omega arith))
        go false e = let ne = eqb-false j 0 e in omega (arith, ne)

    no_record : j ≤ 2 * count_at p.choice p.n p.a b → ⊥
    unfolding count_at
    no_record l = go (eqb b 0) refl
      where
        go : (t : Bool) → eqb b 0 ≡ t → ⊥
        go true e =
            let z = eqb-true b 0 e in
            let c : count_at p.choice p.n p.a b ≡ header_count p.choice = rw z refl in
            let k = later in
            no_Header (j - 1) (omega arith) (omega arith)
        go false e =
            let ne = eqb-false b 0 e in
            let k = later in
            ⊎_elim
            (λ v. (let c = vertex-block p.choice p.n p.a v.0 v.1 in
            let d : count_at p.choice p.n p.a b ≡ held_by p.n v.0 = ap (count_at p.choice p.n p.a) v.2 ∙ c in
            let h = held_in p.n v.0 ((j - 1) / 2) (omega arith) in
            let g = v.2 in
            no_vertex (126 * v.0 + (j - 1)) (omega arith) (omega arith)))
            (λ v. (let c = arc-block p.choice p.n p.a v.0 in
            let d : count_at p.choice p.n p.a b ≡ held_by p.a v.0 = ap (count_at p.choice p.n p.a) v.2 ∙ c in
            let h = held_in p.a v.0 ((j - 1) / 2) (omega arith) in
            let g = v.2 in
            no-arc (126 * v.0 + (j - 1)) (omega arith) (omega arith)))
            (by_kind p.n p.a b (omega (arith, ne)) inside)

    unused-word : file_word new_kind p (128 * b + j) ≡ 0
    unused-word = go (leb j (2 * count_at p.choice p.n p.a b)) refl
      where
        go : (t : Bool) → leb j (2 * count_at p.choice p.n p.a b) ≡ t → file_word new_kind p (128 * b + j) ≡ 0
        go true e = absurd (no_record (leb-true j (2 * count_at p.choice p.n p.a b) e))
        go false e = file-body new_kind p b j early ∙ body-rest new_kind p b j (leb-false j (2 * count_at p.choice p.n p.a b) e)

-- laying out keeps the length
pub length-laid : (choice n a : ℕ) (s : List ℕ) → length (laid_down choice n a s) ≡ length s
length-laid choice n a s =
    length-puts (λ b. 128 * b) (opening_word choice n a) (blocks_of n a) (filled 0 (512 * blocks_of n a) s) ∙ length-written (λ i. 0) (512 * blocks_of n a) s

module _ (p : Plan) (s : List ℕ) (places : size_of p.n p.a ≤ length s) where
  -- the words that each step puts among those before it
  abbrev opened : ℕ → ℕ
  opened = after (λ b. 128 * b) (opening_word p.choice p.n p.a) (blocks_of p.n p.a) (λ w. 0)

  abbrev headed : ℕ → ℕ
  headed = after (λ r. 1 + r) (header_word (header_in p)) (2 * header_count p.choice) opened

  abbrev labelled : ℕ → ℕ
  labelled = after (record_at 1) (vertex_word p) (2 * p.n) headed

  abbrev joined : ℕ → ℕ
  joined = after (record_at (1 + blocks_for p.n)) (arc_word p) (2 * p.a) labelled

  -- the file before its blocks are sealed
  abbrev unsealed : List ℕ
  unsealed =
      put_records (1 + blocks_for p.n) (arc_word p) p.a
      (put_records 1 (vertex_word p) p.n
      (put_header (header_in p)
      (laid_down p.choice p.n p.a s)))

  unsealed-is : unsealed ≡ over (bytes (128 * blocks_of p.n p.a) joined) s
  unfolding size_of blocks_of blocks_for
  unsealed-is =
      let words = 128 * blocks_of p.n p.a in
      let fits : 4 * words ≤ length s = omega arith in
      let four : 512 * blocks_of p.n p.a ≡ 4 * words = omega arith in
      let vertices = blocks_for p.n in
      ap (λ (m : ℕ). put_records (1 + vertices) (arc_word p) p.a (put_records 1 (vertex_word p) p.n (put_header (header_in p) (put_words (λ b. 128 * b) (opening_word p.choice p.n p.a) (blocks_of p.n p.a) (filled 0 m s))))) four
      ∙ ap (λ (t : List ℕ). put_records (1 + vertices) (arc_word p) p.a (put_records 1 (vertex_word p) p.n (put_header (header_in p) (put_words (λ b. 128 * b) (opening_word p.choice p.n p.a) (blocks_of p.n p.a) t)))) (cleared words s fits)
      ∙ ap (λ (t : List ℕ). put_records (1 + vertices) (arc_word p) p.a (put_records 1 (vertex_word p) p.n (put_header (header_in p) t))) (puts-over (λ b. 128 * b) (opening_word p.choice p.n p.a) (λ w. 0) words s fits (blocks_of p.n p.a) (λ b l. omega arith))
      ∙ ap (λ (t : List ℕ). put_records (1 + vertices) (arc_word p) p.a (put_records 1 (vertex_word p) p.n t)) (puts-over (λ r. 1 + r) (header_word (header_in p)) opened words s fits (2 * header_count p.choice) (λ r l. let m = header-most p.choice in omega arith))
      ∙ ap (put_records (1 + vertices) (arc_word p) p.a) (puts-over (record_at 1) (vertex_word p) headed words s fits (2 * p.n) (λ r l. omega arith))
      ∙ puts-over (record_at (1 + vertices)) (arc_word p) labelled words s fits (2 * p.a) (λ r l. omega arith)

  joined_is : (b j : ℕ) → b < blocks_of p.n p.a → j < 127 → joined (128 * b + j) ≡ file_word new_kind p (128 * b + j)
  joined_is b j l m =
      after_is (record_at (1 + blocks_for p.n)) (arc_word p) labelled (file_word new_kind p) (128 * b + j) (2 * p.a) (arc-word p)
      (λ no-arc. after_is (record_at 1) (vertex_word p) headed (file_word new_kind p) (128 * b + j) (2 * p.n) (vertex-word p)
      (λ no_vertex. after_is (λ r. 1 + r) (header_word (header_in p)) opened (file_word new_kind p) (128 * b + j) (2 * header_count p.choice) (header-words new_kind p)
      (λ no_Header. after_is (λ b. 128 * b) (opening_word p.choice p.n p.a) (λ w. 0) (file_word new_kind p) (128 * b + j) (blocks_of p.n p.a) (λ i k. first_word p i)
      (λ no-first. sym (unused-word p b j l m no-first no_Header no_vertex no-arc)))))

  -- a block's last word is chosen by the words that stand before it
  check-is : (b : ℕ) → b < blocks_of p.n p.a → file_word new_kind p (128 * b + 127) ≡ check_word (sum_at new_kind b) (in_block unsealed b)
  unfolding check_word size_of
  check-is b l =
      file-check new_kind p b
      ∙ ap (λ (x : ℕ). (sum_at new_kind b + (wrap - x)) % wrap)
      (sym (sum-wrapped 127 (body_word new_kind p b)) ∙ ap (λ (x : ℕ). x % wrap) (sum-ext 127 (λ j. body_word new_kind p b j % wrap) (in_block unsealed b) (λ j m. sym (read j m))))
    where
      read : (j : ℕ) → j < 127 → in_block unsealed b j ≡ body_word new_kind p b j % wrap
      read j m =
          ap (λ (t : List ℕ). in_block t b j) unsealed-is
          ∙ word_over (128 * blocks_of p.n p.a) joined s (omega arith) (128 * b + j) (omega arith)
          ∙ ap (λ (x : ℕ). x % wrap) (joined_is b j l m ∙ file-body new_kind p b j m)

  -- THE STEPS, in the writer's order
  steps-encode : sealed (blocks_of p.n p.a) unsealed ≡ over (encode new_kind p) s
  unfolding encode size_of
  steps-encode =
      let words = 128 * blocks_of p.n p.a in
      ap (put_words (λ b. 128 * b + 127) check (blocks_of p.n p.a)) unsealed-is
      ∙ puts-over (λ b. 128 * b + 127) check joined words s (omega arith) (blocks_of p.n p.a) (λ b l. omega arith)
      ∙ ap (λ (t : List ℕ). over t s) (bytes-ext words (after (λ b. 128 * b + 127) check (blocks_of p.n p.a) joined) (file_word new_kind p) (λ w l. after_is (λ b. 128 * b + 127) check joined (file_word new_kind p) w (blocks_of p.n p.a) check-is (λ none. kept w l none (eqb (w % 128) 127) refl)))
    where
      check : ℕ → ℕ
      check b = check_word (sum_at new_kind b) (in_block unsealed b)

      kept : (w : ℕ) → w < 128 * blocks_of p.n p.a → ((b : ℕ) → b < blocks_of p.n p.a → w ≡ 128 * b + 127 → ⊥) → (t : Bool) → eqb (w % 128) 127 ≡ t → joined w ≡ file_word new_kind p w
      kept w l none true e = let q = eqb-true (w % 128) 127 e in absurd (none (w / 128) (omega arith) (omega arith))
      kept w l none false e =
          let ne = eqb-false (w % 128) 127 e in
          let q : w ≡ 128 * (w / 128) + w % 128 = omega arith in
          ap joined q ∙ joined_is (w / 128) (w % 128) (omega arith) (omega (arith, ne)) ∙ ap (file_word new_kind p) (sym q)

-- the same of the functions of the writer: what each leaves, and the header and the lists that they are given
pub steps-write : (labels weights starts neighbours arc_weights : List ℕ) (k choice value : ℕ) (each : List ℕ) (header : Header) (s laid headed labelled joined whole : List ℕ)
    → header ≡ record { n = length labels; a = length neighbours; k = k; choice = choice; value = value; each = each }
    → size_of (length labels) (length neighbours) ≤ length s
    → laid ≡ laid_down header.choice header.n header.a s
    → headed ≡ put_header header laid
    → labelled ≡ put_records 1 (vertex_word (plan_with labels weights starts [] [] 0 0 0 [])) (length labels) headed
    → joined ≡ put_records (1 + blocks_for header.n) (arc_word (plan_with [] [] [] neighbours arc_weights 0 0 0 [])) (length neighbours) labelled
    → whole ≡ sealed (blocks_of header.n header.a) joined
    → whole ≡ over (encode new_kind (plan_with labels weights starts neighbours arc_weights k choice value each)) s
unfolding plan_with vertex_word arc_word
steps-write labels weights starts neighbours arc_weights k choice value each header s laid headed labelled joined whole e places el eh ex ej ew =
    rw (ew, ej, ex, eh, el, e) (steps-encode (plan_with labels weights starts neighbours arc_weights k choice value each) s places)

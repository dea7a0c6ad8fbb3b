-- An accepted file is the file of the plan that it holds: each of its words is the plan's. Assumes nothing.
use Rattle.std.proofs.Common.{◌≡◌, ℕ, zero, suc, ◌+◌, ◌-◌, ◌*◌, ◌/◌, ◌%◌, ◌<◌, Bool, true, false, cond, eqb, leb, List, sym, refl, ap, ◌∙◌, ap₂, ⊎_elim, zero-add, arith, eqb-true, leb-false, leb-true}
use borrow.Author.Tests.{eqb-false}
use Rattle.lists.specs.Sum.{sum}
use Rattle.lists.specs.All.{all_from}
use Rattle.lists.proofs.Bools.{and_left, and_right}
use Rattle.lists.proofs.Sums.{sum_more}
use Rattle.lists.proofs.Totals.{sum-ext}
use Rattle.lists.proofs.Alls.{from_at}
use Rattle.lists.proofs.Tables.{table_at}
use Rattle.plan_blocks.specs.Word.{wrap, word}
use Rattle.plan_blocks.specs.Block.{opening, sum_at, checks, laid_out, check_word, blocks_for, blocks_of, held_by, kind_at, count_at}
use Rattle.plan_blocks.specs.Encode.{header_word, vertex_word, arc_word, record_word, body_word, file_word, encode}
use Rattle.plan_blocks.specs.Decode.{in_block, blocks_in, kind_of, vertex_at, arc_at, label_at, degree_at, later_laid, header_at, plan_of}
use Rattle.plan_blocks.proofs.WordLaws.{Bytes, word_below, bytes-ext, bytes_word}
use Rattle.plan_blocks.proofs.Places.{sum_fits, position-fits, held_in, three-records, header-most, count_most, placed, halves, file-body, file-check, body-record, body-rest, vertex-block, arc-block, vertex-record, arc-record, by_kind}
use Rattle.plan_blocks.proofs.Accepts.{Accepted, in-range, checked-sum}

-- a block that is laid out: its first word, and its unused places
module _ (file kind count : ℕ) (w : ℕ → ℕ) (h : laid_out file kind count w ≡ true) where
  pub laid-first : w 0 ≡ opening file kind count
  unfolding laid_out
  laid-first = eqb-true (w 0) (opening file kind count) (and_left (eqb (w 0) (opening file kind count)) (all_from (1 + 2 * count) 127 (λ i. eqb (w i) 0)) h)

  pub laid-rest : (j : ℕ) → 2 * count < j → j < 127 → w j ≡ 0
  unfolding laid_out
  laid-rest j l m = eqb-true (w j) 0 (from_at (1 + 2 * count) 127 (λ i. eqb (w i) 0) j (and_right (eqb (w 0) (opening file kind count)) (all_from (1 + 2 * count) 127 (λ i. eqb (w i) 0)) h) (omega arith) m)

-- the word that brings a sum to what it must be is the one that checks
check-is : (s x must : ℕ) → x < wrap → must < wrap → (s + x) % wrap ≡ must → (must + (wrap - s % wrap)) % wrap ≡ x
check-is s x must l m e = omega arith

module _ (s : List ℕ) (h : Bytes s) where
  -- the words of the header's records, of eleven as of three
  header-word : (r : ℕ) → r < 22 → header_word (header_at s) r ≡ word s (r + 1)
  unfolding header_word
  header-word zero l = refl
  header-word (suc zero) l = refl
  header-word (suc (suc zero)) l = refl
  header-word (suc (suc (suc zero))) l = refl
  header-word (suc (suc (suc (suc zero)))) l = let b = word_below s h 5 in omega arith
  header-word (suc (suc (suc (suc (suc zero))))) l = let b = word_below s h 5 in omega arith
  header-word (suc (suc (suc (suc (suc (suc t)))))) l =
      let q : 7 + t ≡ suc (suc (suc (suc (suc (suc t))))) + 1 = omega arith in
      table_at 16 t 0 (λ u. word s (7 + u)) (omega arith) ∙ ap (word s) q

  -- the words of the vertices' records
  vertex-word : (r : ℕ) → r / 2 < word s 1 → vertex_word (plan_of s) r ≡ word s (vertex_at (r / 2) + r % 2)
  unfolding vertex_word plan_of
  vertex-word r l =
      let v = r / 2 in
      let f : ℕ → ℕ = λ t. word s (vertex_at v + t) in
      let z : vertex_at v + 0 ≡ vertex_at v = omega arith in
      let x = word s (vertex_at v + 1) in
      let e : label_at s v + 65536 * degree_at s v ≡ x = omega arith in
      ap₂ (λ (x y : ℕ). cond (eqb (r % 2) 0) x y)
      (table_at (word s 1) v 0 (λ u. word s (vertex_at u)) l ∙ ap (word s) (sym z))
      (ap₂ (λ (x y : ℕ). x + 65536 * y) (table_at (word s 1) v 0 (label_at s) l) (table_at (word s 1) v 0 (degree_at s) l) ∙ e)
      ∙ halves r f

  -- the words of the arcs' records
  arc-word : (r : ℕ) → r / 2 < word s 2 → arc_word (plan_of s) r ≡ word s (arc_at (word s 1) (r / 2) + r % 2)
  unfolding arc_word plan_of
  arc-word r l =
      let e = r / 2 in
      let f : ℕ → ℕ = λ t. word s (arc_at (word s 1) e + t) in
      let z : arc_at (word s 1) e + 0 ≡ arc_at (word s 1) e = omega arith in
      ap₂ (λ (x y : ℕ). cond (eqb (r % 2) 0) x y)
      (table_at (word s 2) e 0 (λ u. word s (arc_at (word s 1) u)) l ∙ ap (word s) (sym z))
      (table_at (word s 2) e 0 (λ u. word s (arc_at (word s 1) u + 1)) l)
      ∙ halves r f

module _ (s : List ℕ) (h : Bytes s) (g : Accepted s (kind_of s) (header_at s)) where
  -- every block is laid out
  pub laid : (b : ℕ) → b < blocks_of (word s 1) (word s 2) → laid_out (kind_of s) (kind_at (word s 1) b) (count_at (word s 4) (word s 1) (word s 2) b) (in_block s b) ≡ true
  unfolding later_laid kind_at count_at
  laid zero l = g.header
  laid (suc b) l =
      from_at 1 (blocks_in s) (λ b. laid_out (kind_of s) (kind_at (word s 1) b) (count_at (word s 4) (word s 1) (word s 2) b) (in_block s b)) (suc b) g.later (omega arith) (let z = g.sized in omega arith)

  -- "Unused places are zero": the numbers by part, where the choice does not use them
  pub each-unused : (word s 4 ≡ 3 → ⊥) → (t : ℕ) → t < 16 → word s (7 + t) ≡ 0
  each-unused other t l =
      let three : laid_out (kind_of s) 1 3 (in_block s 0) ≡ true = rw (three-records (word s 4) other) at g.header in
      let z : 128 * 0 + (7 + t) ≡ 7 + t = omega arith in
      rw z at (laid-rest (kind_of s) 1 3 (in_block s 0) three (7 + t) (omega arith) (omega arith))

  first-record : (r : ℕ) → r < 2 * count_at (word s 4) (word s 1) (word s 2) 0 → record_word (plan_of s) 0 r ≡ word s (128 * 0 + (r + 1))
  unfolding record_word count_at plan_of
  first-record r m = header-word s h r (let c = header-most (word s 4) in omega arith) ∙ ap (word s) (sym (zero-add (r + 1)))

  opens : (b : ℕ) → b < blocks_of (word s 1) (word s 2) → body_word (kind_of s) (plan_of s) b 0 ≡ word s (128 * b + 0)
  unfolding body_word plan_of
  opens b l = sym (laid-first (kind_of s) _ _ (in_block s b) (laid b l))

  -- the words of a block's records
  same-record : (b r : ℕ) → b < blocks_of (word s 1) (word s 2) → r < 2 * count_at (word s 4) (word s 1) (word s 2) b → record_word (plan_of s) b r ≡ word s (128 * b + (r + 1))
  unfolding plan_of
  same-record zero r l m = first-record r m
  same-record (suc b) r l m =
      ⊎_elim
      (λ w. vertices w.0 w.1 w.2 m)
      (λ w. arcs w.0 w.1 w.2 m)
      (by_kind (word s 1) (word s 2) (suc b) (omega arith) l)
    where
      n : ℕ
      n = word s 1

      a : ℕ
      a = word s 2

      vertices : (i : ℕ) → i < blocks_for n → suc b ≡ 1 + i → r < 2 * count_at (word s 4) n a (suc b) → record_word (plan_of s) (suc b) r ≡ word s (128 * suc b + (r + 1))
      vertices i k e m =
          let c : count_at (word s 4) n a (suc b) ≡ held_by n i = ap (count_at (word s 4) n a) e ∙ vertex-block (word s 4) n a i k in
          let q = held_in n i (r / 2) (omega arith) in
          let u = count_most (word s 4) n a (suc b) in
          let o : vertex_at ((126 * i + r) / 2) + (126 * i + r) % 2 ≡ 128 * suc b + (r + 1) = placed 1 i r (omega arith) ∙ ap (λ (x : ℕ). 128 * x + (r + 1)) (sym e) in
          ap (λ (x : ℕ). record_word (plan_of s) x r) e
          ∙ vertex-record (plan_of s) i r k
          ∙ vertex-word s h (126 * i + r) (omega arith)
          ∙ ap (word s) o

      arcs : (i : ℕ) → i < blocks_for a → suc b ≡ 1 + blocks_for n + i → r < 2 * count_at (word s 4) n a (suc b) → record_word (plan_of s) (suc b) r ≡ word s (128 * suc b + (r + 1))
      arcs i k e m =
          let c : count_at (word s 4) n a (suc b) ≡ held_by a i = ap (count_at (word s 4) n a) e ∙ arc-block (word s 4) n a i in
          let q = held_in a i (r / 2) (omega arith) in
          let u = count_most (word s 4) n a (suc b) in
          let o : arc_at n ((126 * i + r) / 2) + (126 * i + r) % 2 ≡ 128 * suc b + (r + 1) = placed (1 + blocks_for n) i r (omega arith) ∙ ap (λ (x : ℕ). 128 * x + (r + 1)) (sym e) in
          ap (λ (x : ℕ). record_word (plan_of s) x r) e
          ∙ arc-record (plan_of s) i r
          ∙ arc-word s h (126 * i + r) (omega arith)
          ∙ ap (word s) o

  -- the words of a block but its check
  same_body : (b j : ℕ) → b < blocks_of (word s 1) (word s 2) → j < 127 → body_word (kind_of s) (plan_of s) b j ≡ word s (128 * b + j)
  unfolding plan_of
  same_body b zero l m = opens b l
  same_body b (suc j) l m = go (leb (suc j) (2 * count_at (word s 4) (word s 1) (word s 2) b)) refl
    where
      go : (t : Bool) → leb (suc j) (2 * count_at (word s 4) (word s 1) (word s 2) b) ≡ t → body_word (kind_of s) (plan_of s) b (suc j) ≡ word s (128 * b + suc j)
      go true e =
          let k = leb-true (suc j) (2 * count_at (word s 4) (word s 1) (word s 2) b) e in
          let q : suc j - 1 ≡ j = omega arith in
          let o : j + 1 ≡ suc j = omega arith in
          body-record (kind_of s) (plan_of s) b (suc j) (omega arith) k
          ∙ ap (record_word (plan_of s) b) q
          ∙ same-record b j l (omega arith)
          ∙ ap (λ (x : ℕ). word s (128 * b + x)) o
      go false e =
          let k = leb-false (suc j) (2 * count_at (word s 4) (word s 1) (word s 2) b) e in
          body-rest (kind_of s) (plan_of s) b (suc j) k ∙ sym (laid-rest (kind_of s) _ _ (in_block s b) (laid b l) (suc j) k m)

  -- its check
  same_check : (b : ℕ) → b < blocks_of (word s 1) (word s 2) → check_word (sum_at (kind_of s) b) (body_word (kind_of s) (plan_of s) b) ≡ word s (128 * b + 127)
  unfolding check_word checks
  same_check b l =
      let i = in-range (word s 1) (word s 2) (word s 3) g.ranged in
      let e : sum 127 (body_word (kind_of s) (plan_of s) b) ≡ sum 127 (in_block s b) = sum-ext 127 (body_word (kind_of s) (plan_of s) b) (in_block s b) (λ j m. same_body b j l m) in
      let c = checked-sum s _ _ b g (let z = g.sized in omega arith) in
      let d : (sum 127 (in_block s b) + word s (128 * b + 127)) % wrap ≡ sum_at (kind_of s) b = ap (λ (x : ℕ). x % wrap) (sym (sum_more 127 (in_block s b))) ∙ c in
      rw e (check-is (sum 127 (in_block s b)) (word s (128 * b + 127)) (sum_at (kind_of s) b) (word_below s h (128 * b + 127)) (sum_fits (kind_of s) b (position-fits (word s 1) (word s 2) b i.few i.few_arcs l)) d)

  same_word : (w : ℕ) → w < 128 * blocks_of (word s 1) (word s 2) → file_word (kind_of s) (plan_of s) w ≡ word s w
  same_word w l = go (eqb (w % 128) 127) refl
    where
      q : 128 * (w / 128) + w % 128 ≡ w
      q = omega arith

      go : (t : Bool) → eqb (w % 128) 127 ≡ t → file_word (kind_of s) (plan_of s) w ≡ word s w
      go true e =
          let k = eqb-true (w % 128) 127 e in
          let r : 128 * (w / 128) + 127 ≡ w = omega arith in
          ap (file_word (kind_of s) (plan_of s)) (sym r) ∙ file-check (kind_of s) (plan_of s) (w / 128) ∙ same_check (w / 128) (omega arith) ∙ ap (word s) r
      go false e =
          let k = eqb-false (w % 128) 127 e in
          ap (file_word (kind_of s) (plan_of s)) (sym q) ∙ file-body (kind_of s) (plan_of s) (w / 128) (w % 128) (omega (arith, k)) ∙ same_body (w / 128) (w % 128) (omega arith) (omega (arith, k)) ∙ ap (word s) q

  pub same_bytes : encode (kind_of s) (plan_of s) ≡ s
  unfolding encode plan_of
  same_bytes =
      bytes-ext (128 * blocks_of (word s 1) (word s 2)) (file_word (kind_of s) (plan_of s)) (word s) same_word
      ∙ bytes_word s (128 * blocks_of (word s 1) (word s 2)) h (let z = g.sized in omega arith)

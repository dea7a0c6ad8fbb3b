-- Where the words of a plan's file stand: a block's opening, records, unused places and check. Assumes nothing.
use Rattle.std.proofs.Common.{◌≡◌, ℕ, zero, suc, ◌+◌, ◌-◌, ◌*◌, ◌/◌, ◌%◌, ◌<◌, ◌≤◌, Bool, true, false, cond, eqb, ltb, leb, ◌⊎◌, get_or, refl, ap, ◌∙◌, inl, inr, mod-lt, arith, ltb-false, ltb-true, ne_eqb, le-leb, leb-false, leb-true}
use borrow.Author.Tests.{lt-leb}
use Rattle.imbalance.specs.Limit.{most_vertices, most_arcs}
use Rattle.plan_blocks.specs.declared.header.Header.{Header}
use Rattle.plan_blocks.specs.Word.{wrap, byte_of}
use Rattle.plan_blocks.specs.Block.{new_kind, opening, sum_at, check_word, blocks_for, blocks_of, held_by, header_count, kind_at, count_at}
use Rattle.plan_blocks.specs.Plan.{Plan, header_in}
use Rattle.plan_blocks.specs.Encode.{header_word, vertex_word, arc_word, record_word, body_word, file_word}
use Rattle.plan_blocks.specs.Decode.{vertex_at, arc_at}

-- the sum that a block must have is a word where its position is one
pub sum_fits : (file b : ℕ) → b < wrap → sum_at file b < wrap
unfolding sum_at
sum_fits file b l = go (eqb file 0)
  where
    go : (t : Bool) → cond t 0 b < wrap
    go true = omega arith
    go false = l

-- the second byte of a block's first word is the file's kind
pub second-byte : (file kind count : ℕ) → kind < 256 → file < 256 → byte_of (opening file kind count) 1 ≡ file
unfolding byte_of
second-byte file kind count l m = omega arith

-- the sum that a block of a new file must have is its position
pub new-sum : (file b : ℕ) → file ≡ new_kind → sum_at file b ≡ b
unfolding sum_at
new-sum file b e = rw e

-- a block's position is a word: the largest plan there is has 1,108 blocks
pub position-fits : (n a b : ℕ) → n ≤ most_vertices → a ≤ most_arcs → b < blocks_of n a → b < wrap
unfolding blocks_of blocks_for
position-fits n a b few few_arcs l = omega arith

-- the records that a block of a later kind holds: at most 63, and record j of block i is one of them where it is one of all
pub held-most : (m i : ℕ) → held_by m i ≤ 63
unfolding held_by
held-most m i = go (ltb 63 (m - 63 * i)) refl
  where
    go : (t : Bool) → ltb 63 (m - 63 * i) ≡ t → cond t 63 (m - 63 * i) ≤ 63
    go true e = omega arith
    go false e = ltb-false 63 (m - 63 * i) e

pub held_at : (m i j : ℕ) → 63 * i + j < m → j < 63 → j < held_by m i
unfolding held_by
held_at m i j l k = go (ltb 63 (m - 63 * i))
  where
    go : (t : Bool) → j < cond t 63 (m - 63 * i)
    go true = k
    go false = omega arith

pub held_in : (m i j : ℕ) → j < held_by m i → 63 * i + j < m
unfolding held_by
held_in m i j = go (ltb 63 (m - 63 * i)) refl
  where
    go : (t : Bool) → ltb 63 (m - 63 * i) ≡ t → j < cond t 63 (m - 63 * i) → 63 * i + j < m
    go true e l = let g = ltb-true 63 (m - 63 * i) e in omega arith
    go false e l = omega arith

-- the records that a choice asks for
pub eleven-records : (choice : ℕ) → choice ≡ 3 → header_count choice ≡ 11
unfolding header_count
eleven-records choice e = rw e

pub three-records : (choice : ℕ) → (choice ≡ 3 → ⊥) → header_count choice ≡ 3
unfolding header_count
three-records choice other = rw (ne_eqb choice 3 other)

-- so three at least, and eleven at most
pub header-least : (choice : ℕ) → 3 ≤ header_count choice
unfolding header_count
header-least choice = go (eqb choice 3)
  where
    go : (t : Bool) → 3 ≤ cond t 11 3
    go true = omega arith
    go false = omega arith

pub header-most : (choice : ℕ) → header_count choice ≤ 11
unfolding header_count
header-most choice = go (eqb choice 3)
  where
    go : (t : Bool) → cond t 11 3 ≤ 11
    go true = omega arith
    go false = omega arith

-- a block holds at most 63 records
pub count_most : (choice n a b : ℕ) → count_at choice n a b ≤ 63
unfolding count_at
count_most choice n a b = go (eqb b 0) (leb b (blocks_for n))
  where
    go : (s t : Bool) → cond s (header_count choice) (cond t (held_by n (b - 1)) (held_by a (b - 1 - blocks_for n))) ≤ 63
    go true t = let m = header-most choice in omega arith
    go false true = held-most n (b - 1)
    go false false = held-most a (b - 1 - blocks_for n)

pub kind-most : (n b : ℕ) → kind_at n b ≤ 3
unfolding kind_at
kind-most n b = go (eqb b 0) (leb b (blocks_for n))
  where
    go : (s t : Bool) → cond s 1 (cond t 2 3) ≤ 3
    go true t = omega arith
    go false true = omega arith
    go false false = omega arith

-- word i of the records of block b of a later kind, whose blocks start at `first`, is half of record r / 2, where r is 126 * b + i
pub placed : (first b i : ℕ) → i < 126 → 128 * (first + (126 * b + i) / 2 / 63) + 1 + 2 * ((126 * b + i) / 2 % 63) + (126 * b + i) % 2 ≡ 128 * (first + b) + (i + 1)
placed first b i l = omega arith

-- the half of a record that a word is
pub halves : (r : ℕ) (f : ℕ → ℕ) → cond (eqb (r % 2) 0) (f 0) (f 1) ≡ f (r % 2)
halves r f = go (r % 2) (mod-lt r (omega arith))
  where
    go : (m : ℕ) → m < 2 → cond (eqb m 0) (f 0) (f 1) ≡ f m
    go zero l = refl
    go (suc zero) l = refl
    go (suc (suc m)) l = absurd (omega arith)

module _ (file : ℕ) (p : Plan) where
  -- the words of block b
  pub file-body : (b j : ℕ) → j < 127 → file_word file p (128 * b + j) ≡ body_word file p b j
  unfolding file_word
  file-body b j l =
      let q : (128 * b + j) / 128 ≡ b = omega arith in
      let r : (128 * b + j) % 128 ≡ j = omega arith in
      rw (q, r) (simp (ne_eqb j 127 (λ e. omega arith)))

  pub file-check : (b : ℕ) → file_word file p (128 * b + 127) ≡ check_word (sum_at file b) (body_word file p b)
  unfolding file_word
  file-check b =
      let q : (128 * b + 127) / 128 ≡ b = omega arith in
      let r : (128 * b + 127) % 128 ≡ 127 = omega arith in
      rw (q, r)

  pub body-record : (b j : ℕ) → 0 < j → j ≤ 2 * count_at p.choice p.n p.a b → body_word file p b j ≡ record_word p b (j - 1)
  unfolding body_word
  body-record b j z l = simp (ne_eqb j 0 (λ e. omega arith), le-leb j (2 * count_at p.choice p.n p.a b) l)

  pub body-rest : (b j : ℕ) → 2 * count_at p.choice p.n p.a b < j → body_word file p b j ≡ 0
  unfolding body_word
  body-rest b j l = simp (ne_eqb j 0 (λ e. omega arith), lt-leb j (2 * count_at p.choice p.n p.a b) l)

-- the kinds' blocks, by their place among those of their kind
module _ (choice n a i : ℕ) where
  pub vertex-block : i < blocks_for n → count_at choice n a (1 + i) ≡ held_by n i
  unfolding count_at
  vertex-block l =
      let q : 1 + i - 1 ≡ i = omega arith in
      simp (ne_eqb (1 + i) 0 (λ e. omega arith), le-leb (1 + i) (blocks_for n) (omega arith), q)

  pub arc-block : count_at choice n a (1 + blocks_for n + i) ≡ held_by a i
  unfolding count_at
  arc-block =
      let q : 1 + blocks_for n + i - 1 - blocks_for n ≡ i = omega arith in
      simp (ne_eqb (1 + blocks_for n + i) 0 (λ e. omega arith), lt-leb (1 + blocks_for n + i) (blocks_for n) (omega arith), q)

module _ (p : Plan) (i r : ℕ) where
  pub vertex-record : i < blocks_for p.n → record_word p (1 + i) r ≡ vertex_word p (126 * i + r)
  unfolding record_word
  vertex-record l =
      let q : 1 + i - 1 ≡ i = omega arith in
      simp (ne_eqb (1 + i) 0 (λ e. omega arith), le-leb (1 + i) (blocks_for p.n) (omega arith), q)

  pub arc-record : record_word p (1 + blocks_for p.n + i) r ≡ arc_word p (126 * i + r)
  unfolding record_word
  arc-record =
      let q : 1 + blocks_for p.n + i - 1 - blocks_for p.n ≡ i = omega arith in
      simp (ne_eqb (1 + blocks_for p.n + i) 0 (λ e. omega arith), lt-leb (1 + blocks_for p.n + i) (blocks_for p.n) (omega arith), q)

-- the header's words after its first three records are the numbers by part
pub each_word : (header : Header) (t : ℕ) → header_word header (6 + t) ≡ get_or header.each t 0
unfolding header_word
each_word header t =
    let q : 6 + t ≡ suc (suc (suc (suc (suc (suc t))))) = omega arith in
    rw q

-- the words of the header's records, in the file
pub header-words : (file : ℕ) (p : Plan) (r : ℕ) → r < 2 * header_count p.choice → file_word file p (1 + r) ≡ header_word (header_in p) r
unfolding count_at record_word
header-words file p r l =
    let m = header-most p.choice in
    let z : 1 + r ≡ 128 * 0 + (1 + r) = omega arith in
    let q : 1 + r - 1 ≡ r = omega arith in
    ap (file_word file p) z
    ∙ file-body file p 0 (1 + r) (omega arith)
    ∙ body-record file p 0 (1 + r) (omega arith) (omega arith)
    ∙ ap (header_word (header_in p)) q

-- the two words of a vertex's record and of an arc's, in the file
module _ (file : ℕ) (p : Plan) (t : ℕ) (l : t < 2) where
  pub vertex-words : (v : ℕ) → v < p.n → file_word file p (vertex_at v + t) ≡ vertex_word p (2 * v + t)
  unfolding blocks_for
  vertex-words v h =
      let i = v / 63 in
      let j = 1 + 2 * (v % 63) + t in
      let q : vertex_at v + t ≡ 128 * (1 + i) + j = omega arith in
      let c = held_at p.n i (v % 63) (omega arith) (omega arith) in
      let e = vertex-block p.choice p.n p.a i (omega arith) in
      let r : 126 * i + (j - 1) ≡ 2 * v + t = omega arith in
      ap (file_word file p) q
      ∙ file-body file p (1 + i) j (omega arith)
      ∙ body-record file p (1 + i) j (omega arith) (omega arith)
      ∙ vertex-record p i (j - 1) (omega arith)
      ∙ ap (vertex_word p) r

  pub arc-words : (e : ℕ) → e < p.a → file_word file p (arc_at p.n e + t) ≡ arc_word p (2 * e + t)
  arc-words e h =
      let i = e / 63 in
      let j = 1 + 2 * (e % 63) + t in
      let b = 1 + blocks_for p.n + i in
      let q : arc_at p.n e + t ≡ 128 * b + j = omega arith in
      let c = held_at p.a i (e % 63) (omega arith) (omega arith) in
      let g = arc-block p.choice p.n p.a i in
      let r : 126 * i + (j - 1) ≡ 2 * e + t = omega arith in
      ap (file_word file p) q
      ∙ file-body file p b j (omega arith)
      ∙ body-record file p b j (omega arith) (omega arith)
      ∙ arc-record p i (j - 1)
      ∙ ap (arc_word p) r

-- each block after the first is one of the vertices' or one of the arcs'
pub by_kind : (n a b : ℕ) → 0 < b → b < blocks_of n a → ((i : ℕ) × (i < blocks_for n) × (b ≡ 1 + i)) ⊎ ((i : ℕ) × (i < blocks_for a) × (b ≡ 1 + blocks_for n + i))
unfolding blocks_of
by_kind n a b z l = go (leb b (blocks_for n)) refl
  where
    go : (t : Bool) → leb b (blocks_for n) ≡ t → ((i : ℕ) × (i < blocks_for n) × (b ≡ 1 + i)) ⊎ ((i : ℕ) × (i < blocks_for a) × (b ≡ 1 + blocks_for n + i))
    go true e = let h = leb-true b (blocks_for n) e in inl (b - 1, omega arith, omega arith)
    go false e = let h = leb-false b (blocks_for n) e in inr (b - 1 - blocks_for n, omega arith, omega arith)

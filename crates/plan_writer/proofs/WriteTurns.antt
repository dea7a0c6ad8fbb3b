-- What a turn of each of the writer's loops puts, a block's first word, a record's two words, a block's last word, and what all turns leave. Assumes nothing.
use Rattle.std.proofs.Common.{◌≡◌, ℕ, ◌+◌, ◌-◌, ◌*◌, ◌/◌, ◌%◌, ◌<◌, List, [], ◌∷◌, length, get_or, sym, refl, ap, ◌∙◌, ap₂, arith}
use Rattle.lists.specs.Sum.{sum}
use Rattle.lists.proofs.Totals.{sum-ext}
use Rattle.lists.proofs.Tables.{table_at}
use Rattle.plan_blocks.specs.declared.header.Header.{Header}
use Rattle.plan_blocks.specs.Word.{wrap, word}
use Rattle.plan_blocks.specs.Block.{new_kind, opening, sum_at, check_word, blocks_of, kind_at, count_at}
use Rattle.plan_blocks.specs.Encode.{header_word, vertex_word, arc_word}
use Rattle.plan_blocks.specs.Decode.{in_block}
use Rattle.plan_blocks.proofs.Places.{eleven-records, three-records, each_word}
use Rattle.plan_writer.specs.Write.{plan_with}
use Rattle.plan_writer.specs.inner.Writing.{put_words, opening_word, put_header, sealed}
use Rattle.plan_writer.proofs.Puts.{puts_then, word_kept}

pub first_word : (choice n a b kind count x : ℕ) → kind ≡ kind_at n b → count ≡ count_at choice n a b → x ≡ kind + 256 + 65536 * count → x ≡ opening_word choice n a b
first_word choice n a b kind count x ek ec e =
    let o : kind + 256 + 65536 * count ≡ opening new_kind kind count = omega arith in
    e ∙ o ∙ ap₂ (opening new_kind) ek ec

-- the header's first three records, which are all that a choice other than 3 asks for; with choice 3 the numbers by part follow
module _ (header : Header) (s first : List ℕ) (low high : ℕ) (el : low ≡ header.value % wrap) (eh : high ≡ header.value / wrap)
    (put : first ≡ put_words (λ i. 1 + i) (λ i. get_or (header.n ∷ header.a ∷ header.k ∷ header.choice ∷ low ∷ high ∷ []) i 0) 6 s) where
  six-words : first ≡ put_words (λ r. 1 + r) (header_word header) 6 s
  unfolding put_words header_word
  six-words = put ∙ rw (el, eh) refl

  pub three-put : (header.choice ≡ 3 → ⊥) → first ≡ put_header header s
  three-put other = rw (three-records header.choice other) six-words

  pub eleven-put : header.choice ≡ 3 → length header.each ≡ 16 → (whole : List ℕ) → whole ≡ put_words (λ t. 7 + t) (λ t. get_or header.each t 0) (length header.each) first → whole ≡ put_header header s
  eleven-put new long whole laid =
      rw (eleven-records header.choice new)
      ((rw long at laid) ∙ ap (put_words (λ t. 7 + t) (λ t. get_or header.each t 0) 16) six-words ∙ puts_then (λ r. 1 + r) (header_word header) (λ t. 7 + t) (λ t. get_or header.each t 0) 6 16 s (λ t l. omega arith) (λ t l. sym (each_word header t)))

-- the two words of vertex v's record
module _ (labels weights starts : List ℕ) (v x : ℕ) where
  pub weight-word : x ≡ get_or weights v 0 → x ≡ vertex_word (plan_with labels weights starts [] [] 0 0 0 []) (2 * v)
  unfolding vertex_word plan_with
  weight-word e =
      let even : 2 * v % 2 ≡ 0 = omega arith in
      let half : 2 * v / 2 ≡ v = omega arith in
      e ∙ sym (simp (even, half))

  pub label-word : v < length labels → x ≡ get_or labels v 0 + 65536 * (get_or starts (v + 1) 0 - get_or starts v 0) → x ≡ vertex_word (plan_with labels weights starts [] [] 0 0 0 []) (2 * v + 1)
  unfolding vertex_word plan_with
  label-word l e =
      let odd : (2 * v + 1) % 2 ≡ 1 = omega arith in
      let half : (2 * v + 1) / 2 ≡ v = omega arith in
      e ∙ sym (simp (odd, half, table_at (length labels) v 0 (λ v. get_or starts (v + 1) 0 - get_or starts v 0) l))

-- the two words of arc e's record
module _ (neighbours arc_weights : List ℕ) (e x : ℕ) where
  pub neighbour-word : x ≡ get_or neighbours e 0 → x ≡ arc_word (plan_with [] [] [] neighbours arc_weights 0 0 0 []) (2 * e)
  unfolding arc_word plan_with
  neighbour-word h =
      let even : 2 * e % 2 ≡ 0 = omega arith in
      let half : 2 * e / 2 ≡ e = omega arith in
      h ∙ sym (simp (even, half))

  pub arc-weight-word : x ≡ get_or arc_weights e 0 → x ≡ arc_word (plan_with [] [] [] neighbours arc_weights 0 0 0 []) (2 * e + 1)
  unfolding arc_word plan_with
  arc-weight-word h =
      let odd : (2 * e + 1) % 2 ≡ 1 = omega arith in
      let half : (2 * e + 1) / 2 ≡ e = omega arith in
      h ∙ sym (simp (odd, half))

-- the word that brings a block's sum to its position, wrapping: the last words of the blocks before it change none of its own
pub last_word : (check : ℕ → ℕ) (s₀ s : List ℕ) (b x t : ℕ) → s ≡ put_words (λ b. 128 * b + 127) check b s₀ → t ≡ sum 127 (λ j. word s (128 * b + j)) % wrap → x < wrap → (x + t) % wrap ≡ b → x ≡ check_word (sum_at new_kind b) (in_block s₀ b)
unfolding check_word sum_at
last_word check s₀ s b x t put e l z =
    let same : sum 127 (λ j. word s (128 * b + j)) ≡ sum 127 (in_block s₀ b) = sum-ext 127 (λ j. word s (128 * b + j)) (in_block s₀ b) (λ j m. ap (λ (k : List ℕ). word k (128 * b + j)) put ∙ word_kept (λ b. 128 * b + 127) check b s₀ (128 * b + j) (λ i k q. omega arith)) in
    let u : t ≡ sum 127 (in_block s₀ b) % wrap = e ∙ ap (λ (y : ℕ). y % wrap) same in
    omega arith

pub all-sealed : (n a blocks : ℕ) (s₀ s : List ℕ) → blocks ≡ blocks_of n a → s ≡ sealed blocks s₀ → s ≡ sealed (blocks_of n a) s₀
all-sealed n a blocks s₀ s eb e = rw eb at e

-- An accepted file with one word changed is refused with 10, or with 11 where its kind is now above 1: the sum of the word's block changes, and by less than a whole turn. Assumes nothing.
use Rattle.std.proofs.Common.{◌≡◌, ℕ, ◌+◌, ◌*◌, ◌/◌, ◌%◌, ◌<◌, Bool, true, false, cond, eqb, ltb, List, length, get_or, sym, refl, ap, ◌∙◌, arith, ltb-false, ltb-true, ne_eqb, eqb-true}
use borrow.Author.Tests.{eqb-false}
use Rattle.lists.specs.Sum.{sum}
use Rattle.lists.proofs.Totals.{sum-change}
use Rattle.plan_blocks.specs.Word.{wrap, word}
use Rattle.plan_blocks.specs.Block.{sum_at, checks, blocks_of}
use Rattle.plan_blocks.specs.Decode.{in_block, kind_of, bad_kind, file_number}
use Rattle.plan_blocks.proofs.WordLaws.{Bytes, word_below, bytes-ext, bytes_word}
use Rattle.plan_blocks.proofs.Accepts.{accepts, same-length-good, unchecked-refused, checked-sum}

-- two sums that differ in one part, equal when wrapped, do not differ
no_change : (s t x y must : ℕ) → x < wrap → y < wrap → s + y ≡ t + x → s % wrap ≡ must → t % wrap ≡ must → x ≡ y
no_change s t x y must l m e p q = omega arith

-- the first block's position is 0, so that both kinds ask the same sum of it
first-sum : (file : ℕ) → sum_at file 0 ≡ 0
unfolding sum_at
first-sum file = go (eqb file 0)
  where
    go : (t : Bool) → ◌≡◌ {A = ℕ} (cond t 0 0) 0
    go true = refl
    go false = refl

-- s' is s but for its word w
module _ (s s' : List ℕ) (w : ℕ) (h : Bytes s) (h' : Bytes s') (long : length s' ≡ length s) (rest : (i : ℕ) → (i / 4 ≡ w → ⊥) → get_or s' i 0 ≡ get_or s i 0) (differ : s' ≡ s → ⊥) (g : file_number s ≡ 0) where
  other : (x : ℕ) → (w ≡ x → ⊥) → word s' x ≡ word s x
  unfolding word
  other x ne =
      let a = rest (4 * x) (λ e. ne (omega arith)) in
      let b = rest (4 * x + 1) (λ e. ne (omega arith)) in
      let c = rest (4 * x + 2) (λ e. ne (omega arith)) in
      let d = rest (4 * x + 3) (λ e. ne (omega arith)) in
      rw (a, b, c, d)

  -- the file's words
  words : ℕ
  words = 128 * blocks_of (word s 1) (word s 2)

  same-file : ((x : ℕ) → x < words → word s' x ≡ word s x) → s' ≡ s
  unfolding words
  same-file e =
      let z = (accepts s g).sized in
      sym (bytes_word s' words h' (omega arith)) ∙ bytes-ext words (word s') (word s) e ∙ bytes_word s words h (omega arith)

  inside : w < words
  inside = go (ltb w words) refl
    where
      go : (t : Bool) → ltb w words ≡ t → w < words
      go true e = ltb-true w words e
      go false e = let k = ltb-false w words e in absurd (differ (same-file (λ x l. other x (λ q. omega arith))))

  changed : word s' w ≡ word s w → ⊥
  changed e = differ (same-file (λ x l. go x (eqb w x) refl))
    where
      go : (x : ℕ) (t : Bool) → eqb w x ≡ t → word s' x ≡ word s x
      go x true q = rw (← eqb-true w x q) e
      go x false q = other x (eqb-false w x q)

  -- the sum that the block must have is what it was: the kind stands in the first word
  same_sum : sum_at (kind_of s') (w / 128) ≡ sum_at (kind_of s) (w / 128)
  same_sum = go (eqb w 0) refl
    where
      go : (t : Bool) → eqb w 0 ≡ t → sum_at (kind_of s') (w / 128) ≡ sum_at (kind_of s) (w / 128)
      go true e =
          let z : w / 128 ≡ 0 = (let q = eqb-true w 0 e in omega arith) in
          rw z (first-sum (kind_of s') ∙ sym (first-sum (kind_of s)))
      go false e = ap (λ (x : ℕ). sum_at x (w / 128)) (rest 1 (λ q. eqb-false w 0 e (sym q)))

  unchecked : checks (sum_at (kind_of s') (w / 128)) (in_block s' (w / 128)) ≡ false
  unfolding checks words
  unchecked =
      let b = w / 128 in
      let j = w % 128 in
      let at : 128 * b + j ≡ w = omega arith in
      let z = (accepts s g).sized in
      let i = inside in
      let must = sum_at (kind_of s') b in
      let was : sum 128 (in_block s b) % wrap ≡ must = checked-sum s _ _ b (accepts s g) (omega arith) ∙ sym same_sum in
      let e = sum-change 128 j (in_block s' b) (in_block s b) (omega arith) (λ x ne. other (128 * b + x) (λ q. ne (omega arith))) in
      let x : in_block s' b j ≡ word s' w = ap (word s') at in
      let y : in_block s b j ≡ word s w = ap (word s) at in
      ne_eqb (sum 128 (in_block s' b) % wrap) must (λ now. changed (no_change (sum 128 (in_block s' b)) (sum 128 (in_block s b)) (word s' w) (word s w) must (word_below s' h' w) (word_below s h w) (omega arith) now was))

  pub refused-changed : file_number s' ≡ cond (bad_kind s') 11 10
  unfolding words
  refused-changed =
      let z = (accepts s g).sized in
      let i = inside in
      unchecked-refused s' (w / 128) (same-length-good s s' long g) (omega arith) unchecked

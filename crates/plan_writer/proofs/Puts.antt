-- Words put at their places one after another: a turn of the writer's loops, what is kept, and the words that a file then begins with. Assumes nothing.
use Rattle.std.proofs.Common.{◌≡◌, ℕ, zero, suc, ◌+◌, ◌*◌, ◌/◌, ◌%◌, ◌<◌, ◌≤◌, Bool, true, false, cond, eqb, List, length, sym, refl, ap, ◌∙◌, add-one, arith, eq-eqb, ne_eqb, eqb-true}
use borrow.Author.Tests.{eqb-false}
use Rattle.lists.specs.Fill.{over}
use Rattle.plan_blocks.specs.Word.{word, put_word, bytes}
use Rattle.plan_blocks.proofs.WordLaws.{length-put, put-word-other, put-over}
use Rattle.plan_writer.specs.inner.Writing.{put_words, record_at}

module _ (at x : ℕ → ℕ) where
  pub length-puts : (m : ℕ) (s : List ℕ) → length (put_words at x m s) ≡ length s
  unfolding put_words
  length-puts zero s = refl
  length-puts (suc m) s = length-put (put_words at x m s) (at m) (x m) ∙ length-puts m s

  puts-more : (m : ℕ) (s : List ℕ) → put_words at x (m + 1) s ≡ put_word (put_words at x m s) (at m) (x m)
  unfolding put_words
  puts-more m s = rw (add-one m)

  -- a word at another place is kept
  pub word_kept : (m : ℕ) (s : List ℕ) (w : ℕ) → ((i : ℕ) → i < m → w ≡ at i → ⊥) → word (put_words at x m s) w ≡ word s w
  unfolding put_words
  word_kept zero s w h = refl
  word_kept (suc m) s w h =
      put-word-other (put_words at x m s) (at m) (x m) w (h m (omega arith)) ∙ word_kept m s w (λ i l. h i (omega arith))

-- words that are put after others, at the places that come next, are a longer run of them
pub puts_then : (at x at' x' : ℕ → ℕ) (m n : ℕ) (s : List ℕ) → ((i : ℕ) → i < n → at' i ≡ at (m + i)) → ((i : ℕ) → i < n → x' i ≡ x (m + i)) → put_words at' x' n (put_words at x m s) ≡ put_words at x (m + n) s
unfolding put_words
puts_then at x at' x' m zero s ea ex = ap (λ (k : ℕ). put_words at x k s) (let e : m ≡ m + 0 = omega arith in e)
puts_then at x at' x' m (suc n) s ea ex =
    let e : m + suc n ≡ suc (m + n) = omega arith in
    rw (e, puts_then at x at' x' m n s (λ i l. ea i (omega arith)) (λ i l. ex i (omega arith)), ea n (omega arith), ex n (omega arith))

-- the first i of `most` words are put
pub record PutTo (at x : ℕ → ℕ) (most : ℕ) (s₀ s : List ℕ) (i : ℕ) : Type 0 where
  pub within : i ≤ most
  pub put : s ≡ put_words at x i s₀
  pub long : length s ≡ length s₀

module _ (at x : ℕ → ℕ) (most : ℕ) (s₀ : List ℕ) where
  pub put-none : PutTo at x most s₀ s₀ 0
  unfolding put_words
  put-none = record { within = omega arith; put = refl; long = refl }

  pub put-more : (s next : List ℕ) (i w y : ℕ) → PutTo at x most s₀ s i → i < most → w ≡ at i → y ≡ x i → next ≡ put_word s w y → PutTo at x most s₀ next (i + 1)
  put-more s next i w y h l ew ey e =
      record {
        within = omega arith;
        put = e ∙ rw (ew, ey, h.put) (sym (puts-more at x i s₀));
        long = ap length e ∙ length-put s w y ∙ h.long;
      }

  pub put_all : (s : List ℕ) (i : ℕ) → PutTo at x most s₀ s i → i ≡ most → s ≡ put_words at x most s₀
  put_all s i h e = rw e at h.put

-- a record of two words
pub put_record : (first : ℕ) (x : ℕ → ℕ) (records : ℕ) (s₀ s between next : List ℕ) (i w y z : ℕ) → PutTo (record_at first) x (2 * records) s₀ s (2 * i) → i < records
    → w ≡ 128 * (first + i / 63) + 1 + 2 * (i % 63) → y ≡ x (2 * i) → z ≡ x (2 * i + 1) → between ≡ put_word s w y → next ≡ put_word between (w + 1) z
    → PutTo (record_at first) x (2 * records) s₀ next (2 * (i + 1))
put_record first x records s₀ s between next i w y z h l ew ey ez e f =
    let a : w ≡ record_at first (2 * i) = omega arith in
    let b : w + 1 ≡ record_at first (2 * i + 1) = omega arith in
    let both : 2 * i + 1 + 1 ≡ 2 * (i + 1) = omega arith in
    let one = put-more (record_at first) x (2 * records) s₀ s between (2 * i) w y h (omega arith) a ey e in
    rw both at (put-more (record_at first) x (2 * records) s₀ between next (2 * i + 1) (w + 1) z one (omega arith) b ez f)

-- the words of a file after m words were put at their places
unfoldable pub after : (ℕ → ℕ) → (ℕ → ℕ) → ℕ → (ℕ → ℕ) → ℕ → ℕ
after at x zero f w = f w
after at x (suc m) f w = cond (eqb w (at m)) (x m) (after at x m f w)

module _ (at x f : ℕ → ℕ) where
  -- a file that begins with words begins with those that were put among them
  pub puts-over : (n : ℕ) (s : List ℕ) → 4 * n ≤ length s → (m : ℕ) → ((i : ℕ) → i < m → at i < n) → put_words at x m (over (bytes n f) s) ≡ over (bytes n (after at x m f)) s
  unfolding put_words after
  puts-over n s places zero l = refl
  puts-over n s places (suc m) l =
      ap (λ (t : List ℕ). put_word t (at m) (x m)) (puts-over n s places m (λ i k. l i (omega arith)))
      ∙ put-over n (after at x m f) (after at x (suc m) f) (at m) (x m) s places (l m (omega arith))
      (rw (eq-eqb (at m) (at m) refl))
      (λ v ne. rw (ne_eqb v (at m) ne))

  -- they are the words of g, where g has those that were put, and else those that stood there
  pub after_is : (g : ℕ → ℕ) (w m : ℕ) → ((i : ℕ) → i < m → g (at i) ≡ x i) → (((i : ℕ) → i < m → w ≡ at i → ⊥) → f w ≡ g w) → after at x m f w ≡ g w
  unfolding after
  after_is g w zero put kept = kept (λ i l e. omega arith)
  after_is g w (suc m) put kept =
      go (eqb w (at m)) refl (λ other. after_is g w m (λ i l. put i (omega arith)) (λ none. kept (λ i l q. last i l q other none (eqb i m) refl)))
    where
      last : (i : ℕ) → i < suc m → w ≡ at i → (w ≡ at m → ⊥) → ((j : ℕ) → j < m → w ≡ at j → ⊥) → (t : Bool) → eqb i m ≡ t → ⊥
      last i l q other none true e = other (q ∙ ap at (eqb-true i m e))
      last i l q other none false e = let ne = eqb-false i m e in none i (omega (arith, ne)) q

      go : (t : Bool) → eqb w (at m) ≡ t → ((w ≡ at m → ⊥) → after at x m f w ≡ g w) → cond t (x m) (after at x m f w) ≡ g w
      go true e rest = sym (put m (omega arith)) ∙ ap g (sym (eqb-true w (at m) e))
      go false e rest = rest (eqb-false w (at m) e)

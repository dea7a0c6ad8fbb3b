-- Laws of words: a word is its four bytes and they are the word; what a stored word changes; sums that wrap. Assumes nothing.
use Rattle.std.proofs.Common.{◌≡◌, ℕ, zero, suc, ◌+◌, ◌*◌, ◌/◌, ◌%◌, ◌^◌, ◌<◌, ◌≤◌, Bool, true, false, eqb, ltb, List, [], ◌∷◌, length, get_or, set, sym, refl, ap, ◌∙◌, ap₂, mod-lt, arith, length-set, get_or-set_other, get_or-set_same, ext_get_or, ltb-false, ltb-true, eqb-true}
use native.Mathlib.Nat.{add-mod, mod-add-mod, mod-mod, div-div-eq-div-mul}
use borrow.Author.Tests.{eqb-false}
use lib.ListN.{get_or-eq_default}
use Rattle.lists.specs.Sum.{sum}
use Rattle.lists.specs.Fill.{written, table, over}
use Rattle.lists.proofs.Sums.{sum_more}
use Rattle.lists.proofs.Tables.{length-table, table_at, table-ext, written_over}
use Rattle.lists.proofs.Fills.{length-written, written_below, written-past}
use Rattle.plan_blocks.specs.Word.{wrap, word, byte_of, put_word, bytes}

-- one word more in a sum that wraps
pub wrap-step : (j s t r : ℕ) (f : ℕ → ℕ) → s ≡ sum j f % wrap → t ≡ f j → r ≡ (s + t) % wrap → r ≡ sum (j + 1) f % wrap
wrap-step j s t r f p q e =
    e ∙ ap₂ (λ (x y : ℕ). (x + y) % wrap) p q ∙ mod-add-mod (sum j f) wrap (f j) ∙ ap (λ (x : ℕ). x % wrap) (sym (sum_more j f))

-- a sum that wraps is that of its parts wrapped
pub sum-wrapped : (n : ℕ) (f : ℕ → ℕ) → sum n (λ i. f i % wrap) % wrap ≡ sum n f % wrap
unfolding sum
sum-wrapped zero f = refl
sum-wrapped (suc n) f =
    add-mod (sum n (λ i. f i % wrap)) (f n % wrap) wrap
    ∙ ap₂ (λ (x y : ℕ). (x + y) % wrap) (sum-wrapped n f) (mod-mod (f n) wrap)
    ∙ sym (add-mod (sum n f) (f n) wrap)

-- every element is a byte
abbrev pub Bytes : List ℕ → Type 0
Bytes s = (i : ℕ) → get_or s i 0 < 256

-- byte i of the word of four bytes
pub byte-of-word : (s : List ℕ) → Bytes s → (w i : ℕ) → i < 4 → byte_of (word s w) i ≡ get_or s (4 * w + i) 0
unfolding word byte_of
byte-of-word s h w zero l =
    let a = h (4 * w) in let b = h (4 * w + 1) in let c = h (4 * w + 2) in let d = h (4 * w + 3) in
    let r : 4 * w + 0 ≡ 4 * w = omega arith in
    rw r (omega arith)
byte-of-word s h w (suc zero) l =
    let a = h (4 * w) in let b = h (4 * w + 1) in let c = h (4 * w + 2) in let d = h (4 * w + 3) in omega arith
byte-of-word s h w (suc (suc zero)) l =
    let a = h (4 * w) in let b = h (4 * w + 1) in let c = h (4 * w + 2) in let d = h (4 * w + 3) in omega arith
byte-of-word s h w (suc (suc (suc zero))) l =
    let a = h (4 * w) in let b = h (4 * w + 1) in let c = h (4 * w + 2) in let d = h (4 * w + 3) in omega arith
byte-of-word s h w (suc (suc (suc (suc i)))) l = absurd (omega arith)

-- the word of a word's four bytes
joined : (x y z t : ℕ) → x / 256 ≡ y → y / 256 ≡ z → z / 256 ≡ t → x % 256 + 256 * (y % 256) + 65536 * (z % 256) + 16777216 * (t % 256) ≡ x % wrap
joined x y z t p q r = omega arith

four_bytes : (x : ℕ) → byte_of x 0 + 256 * byte_of x 1 + 65536 * byte_of x 2 + 16777216 * byte_of x 3 ≡ x % wrap
unfolding byte_of
four_bytes x =
    let o : x / 1 ≡ x = omega arith in
    rw o (joined x (x / 256) (x / 65536) (x / 16777216) refl (div-div-eq-div-mul x 256 256) (div-div-eq-div-mul x 65536 256))

word_of : (s : List ℕ) (w x : ℕ) → ((i : ℕ) → i < 4 → get_or s (4 * w + i) 0 ≡ byte_of x i) → word s w ≡ x % wrap
unfolding word
word_of s w x at =
    let z : 4 * w + 0 ≡ 4 * w = omega arith in
    let p = at 0 (omega arith) in
    rw (rw z at p, at 1 (omega arith), at 2 (omega arith), at 3 (omega arith)) (four_bytes x)

byte-below : (x i : ℕ) → byte_of x i < 256
unfolding byte_of
byte-below x i = mod-lt (x / 256 ^ i) (omega arith)

-- byte i of a file of words
abbrev pub byte_in : (ℕ → ℕ) → ℕ → ℕ
byte_in f i = byte_of (f (i / 4)) (i % 4)

byte-in : (f : ℕ → ℕ) (w i : ℕ) → i < 4 → byte_in f (4 * w + i) ≡ byte_of (f w) i
byte-in f w i l =
    let q : (4 * w + i) / 4 ≡ w = omega arith in
    let r : (4 * w + i) % 4 ≡ i = omega arith in
    rw (q, r)

pub length-bytes : (m : ℕ) (f : ℕ → ℕ) → length (bytes m f) ≡ 4 * m
unfolding bytes
length-bytes m f = length-table (4 * m) (byte_in f)

pub bytes-ext : (m : ℕ) (f g : ℕ → ℕ) → ((w : ℕ) → w < m → f w ≡ g w) → bytes m f ≡ bytes m g
unfolding bytes
bytes-ext m f g h = table-ext (4 * m) (byte_in f) (byte_in g) (λ i l. ap (λ (x : ℕ). byte_of x (i % 4)) (h (i / 4) (omega arith)))

-- the words of a file of words
pub word_bytes : (m : ℕ) (f : ℕ → ℕ) (w : ℕ) → w < m → f w < wrap → word (bytes m f) w ≡ f w
unfolding bytes
word_bytes m f w l b =
    let fits : f w % wrap ≡ f w = omega arith in
    word_of (table (4 * m) (byte_in f)) w (f w) (λ i k. table_at (4 * m) (4 * w + i) 0 (byte_in f) (omega arith) ∙ byte-in f w i k) ∙ fits

-- every element of a file of words is a byte
pub bytes_below : (m : ℕ) (f : ℕ → ℕ) → Bytes (bytes m f)
unfolding bytes
bytes_below m f i = go (ltb i (4 * m)) refl
  where
    go : (t : Bool) → ltb i (4 * m) ≡ t → get_or (table (4 * m) (byte_in f)) i 0 < 256
    go true e = rw (table_at (4 * m) i 0 (byte_in f) (ltb-true i (4 * m) e)) (byte-below (f (i / 4)) (i % 4))
    go false e =
        let n = length-table (4 * m) (byte_in f) in
        let g = ltb-false i (4 * m) e in
        rw (get_or-eq_default (table (4 * m) (byte_in f)) 0 {n = i} (omega arith)) (omega arith)

-- a file is the bytes of its words
pub bytes_word : (s : List ℕ) (m : ℕ) → Bytes s → length s ≡ 4 * m → bytes m (word s) ≡ s
unfolding bytes
bytes_word s m h e =
    ext_get_or 0 (table (4 * m) (byte_in (word s))) s (length-table (4 * m) (byte_in (word s)) ∙ sym e) (λ i l. at i (let n = length-table (4 * m) (byte_in (word s)) in omega arith))
  where
    at : (i : ℕ) → i < 4 * m → get_or (table (4 * m) (byte_in (word s))) i 0 ≡ get_or s i 0
    at i l =
        let r : 4 * (i / 4) + i % 4 ≡ i = omega arith in
        table_at (4 * m) i 0 (byte_in (word s)) l ∙ byte-of-word s h (i / 4) (i % 4) (omega arith) ∙ ap (λ (k : ℕ). get_or s k 0) r

-- a word of bytes is below 2 ^ 32
pub word_below : (s : List ℕ) → Bytes s → (w : ℕ) → word s w < wrap
unfolding word
word_below s h w =
    let a = h (4 * w) in let b = h (4 * w + 1) in let c = h (4 * w + 2) in let d = h (4 * w + 3) in omega arith

-- the four stores of a word's bytes
pub stored : (s ys : List ℕ) (w x : ℕ) → ys ≡ (x % 256 ∷ x / 256 % 256 ∷ x / 65536 % 256 ∷ x / 16777216 % 256 ∷ [])
    → set (set (set (set s (4 * w) (get_or ys 0 0)) (4 * w + 1) (get_or ys 1 0)) (4 * w + 2) (get_or ys 2 0)) (4 * w + 3) (get_or ys 3 0) ≡ put_word s w x
unfolding put_word byte_of
stored s ys w x e =
    let o : x / 1 ≡ x = omega arith in
    rw (e, o) refl

-- a stored word changes its own four bytes
module _ (s : List ℕ) (w x : ℕ) where
  pub length-put : length (put_word s w x) ≡ length s
  unfolding put_word
  length-put = simp length-set

  -- the list after the first, the second and the third byte
  abbrev one : List ℕ
  one = set s (4 * w) (byte_of x 0)

  abbrev two : List ℕ
  two = set one (4 * w + 1) (byte_of x 1)

  abbrev three : List ℕ
  three = set two (4 * w + 2) (byte_of x 2)

  put_other : (i : ℕ) → (i / 4 ≡ w → ⊥) → get_or (put_word s w x) i 0 ≡ get_or s i 0
  unfolding put_word
  put_other i ne =
      get_or-set_other three (4 * w + 3) i (byte_of x 3) 0 (λ e. ne (omega arith))
      ∙ get_or-set_other two (4 * w + 2) i (byte_of x 2) 0 (λ e. ne (omega arith))
      ∙ get_or-set_other one (4 * w + 1) i (byte_of x 1) 0 (λ e. ne (omega arith))
      ∙ get_or-set_other s (4 * w) i (byte_of x 0) 0 (λ e. ne (omega arith))

  put_byte : 4 * w + 4 ≤ length s → (i : ℕ) → i < 4 → get_or (put_word s w x) (4 * w + i) 0 ≡ byte_of x i
  unfolding put_word
  put_byte l zero k =
      let z : 4 * w + 0 ≡ 4 * w = omega arith in
      rw z
      (get_or-set_other three (4 * w + 3) (4 * w) (byte_of x 3) 0 (λ e. omega arith)
      ∙ get_or-set_other two (4 * w + 2) (4 * w) (byte_of x 2) 0 (λ e. omega arith)
      ∙ get_or-set_other one (4 * w + 1) (4 * w) (byte_of x 1) 0 (λ e. omega arith)
      ∙ get_or-set_same s (4 * w) (byte_of x 0) 0 (omega arith))
  put_byte l (suc zero) k =
      get_or-set_other three (4 * w + 3) (4 * w + 1) (byte_of x 3) 0 (λ e. omega arith)
      ∙ get_or-set_other two (4 * w + 2) (4 * w + 1) (byte_of x 2) 0 (λ e. omega arith)
      ∙ get_or-set_same one (4 * w + 1) (byte_of x 1) 0 (simp length-set (omega arith))
  put_byte l (suc (suc zero)) k =
      get_or-set_other three (4 * w + 3) (4 * w + 2) (byte_of x 3) 0 (λ e. omega arith)
      ∙ get_or-set_same two (4 * w + 2) (byte_of x 2) 0 (simp length-set (omega arith))
  put_byte l (suc (suc (suc zero))) k = get_or-set_same three (4 * w + 3) (byte_of x 3) 0 (simp length-set (omega arith))
  put_byte l (suc (suc (suc (suc i)))) k = absurd (omega arith)

  pub put-word-other : (v : ℕ) → (v ≡ w → ⊥) → word (put_word s w x) v ≡ word s v
  unfolding word
  put-word-other v ne =
      let a = put_other (4 * v) (λ e. ne (omega arith)) in
      let b = put_other (4 * v + 1) (λ e. ne (omega arith)) in
      let c = put_other (4 * v + 2) (λ e. ne (omega arith)) in
      let d = put_other (4 * v + 3) (λ e. ne (omega arith)) in
      rw (a, b, c, d)

-- all words stored: the file, and what stood past its end
written-bytes : (m : ℕ) (f : ℕ → ℕ) (s : List ℕ) → 4 * m ≤ length s → written (byte_in f) (4 * m) s ≡ over (bytes m f) s
unfolding bytes
written-bytes m f s h = written_over (byte_in f) (4 * m) s h

-- words that a file begins with
module _ (m : ℕ) (f : ℕ → ℕ) (s : List ℕ) (long : 4 * m ≤ length s) where
  over_below : (i : ℕ) → i < 4 * m → get_or (over (bytes m f) s) i 0 ≡ byte_in f i
  over_below i l = ap (λ (t : List ℕ). get_or t i 0) (sym (written-bytes m f s long)) ∙ written_below (byte_in f) 0 (4 * m) s long i l

  over-past : (i : ℕ) → 4 * m ≤ i → get_or (over (bytes m f) s) i 0 ≡ get_or s i 0
  over-past i l = ap (λ (t : List ℕ). get_or t i 0) (sym (written-bytes m f s long)) ∙ written-past (byte_in f) 0 (4 * m) s i l

  length_over : length (over (bytes m f) s) ≡ length s
  length_over = ap length (sym (written-bytes m f s long)) ∙ length-written (byte_in f) (4 * m) s

  -- what is stored of a number that is too large for a word is its lower 32 bits
  pub word_over : (w : ℕ) → w < m → word (over (bytes m f) s) w ≡ f w % wrap
  word_over w l = word_of (over (bytes m f) s) w (f w) (λ i k. over_below (4 * w + i) (omega arith) ∙ byte-in f w i k)

-- one of the words that a file begins with, stored anew
pub put-over : (m : ℕ) (f g : ℕ → ℕ) (w x : ℕ) (s : List ℕ) → 4 * m ≤ length s → w < m → g w ≡ x → ((v : ℕ) → (v ≡ w → ⊥) → g v ≡ f v)
    → put_word (over (bytes m f) s) w x ≡ over (bytes m g) s
put-over m f g w x s long l here there =
    ext_get_or 0 (put_word k w x) (over (bytes m g) s) (length-put k w x ∙ length_over m f s long ∙ sym (length_over m g s long)) (λ i _. at i (eqb (i / 4) w) refl)
  where
    k : List ℕ
    k = over (bytes m f) s

    past : (i : ℕ) (t : Bool) → ltb i (4 * m) ≡ t → (i / 4 ≡ w → ⊥) → get_or k i 0 ≡ get_or (over (bytes m g) s) i 0
    past i true e ne =
        let b = ltb-true i (4 * m) e in
        over_below m f s long i b ∙ ap (λ (y : ℕ). byte_of y (i % 4)) (sym (there (i / 4) ne)) ∙ sym (over_below m g s long i b)
    past i false e ne =
        let b = ltb-false i (4 * m) e in
        over-past m f s long i b ∙ sym (over-past m g s long i b)

    at : (i : ℕ) (t : Bool) → eqb (i / 4) w ≡ t → get_or (put_word k w x) i 0 ≡ get_or (over (bytes m g) s) i 0
    at i true e =
        let q = eqb-true (i / 4) w e in
        let r : i ≡ 4 * w + i % 4 = omega arith in
        let n = length_over m f s long in
        ap (λ (j : ℕ). get_or (put_word k w x) j 0) r
        ∙ put_byte k w x (omega arith) (i % 4) (omega arith)
        ∙ ap (λ (y : ℕ). byte_of y (i % 4)) (sym (ap g q ∙ here))
        ∙ sym (over_below m g s long i (omega arith))
    at i false e =
        let ne = eqb-false (i / 4) w e in
        put_other k w x i ne ∙ past i (ltb i (4 * m)) refl ne

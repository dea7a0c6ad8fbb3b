-- Texts put one after the other into a list of bytes, and how long numbers in decimal are. Assumes nothing.
use mathlib.Core.Path.{◌≡◌, refl, sym, ap, ap₂, ◌∙◌}
use mathlib.Core.Bool.{Bool, true, false, cond}
use mathlib.Core.List.{List, [], ◌∷◌, ◌++◌, append_assoc, append-nil}
use Prim.Native.Nat.{ℕ, zero, suc, ◌+◌, ◌*◌, ◌/◌, ◌%◌, ◌^◌, ◌≤◌, ◌<◌}
use native.Mathlib.Omega.{arith}
use native.Mathlib.Numerals.{add-one}
use native.Mathlib.Nat.{pow-suc, zero-add, add-zero, mul-suc, mul-le-mul_left}
use lib.ListN.{length, take, drop, get_or, set, length-append, take-append-drop, length-drop}
use lib.Seq.{length-take-le, take_at, drop-append-add, drop-drop, take-suc, set_split}
use lib.Dec.{ltb}
use Rattle.std.proofs.lemmas.List.{get_or-take}
use borrow.Author.Tests.{ltb-false, lt-ltb, le-ltb}
use Rattle.refine_words.specs.Line.{end_line, cut_line, loads_line, passes_line, opening, pass_line, pass_lines}
use Rattle.refine_words.specs.Text.{ascii, blank, newline, nought, decimal_in, decimal, numbers, line}
use Rattle.refine_words.specs.inner.Steps.{pasted, Put}

-- what stands before the end of the text
module _ (at : ℕ) (t xs : List ℕ) (h : at + length t ≤ length xs) where
  head-long : length (take at xs ++ t) ≡ at + length t
  head-long = length-append (take at xs) t ∙ ap (λ (k : ℕ). k + length t) (length-take-le at xs (omega arith))

  pub length-pasted : length (pasted at t xs) ≡ length xs
  unfolding pasted
  length-pasted =
      let a = length-append (take at xs ++ t) (drop (at + length t) xs) in
      let b = length-drop (at + length t) xs in
      let d = head-long in
      omega arith

  -- a text after a text is the two together
  pub pasted-then : (u : List ℕ) → pasted (at + length t) u (pasted at t xs) ≡ pasted at (t ++ u) xs
  unfolding pasted
  pasted-then u =
      let p = take at xs ++ t in
      let q = drop (at + length t) xs in
      let e : at + length t + length u ≡ at + length (t ++ u) = (let l = length-append t u in omega arith) in
      ap₂ (λ (x y : List ℕ). x ++ u ++ y)
      (take_at p q (at + length t) head-long)
      (ap (λ (k : ℕ). drop (k + length u) (p ++ q)) (sym head-long) ∙ drop-append-add p q (length u) ∙ drop-drop (length u) (at + length t) xs)
      ∙ ap (λ (x : List ℕ). x ++ drop (at + length t + length u) xs) (append_assoc (take at xs) t u)
      ∙ ap (λ (k : ℕ). take at xs ++ (t ++ u) ++ drop k xs) e

pub pasted-none : (at : ℕ) (xs : List ℕ) → pasted at [] xs ≡ xs
unfolding pasted
pasted-none at xs =
    ap₂ (λ (x : List ℕ) (k : ℕ). x ++ drop k xs) (append-nil (take at xs)) (add-zero at) ∙ take-append-drop at xs

-- from the first place on
pub pasted-first : (t xs : List ℕ) → pasted 0 t xs ≡ t ++ drop (length t) xs
unfolding pasted
pasted-first t xs = ap (λ (k : ℕ). t ++ drop k xs) (zero-add (length t))

pub put-none : (at : ℕ) (xs : List ℕ) → Put [] 0 at xs xs at
put-none at xs = record { bytes = sym (pasted-none at xs); ends = sym (add-zero at); few = omega arith }

-- one text after another
pub put_then : {t u xs ys zs : List ℕ} {m k at r e : ℕ} → at + m ≤ length xs → Put t m at xs ys r → Put u k r ys zs e → Put (t ++ u) (m + k) at xs zs e
put_then {t} {u} {xs} {ys} {zs} {m} {k} {at} {r} {e} h p q =
    let a = p.few in
    let b = q.few in
    let c = p.ends in
    let d = q.ends in
    let l = length-append t u in
    record {
      bytes = q.bytes ∙ ap₂ (λ (x : ℕ) (y : List ℕ). pasted x u y) p.ends p.bytes ∙ pasted-then at t xs (omega arith) u;
      ends = omega arith;
      few = omega arith;
    }

pub put-long : {t xs ys : List ℕ} {m at r : ℕ} → at + m ≤ length xs → Put t m at xs ys r → length ys ≡ length xs
put-long {t} {xs} {ys} {m} {at} {r} h p = ap length p.bytes ∙ length-pasted at t xs (let a = p.few in omega arith)

-- the same text, by its definition, and room for more
pub put_as : {t u xs ys : List ℕ} {m k at r : ℕ} → t ≡ u → m ≤ k → Put t m at xs ys r → Put u k at xs ys r
put_as {t} {u} {xs} {ys} {m} {k} {at} {r} e l p =
    let a = p.few in
    let b = ap length e in
    record { bytes = p.bytes ∙ ap (λ (x : List ℕ). pasted at x xs) e; ends = p.ends ∙ ap (λ (x : List ℕ). at + length x) e; few = omega arith }

pub put_one : (at b : ℕ) (xs : List ℕ) → at + 1 ≤ length xs → Put (b ∷ []) 1 at xs (set xs at b) (at + 1)
unfolding pasted
put_one at b xs h =
    record {
      bytes = set_split xs at b (omega arith) ∙ sym (append_assoc (take at xs) (b ∷ []) (drop (suc at) xs)) ∙ ap (λ (k : ℕ). take at xs ++ (b ∷ []) ++ drop k xs) (sym (add-one at));
      ends = refl;
      few = omega arith;
    }

-- more places change nothing
enough : (p q x : ℕ) → x < p → x < q → decimal_in p x ≡ decimal_in q x
unfolding decimal_in
enough zero q x h l = absurd (omega arith)
enough (suc p) zero x h l = absurd (omega arith)
enough (suc p) (suc q) x h l = go (ltb x 10) refl (λ (n : 10 ≤ x). enough p q (x / 10) (omega arith) (omega arith))
  where
    go : (b : Bool) → ltb x 10 ≡ b → (10 ≤ x → decimal_in p (x / 10) ≡ decimal_in q (x / 10))
        → cond (ltb x 10) ((nought + x) ∷ []) (decimal_in p (x / 10) ++ ((nought + x % 10) ∷ [])) ≡ cond (ltb x 10) ((nought + x) ∷ []) (decimal_in q (x / 10) ++ ((nought + x % 10) ∷ []))
    go true e ih = rw e refl
    go false e ih = rw e (ap (λ (t : List ℕ). t ++ ((nought + x % 10) ∷ [])) (ih (ltb-false x 10 e)))

pub decimal-one : (x : ℕ) → x < 10 → decimal x ≡ (nought + x) ∷ []
unfolding decimal decimal_in
decimal-one x h = rw (lt-ltb x 10 h)

pub decimal-more : (x : ℕ) → 10 ≤ x → decimal x ≡ decimal (x / 10) ++ ((nought + x % 10) ∷ [])
unfolding decimal decimal_in
decimal-more x h =
    rw (le-ltb x 10 h) (ap (λ (t : List ℕ). t ++ ((nought + x % 10) ∷ [])) (enough x (suc (x / 10)) (x / 10) (omega arith) (omega arith)))

-- a number below a power of ten has no more digits
short-in : (p k x : ℕ) → x < 10 ^ suc k → length (decimal_in p x) ≤ suc k
unfolding decimal_in
short-in zero k x h = omega arith
short-in (suc p) k x h = go (ltb x 10) refl k h (λ (j : ℕ). short-in p j (x / 10))
  where
    go : (b : Bool) → ltb x 10 ≡ b → (k : ℕ) → x < 10 ^ suc k → ((j : ℕ) → x / 10 < 10 ^ suc j → length (decimal_in p (x / 10)) ≤ suc j)
        → length (cond (ltb x 10) ((nought + x) ∷ []) (decimal_in p (x / 10) ++ ((nought + x % 10) ∷ []))) ≤ suc k
    go true e k h ih = rw e (omega arith)
    go false e zero h ih = let n = ltb-false x 10 e in let q = pow-suc 10 0 in absurd (omega arith)
    go false e (suc k) h ih =
        let q = pow-suc 10 (suc k) in
        let i = ih k (omega arith) in
        rw e (let l = length-append (decimal_in p (x / 10)) ((nought + x % 10) ∷ []) in omega arith)

pub decimal-short : (x : ℕ) → x < 2 ^ 64 → length (decimal x) ≤ 20
unfolding decimal
decimal-short x h = short-in (suc x) 19 x (omega arith)

-- one element more of a word, and of a list of numbers
pub word_next : (xs : List ℕ) (i : ℕ) → i < length xs → take (i + 1) xs ≡ take i xs ++ (get_or xs i 0 ∷ [])
word_next xs i l = rw add-one (take-suc xs i 0 l)

numbers_more : (xs : List ℕ) (x : ℕ) → numbers (xs ++ (x ∷ [])) ≡ numbers xs ++ (blank ∷ decimal x)
unfolding numbers
numbers_more [] x = append-nil (blank ∷ decimal x)
numbers_more (y ∷ xs) x = ap (λ (t : List ℕ). (blank ∷ decimal y) ++ t) (numbers_more xs x) ∙ sym (append_assoc (blank ∷ decimal y) (numbers xs) (blank ∷ decimal x))

pub numbers-next : (xs : List ℕ) (i x : ℕ) → i < length xs → x ≡ get_or xs i 0 → numbers (take (i + 1) xs) ≡ numbers (take i xs) ++ (blank ∷ decimal x)
numbers-next xs i x l e =
    ap numbers (word_next xs i l) ∙ numbers_more (take i xs) (get_or xs i 0) ∙ ap (λ (k : ℕ). numbers (take i xs) ++ (blank ∷ decimal k)) (sym e)

pub numbers-none : numbers [] ≡ []
unfolding numbers
numbers-none = refl

-- Where a loop stands that has put i of n texts of at most m bytes each.
pub record Here (text : ℕ → List ℕ) (m n at i : ℕ) (before after : List ℕ) (here : ℕ) : Type 0 where
  pub within : i ≤ n
  pub put : Put (text i) (m * i) at before after here
  pub long : length after ≡ length before

pub here-none : (text : ℕ → List ℕ) (m n at : ℕ) (before : List ℕ) → text 0 ≡ [] → Here text m n at 0 before before at
here-none text m n at before e =
    record { within = omega arith; put = put_as (sym e) (omega arith) (put-none at before); long = refl }

module _ {text : ℕ → List ℕ} {m n at i here : ℕ} {before after : List ℕ} (room : at + m * n ≤ length before) (l : i < n) (h : Here text m n at i before after here) where
  -- there is room for one text more
  pub here-room : here + m ≤ length after
  here-room =
      let k : m * (i + 1) ≡ m * i + m = rw add-one (mul-suc m i) in
      let q : m * (i + 1) ≤ m * n = mul-le-mul_left m (omega arith) in
      let b = h.put.few in
      let d = h.put.ends in
      let z = h.long in
      omega arith

  pub here-more : {next : ℕ} {then one : List ℕ} → text (i + 1) ≡ text i ++ one → Put one m here after then next → Here text m n at (i + 1) before then next
  here-more e p =
      let k : m * (i + 1) ≡ m * i + m = rw add-one (mul-suc m i) in
      let q : m * (i + 1) ≤ m * n = mul-le-mul_left m (omega arith) in
      record {
        within = omega arith;
        put = put_as (sym e) (omega arith) (put_then (omega arith) h.put p);
        long = put-long here-room p ∙ h.long;
      }

-- the digits of a number, put by `put_decimal`
pub one-long : (x : ℕ) → x < 10 → length (decimal x) ≡ 1
one-long x h = ap length (decimal-one x h)

pub more-long : (x : ℕ) → 10 ≤ x → length (decimal x) ≡ length (decimal (x / 10)) + 1
more-long x h = ap length (decimal-more x h) ∙ length-append (decimal (x / 10)) ((nought + x % 10) ∷ [])

pub put-digit : {x d at r : ℕ} {xs ys : List ℕ} → x < 10 → d ≡ nought + x → Put (d ∷ []) 1 at xs ys r → Put (decimal x) (length (decimal x)) at xs ys r
put-digit {x} {d} {at} {r} {xs} {ys} h e p =
    let l = one-long x h in
    put_as (ap (λ (k : ℕ). k ∷ []) e ∙ sym (decimal-one x h)) (omega arith) p

pub put_last : {x d at r end : ℕ} {xs ys zs : List ℕ} → 10 ≤ x → at + length (decimal x) ≤ length xs → Put (decimal (x / 10)) (length (decimal (x / 10))) at xs ys r
    → d ≡ nought + x % 10 → Put (d ∷ []) 1 r ys zs end → Put (decimal x) (length (decimal x)) at xs zs end
put_last {x} {d} {at} {r} {end} {xs} {ys} {zs} h room p e q =
    let l = more-long x h in
    put_as (ap (λ (k : ℕ). decimal (x / 10) ++ (k ∷ [])) e ∙ sym (decimal-more x h)) (omega arith) (put_then (omega arith) p q)

-- a blank and a number
pub put-blank : {x at r end : ℕ} {xs ys zs : List ℕ} → x < 2 ^ 64 → at + 21 ≤ length xs → Put (blank ∷ []) 1 at xs ys r → Put (decimal x) (length (decimal x)) r ys zs end → Put (blank ∷ decimal x) 21 at xs zs end
put-blank {x} h room p q = put_as refl (let l = decimal-short x h in omega arith) (put_then (omega arith) p q)

-- a word, its numbers and the newline
pub put_whole : (xs : List ℕ) {word before first last after : List ℕ} {at r s end m : ℕ} → at + (length word + m + 1) ≤ length before
    → Put word (length word) at before first r → Put (numbers xs) m r first last s → Put (newline ∷ []) 1 s last after end
    → Put (line word xs) (length word + m + 1) at before after end
unfolding line
put_whole xs {word} room p q n =
    put_as (append_assoc word (numbers xs) (newline ∷ [])) (omega arith) (put_then (omega arith) (put_then (omega arith) p q) n)

-- the line of two cuts, as two numbers that are them
pub cut_is : (a b first last : ℕ) → a ≡ first → b ≡ last → line (ascii "cut") (a ∷ b ∷ []) ≡ cut_line first last
unfolding cut_line
cut_is a b first last e q = rw (e, q)

-- the passes, one line more
pub passes_none : (made rewound : List ℕ) → pass_lines 0 made rewound ≡ []
unfolding pass_lines
passes_none made rewound = refl

passes_more : (made rewound : List ℕ) (i : ℕ) → pass_lines (i + 1) made rewound ≡ pass_lines i made rewound ++ pass_line (get_or made i 0) (get_or rewound i 0)
unfolding pass_lines
passes_more made rewound i = rw add-one

pub passes-next : (n i : ℕ) (made rewound : List ℕ) {x y : ℕ} → i < n → x ≡ get_or (take n made) i 0 → y ≡ get_or (take n rewound) i 0
    → pass_lines (i + 1) made rewound ≡ pass_lines i made rewound ++ pass_line x y
passes-next n i made rewound l e q =
    passes_more made rewound i
    ∙ ap₂ (λ (x y : ℕ). pass_lines i made rewound ++ pass_line x y) (sym (e ∙ get_or-take n made i 0 l)) (sym (q ∙ get_or-take n rewound i 0 l))

-- the four lines with which a run begins
pub put-opened : (end first last passes m : ℕ) (loads : List ℕ) {r s t u : ℕ} {before one two three after : List ℕ} → 105 + m ≤ length before
    → Put (end_line end) 25 0 before one r → Put (cut_line first last) 46 r one two s → Put (loads_line loads) (6 + m) s two three t → Put (passes_line passes) 28 t three after u
    → Put (opening end first last loads passes) (105 + m) 0 before after u
unfolding opening
put-opened end first last passes m loads room a b d e = put_as refl (omega arith) (put_then (omega arith) (put_then (omega arith) (put_then (omega arith) a b) d) e)

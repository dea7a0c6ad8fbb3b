-- An accepted file of the new kind with two blocks exchanged is refused with 10: each of the two sums to the other's position. Assumes nothing.
use Rattle.std.proofs.Common.{◌≡◌, ℕ, ◌+◌, ◌*◌, ◌%◌, ◌<◌, Bool, true, false, eqb, List, get_or, sym, refl, ap, ◌∙◌, arith, ne_eqb, eqb-true}
use borrow.Author.Tests.{eqb-false}
use Rattle.lists.specs.Sum.{sum}
use Rattle.lists.proofs.Totals.{sum-ext}
use Rattle.plan_blocks.specs.Word.{wrap, word, byte_of}
use Rattle.plan_blocks.specs.Block.{new_kind, sum_at, checks, kind_at, count_at}
use Rattle.plan_blocks.specs.Decode.{in_block, blocks_in, kind_of, bad_kind, file_number}
use Rattle.plan_blocks.specs.Exchanged.{Exchanged}
use Rattle.plan_blocks.proofs.WordLaws.{Bytes, byte-of-word}
use Rattle.plan_blocks.proofs.Places.{new-sum, second-byte, kind-most}
use Rattle.plan_blocks.proofs.Accepts.{accepts, same-length-good, unchecked-refused, checked-sum}
use Rattle.plan_blocks.proofs.Rewritten.{laid-first, laid}

-- each block of an accepted file has the file's kind as its second byte
pub every-second : (s : List ℕ) → Bytes s → file_number s ≡ 0 → (c : ℕ) → c < blocks_in s → get_or s (512 * c + 1) 0 ≡ kind_of s
every-second s h z c l =
    let g = accepts s z in
    let sized = g.sized in
    let kind = kind_at (word s 1) c in
    let count = count_at (word s 4) (word s 1) (word s 2) c in
    let m = kind-most (word s 1) c in
    let known = g.known in
    let at : 512 * c + 1 ≡ 4 * (128 * c + 0) + 1 = omega arith in
    ap (λ (i : ℕ). get_or s i 0) at
    ∙ sym (byte-of-word s h (128 * c + 0) 1 (omega arith))
    ∙ ap (λ (x : ℕ). byte_of x 1) (laid-first (kind_of s) kind count (in_block s c) (laid s h g c (omega arith)))
    ∙ second-byte (kind_of s) kind count (omega arith) (omega arith)

module _ (s t : List ℕ) (b c : ℕ) (h : Bytes s) (x : Exchanged s t b c) (g : file_number s ≡ 0) (new : kind_of s ≡ new_kind) (lb : b < blocks_in s) (lc : c < blocks_in s) (ne : b ≡ c → ⊥) where
  same_kind : kind_of t ≡ new_kind
  same_kind = go (eqb b 0) refl (eqb c 0) refl
    where
      moved : (d : ℕ) → d < blocks_in s → get_or s (512 * d + 1) 0 ≡ new_kind
      moved d l = every-second s h g d l ∙ new

      go : (p : Bool) → eqb b 0 ≡ p → (q : Bool) → eqb c 0 ≡ q → kind_of t ≡ new_kind
      go true e q f =
          let at : 1 ≡ 512 * b + 1 = (let z = eqb-true b 0 e in omega arith) in
          ap (λ (i : ℕ). get_or t i 0) at ∙ x.first 1 (omega arith) ∙ moved c lc
      go false e true f =
          let at : 1 ≡ 512 * c + 1 = (let z = eqb-true c 0 f in omega arith) in
          ap (λ (i : ℕ). get_or t i 0) at ∙ x.second 1 (omega arith) ∙ moved b lb
      go false e false f = x.rest 1 (λ q. eqb-false b 0 e (sym q)) (λ q. eqb-false c 0 f (sym q)) ∙ new

  -- block b's words are those of block c as it stood
  moved_word : (j : ℕ) → j < 128 → in_block t b j ≡ in_block s c j
  unfolding word
  moved_word j l =
      let at : (d : ℕ) → 4 * (128 * d + j) ≡ 512 * d + 4 * j = λ d. omega arith in
      let up : (d i : ℕ) → 512 * d + 4 * j + i ≡ 512 * d + (4 * j + i) = λ d i. omega arith in
      rw (at b, at c, up b 1, up b 2, up b 3, up c 1, up c 2, up c 3, x.first (4 * j) (omega arith), x.first (4 * j + 1) (omega arith), x.first (4 * j + 2) (omega arith), x.first (4 * j + 3) (omega arith))

  -- so they sum to c
  moved_sum : sum 128 (in_block t b) % wrap ≡ c
  moved_sum =
      ap (λ (y : ℕ). y % wrap) (sum-ext 128 (in_block t b) (in_block s c) moved_word)
      ∙ checked-sum s _ _ c (accepts s g) lc
      ∙ new-sum (kind_of s) c new

  unchecked : checks (sum_at (kind_of t) b) (in_block t b) ≡ false
  unfolding checks
  unchecked =
      ne_eqb (sum 128 (in_block t b) % wrap) (sum_at (kind_of t) b) (λ e. ne (sym (new-sum (kind_of t) b same_kind) ∙ sym e ∙ moved_sum))

  pub refused-exchanged : file_number t ≡ 10
  unfolding bad_kind
  refused-exchanged =
      let long = x.long in
      unchecked-refused t b (same-length-good s t x.long g) (omega arith) unchecked ∙ rw same_kind

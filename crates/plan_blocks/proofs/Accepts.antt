-- What it takes for a file to be accepted: no test of 9 to 14 holds. Assumes nothing.
use Rattle.std.proofs.Common.{◌≡◌, ℕ, ◌+◌, ◌*◌, ◌%◌, ◌<◌, ◌≤◌, Bool, true, false, cond, not, ◌||◌, eqb, ltb, List, length, refl, arith, ltb-false, le-ltb, eq-eqb, ne_eqb, eqb-true}
use borrow.Author.Tests.{eqb-false, not-false}
use Rattle.lists.specs.Sum.{sum}
use Rattle.lists.specs.All.{all}
use Rattle.lists.proofs.Bools.{or-false}
use Rattle.lists.proofs.Alls.{all-at, all-fails}
use Rattle.imbalance.specs.Limit.{most_vertices, most_arcs}
use Rattle.plan_blocks.specs.declared.header.Header.{Header}
use Rattle.plan_blocks.specs.Word.{wrap, word}
use Rattle.plan_blocks.specs.Block.{sum_at, checks, laid_out, blocks_of, header_count}
use Rattle.plan_blocks.specs.Plan.{out_of_range, unfit_value}
use Rattle.plan_blocks.specs.Decode.{in_block, blocks_in, kind_of, degree_at, bad_length, bad_kind, bad_check, bad_header, bad_numbers, later_laid, bad_later, labelled, bad_records, header_at, file_number}

-- what an accepted file is, where its header says its kind and these numbers
pub record Accepted (s : List ℕ) (file : ℕ) (h : Header) : Type 0 where
  pub known : file ≤ 1
  pub sized : length s ≡ 512 * blocks_of h.n h.a
  pub checked : all (blocks_in s) (λ b. checks (sum_at file b) (in_block s b)) ≡ true
  pub header : laid_out file 1 (header_count h.choice) (in_block s 0) ≡ true
  pub ranged : out_of_range h.n h.a h.k ≡ false
  pub fit : unfit_value h.choice h.value ≡ false
  pub later : later_laid file h s ≡ true
  pub rows : sum h.n (degree_at s) ≡ h.a
  pub named : labelled h.n h.k s ≡ true

-- the numbers in range
pub record InRange (n a k : ℕ) : Type 0 where
  pub some : 0 < n
  pub few : n ≤ most_vertices
  pub few_arcs : a ≤ most_arcs
  pub two : 2 ≤ k
  pub most : k ≤ 16

pub in-range : (n a k : ℕ) → out_of_range n a k ≡ false → InRange n a k
unfolding out_of_range
in-range n a k h =
    let p = or-false (eqb n 0) (ltb most_vertices n || (ltb most_arcs a || (ltb k 2 || ltb 16 k))) h in
    let q = or-false (ltb most_vertices n) (ltb most_arcs a || (ltb k 2 || ltb 16 k)) p.1 in
    let r = or-false (ltb most_arcs a) (ltb k 2 || ltb 16 k) q.1 in
    let t = or-false (ltb k 2) (ltb 16 k) r.1 in
    let z = eqb-false n 0 p.0 in
    record {
      some = omega (arith, z);
      few = ltb-false most_vertices n q.0;
      few_arcs = ltb-false most_arcs a r.0;
      two = ltb-false k 2 t.0;
      most = ltb-false 16 k t.1;
    }

-- a number that is not given leaves the next
pub not-given : (t : Bool) (c x : ℕ) → 0 < c → cond t c x ≡ 0 → (t ≡ false) × (x ≡ 0)
not-given true c x l e = absurd (omega arith)
not-given false c x l e = (refl, e)

-- the counts of blocks and of bytes
pub counted : (s : List ℕ) (m : ℕ) → bad_length s ≡ false → blocks_in s ≡ m → length s ≡ 512 * m
unfolding bad_length
counted s m h e =
    let r = eqb-true (length s % 512) 0 (not-false (eqb (length s % 512) 0) (or-false (eqb (length s) 0) (not (eqb (length s % 512) 0)) h).1) in
    omega arith

module _ (s : List ℕ) where
  -- the length of an accepted file is good
  pub good_length : file_number s ≡ 0 → bad_length s ≡ false
  unfolding file_number
  good_length h = (not-given (bad_length s) 9 _ (omega arith) h).0

  -- and so is that of a file as long
  pub same-length-good : (t : List ℕ) → length t ≡ length s → file_number s ≡ 0 → bad_length t ≡ false
  unfolding bad_length
  same-length-good t e h = rw e (good_length h)

  pub accepts : file_number s ≡ 0 → Accepted s (kind_of s) (header_at s)
  unfolding file_number bad_kind bad_check bad_header bad_numbers bad_later bad_records
  accepts h =
      let p = not-given (bad_length s) 9 _ (omega arith) h in
      let o = not-given (bad_kind s) 11 _ (omega arith) p.1 in
      let q = not-given (bad_check (kind_of s) s) 10 _ (omega arith) o.1 in
      let r = not-given (bad_header (kind_of s) s) 11 _ (omega arith) q.1 in
      let t = not-given (bad_numbers (header_at s)) 12 _ (omega arith) r.1 in
      let u = not-given (bad_later (kind_of s) (header_at s) s) 13 _ (omega arith) t.1 in
      let v = not-given (bad_records (header_at s) s) 14 0 (omega arith) u.1 in
      let numbers = or-false (out_of_range (word s 1) (word s 2) (word s 3)) (unfit_value (word s 4) (word s 5 + wrap * word s 6)) t.0 in
      let later = or-false (not (eqb (blocks_in s) (blocks_of (word s 1) (word s 2)))) (not (later_laid (kind_of s) (header_at s) s)) u.0 in
      let records = or-false (not (eqb (sum (word s 1) (degree_at s)) (word s 2))) (not (labelled (word s 1) (word s 3) s)) v.0 in
      record {
        known = ltb-false 1 (kind_of s) o.0;
        sized = counted s _ p.0 (eqb-true _ _ (not-false _ later.0));
        checked = not-false _ q.0;
        header = not-false _ r.0;
        ranged = numbers.0;
        fit = numbers.1;
        later = not-false _ later.1;
        rows = eqb-true _ _ (not-false _ records.0);
        named = not-false _ records.1;
      }

  -- and where nothing applies, the number is 0
  pub accepted-number : Accepted s (kind_of s) (header_at s) → file_number s ≡ 0
  unfolding file_number bad_length bad_kind bad_check bad_header bad_numbers bad_later bad_records blocks_of
  accepted-number g =
      let r : length s % 512 ≡ 0 = (let z = g.sized in omega arith) in
      let b : blocks_in s ≡ blocks_of (word s 1) (word s 2) = (let z = g.sized in omega arith) in
      let z : (length s ≡ 0 → ⊥) = (λ e. let z = g.sized in omega arith) in
      simp (ne_eqb (length s) 0 z, eq-eqb (length s % 512) 0 r, le-ltb 1 (kind_of s) g.known, g.checked, g.header, g.ranged, g.fit, eq-eqb _ _ b, g.later, eq-eqb _ _ g.rows, g.named)

  -- a block that has not the sum that it must have: 10, or 11 where the file's kind is above 1
  pub unchecked-refused : (b : ℕ) → bad_length s ≡ false → b < blocks_in s → checks (sum_at (kind_of s) b) (in_block s b) ≡ false → file_number s ≡ cond (bad_kind s) 11 10
  unfolding file_number bad_check
  unchecked-refused b long l fails =
      simp (long, all-fails (blocks_in s) b (λ b. checks (sum_at (kind_of s) b) (in_block s b)) l fails)

-- the sum of a block of an accepted file
pub checked-sum : (s : List ℕ) (file : ℕ) (h : Header) (b : ℕ) → Accepted s file h → b < blocks_in s → sum 128 (in_block s b) % wrap ≡ sum_at file b
unfolding checks
checked-sum s file h b g l =
    eqb-true (sum 128 (in_block s b) % wrap) (sum_at file b) (all-at (blocks_in s) b (λ b. checks (sum_at file b) (in_block s b)) g.checked l)

-- What the reader's loops do, a turn at a time, and how they end. Assumes nothing.
use mathlib.Core.Path.{◌≡◌, refl, sym, ap, ap₂, ◌∙◌}
use mathlib.Core.Bool.{Bool, true, false, not, cond, ◌||◌}
use mathlib.Core.List.{List}
use Prim.Native.Nat.{ℕ, zero, suc, ◌+◌, ◌*◌, ◌/◌, ◌%◌, ◌≤◌, ◌<◌}
use native.Mathlib.Omega.{arith}
use lib.ListN.{length, get_or, set, length-set}
use lib.Dec.{ltb, eqb}
use borrow.Author.Tests.{eq-eqb, ne_eqb, lt-ltb, le-ltb, eqb-true, eqb-false, not-false, ltb-false}
use Rattle.lists.specs.Sum.{sum}
use Rattle.lists.specs.All.{all}
use Rattle.lists.specs.Fill.{written, table, over}
use Rattle.lists.specs.Number.{or_else}
use Rattle.lists.proofs.Bools.{or-true, or-none, or-false}
use Rattle.lists.proofs.Sums.{sum-none, sum_more, sum_step}
use Rattle.lists.proofs.Totals.{sum-ext, sum-grows}
use Rattle.lists.proofs.Alls.{all_more, all-fails}
use Rattle.lists.proofs.Tables.{table_at, table-ext, written_over}
use Rattle.lists.proofs.Fills.{written_none, written-more}
use Rattle.imbalance.specs.Limit.{most_vertices, most_arcs}
use Rattle.plan_blocks.specs.declared.header.Header.{Header}
use Rattle.plan_blocks.specs.Word.{wrap, word}
use Rattle.plan_blocks.specs.Block.{blocks_for, blocks_of}
use Rattle.plan_blocks.specs.Decode.{blocks_in, kind_of, vertex_at, arc_at, label_at, degree_at, header_at, bad_length, bad_kind, bad_check, bad_header, bad_numbers, later_laid, bad_later, labelled, bad_records, plan_of, file_number}
use Rattle.plan_blocks.proofs.Accepts.{in-range, not-given, counted, accepts}
use Rattle.plan_reader.specs.Read.{starts_of, short, number_for}
use Rattle.plan_reader.specs.inner.Reading.{frame_number, plan_number}

-- what an accepted file's numbers are
pub record Fine (s : List ℕ) : Type 0 where
  pub sized : length s ≡ 512 * (1 + (word s 1 + 62) / 63 + (word s 2 + 62) / 63)
  pub few : word s 1 ≤ most_vertices
  pub few_arcs : word s 2 ≤ most_arcs
  pub rows : sum (word s 1) (degree_at s) ≡ word s 2

pub fine : (s : List ℕ) → file_number s ≡ 0 → Fine s
unfolding blocks_of blocks_for
fine s h =
    let g = accepts s h in
    let i = in-range (word s 1) (word s 2) (word s 3) g.ranged in
    record { sized = g.sized; few = i.few; few_arcs = i.few_arcs; rows = g.rows }

-- number 14, vertex by vertex
pub record Passed (s : List ℕ) (n k sum' v : ℕ) : Type 0 where
  pub within : v ≤ n
  pub degrees : sum' ≡ sum v (degree_at s)
  pub small : sum' ≤ 65535 * v
  pub labels : all v (λ u. ltb (label_at s u) k) ≡ true

module _ (s : List ℕ) (header : Header) (t v x at : ℕ) (place : at ≡ vertex_at v) (read : x ≡ word s (at + 1)) where
  is-second : x ≡ word s (vertex_at v + 1)
  is-second = read ∙ ap (λ (y : ℕ). word s (y + 1)) place

  pub pass-more : (degree : ℕ) → degree ≡ x / 65536 → Passed s header.n header.k t v → v < header.n → x < wrap → x % 65536 < header.k → Passed s header.n header.k (t + degree) (v + 1)
  pass-more degree d h l f m =
      let b = h.small in
      record {
        within = omega arith;
        degrees = sum_step v t degree (degree_at s) h.degrees (d ∙ ap (λ (y : ℕ). y / 65536) is-second);
        small = omega arith;
        labels = all_more v (λ u. ltb (label_at s u) header.k) h.labels (lt-ltb (label_at s v) header.k (rw is-second at m));
      }

  pub label-fails : v < header.n → header.k ≤ x % 65536 → true ≡ bad_records header s
  unfolding bad_records labelled
  label-fails l m =
      let f = all-fails header.n v (λ u. ltb (label_at s u) header.k) l (le-ltb (label_at s v) header.k (rw is-second at m)) in
      let differ = not (eqb (sum header.n (degree_at s)) header.a) in
      sym (ap (λ (t : Bool). differ || not t) f ∙ or-true differ)

pub records-judged : (s : List ℕ) (header : Header) (t v : ℕ) → v ≡ header.n → Passed s header.n header.k t v → not (eqb t header.a) ≡ bad_records header s
unfolding bad_records labelled
records-judged s header t v ev h =
    let d : t ≡ sum header.n (degree_at s) = rw ev at h.degrees in
    let f : all header.n (λ u. ltb (label_at s u) header.k) ≡ true = rw ev at h.labels in
    rw (d, f) (sym (or-none (not (eqb (sum header.n (degree_at s)) header.a))))

-- numbers 9 and 13, as far as the later tests lean on them
pub long-enough : (s : List ℕ) → bad_length s ≡ false → 512 ≤ length s
unfolding bad_length
long-enough s h =
    let p = or-false (eqb (length s) 0) (not (eqb (length s % 512) 0)) h in
    let z = eqb-false (length s) 0 p.0 in
    let r = eqb-true (length s % 512) 0 (not-false (eqb (length s % 512) 0) p.1) in
    omega (arith, z)

pub sized-by : (s : List ℕ) (header : Header) (file : ℕ) → bad_length s ≡ false → bad_later file header s ≡ false → length s ≡ 512 * blocks_of header.n header.a
unfolding bad_later
sized-by s header file h l =
    let q = or-false (not (eqb (blocks_in s) (blocks_of header.n header.a))) (not (later_laid file header s)) l in
    counted s _ h (eqb-true _ _ (not-false _ q.0))

-- number 13, by its two tests
module _ (s : List ℕ) (file m : ℕ) (header : Header) (em : m ≡ blocks_of header.n header.a) where
  pub blocks-differ : (blocks_in s ≡ m → ⊥) → true ≡ bad_later file header s
  unfolding bad_later
  blocks-differ ne = sym (rw (← em, ne_eqb (blocks_in s) m ne))

  pub later-judged : (r : Bool) (read : ℕ) → blocks_in s ≡ m → read ≡ file → r ≡ later_laid read header s → not r ≡ bad_later file header s
  unfolding bad_later
  later-judged r read e ef er = sym (rw (← em, eq-eqb (blocks_in s) m e, ← ef, ← er))

-- the reader's number is that of the frame, or else that of the plan
module _ (s : List ℕ) (labels weights starts neighbours arc_weights : ℕ) where
  in_two : number_for s labels weights starts neighbours arc_weights ≡ or_else (frame_number s) (plan_number (header_at s) s labels weights starts neighbours arc_weights)
  unfolding number_for file_number frame_number plan_number plan_of
  in_two = go (bad_length s) (bad_kind s) (bad_check (kind_of s) s) (bad_header (kind_of s) s) (bad_numbers (header_at s)) (bad_later (kind_of s) (header_at s) s) (bad_records (header_at s) s) _
    where
      go : (a k b c d e f : Bool) (m : ℕ) → or_else (cond a 9 (cond k 11 (cond b 10 (cond c 11 (cond d 12 (cond e 13 (cond f 14 0))))))) m ≡ or_else (cond a 9 (cond k 11 (cond b 10 (cond c 11 0)))) (cond d 12 (cond e 13 (cond f 14 m)))
      go true k b c d e f m = refl
      go false true b c d e f m = refl
      go false false true c d e f m = refl
      go false false false true d e f m = refl
      go false false false false true e f m = refl
      go false false false false false true f m = refl
      go false false false false false false true m = refl
      go false false false false false false false m = refl

  pub by-frame : (m : ℕ) → m ≡ frame_number s → (m ≡ 0 → ⊥) → m ≡ number_for s labels weights starts neighbours arc_weights
  by-frame zero e ne = absurd (ne refl)
  by-frame (suc m) e ne = sym (in_two ∙ rw (← e))

  pub by-plan : (k : ℕ) (header : Header) → frame_number s ≡ 0 → header ≡ header_at s → k ≡ plan_number header s labels weights starts neighbours arc_weights → k ≡ number_for s labels weights starts neighbours arc_weights
  by-plan k header z h q = q ∙ ap (λ (x : Header). plan_number x s labels weights starts neighbours arc_weights) h ∙ sym (in_two ∙ rw z)

-- a frame that is not refused has whole blocks
pub whole-blocks : (s : List ℕ) → frame_number s ≡ 0 → bad_length s ≡ false
unfolding frame_number
whole-blocks s z = (not-given (bad_length s) 9 _ (omega arith) z).0

-- where the reader's number is 0, the file is accepted and the targets are long enough
pub record AcceptedPlaces (s : List ℕ) (l w t n a : ℕ) : Type 0 where
  pub accepted : file_number s ≡ 0
  pub labels : word s 1 ≤ l
  pub weights : word s 1 ≤ w
  pub starts : word s 1 + 1 ≤ t
  pub neighbours : word s 2 ≤ n
  pub arc_weights : word s 2 ≤ a

module _ (s : List ℕ) (l w t n a : ℕ) where
  pub accepted-places : number_for s l w t n a ≡ 0 → AcceptedPlaces s l w t n a
  unfolding number_for plan_of short
  accepted-places h = go (file_number s) refl h
    where
      fits : (b : Bool) → b ≡ (ltb l (word s 1) || (ltb w (word s 1) || (ltb t (word s 1 + 1) || (ltb n (word s 2) || ltb a (word s 2))))) → ◌≡◌ {A = ℕ} (cond b 15 0) 0 → file_number s ≡ 0 → AcceptedPlaces s l w t n a
      fits true e z f = absurd (omega arith)
      fits false e z f =
          let p = or-false (ltb l (word s 1)) (ltb w (word s 1) || (ltb t (word s 1 + 1) || (ltb n (word s 2) || ltb a (word s 2)))) (sym e) in
          let q = or-false (ltb w (word s 1)) (ltb t (word s 1 + 1) || (ltb n (word s 2) || ltb a (word s 2))) p.1 in
          let r = or-false (ltb t (word s 1 + 1)) (ltb n (word s 2) || ltb a (word s 2)) q.1 in
          let u = or-false (ltb n (word s 2)) (ltb a (word s 2)) r.1 in
          record {
            accepted = f;
            labels = ltb-false l (word s 1) p.0;
            weights = ltb-false w (word s 1) q.0;
            starts = ltb-false t (word s 1 + 1) r.0;
            neighbours = ltb-false n (word s 2) u.0;
            arc_weights = ltb-false a (word s 2) u.1;
          }

      go : (m : ℕ) → file_number s ≡ m → or_else m (cond (ltb l (word s 1) || (ltb w (word s 1) || (ltb t (word s 1 + 1) || (ltb n (word s 2) || ltb a (word s 2))))) 15 0) ≡ 0 → AcceptedPlaces s l w t n a
      go zero e z = fits _ refl z e
      go (suc m) e z = absurd (omega arith)

-- the numbers of an accepted file's header are in range
pub numbers-fit : (s : List ℕ) (header : Header) → header ≡ header_at s → file_number s ≡ 0 → bad_numbers header ≡ false
unfolding bad_numbers
numbers-fit s header e z = let g = accepts s z in rw (e, g.ranged, g.fit) refl

-- the vertices' records, vertex by vertex
pub record VerticesTo (s labels₀ weights₀ starts₀ : List ℕ) (n : ℕ) (labels weights starts : List ℕ) (row v : ℕ) : Type 0 where
  pub file : Fine s
  pub all : n ≡ word s 1
  pub room_labels : n ≤ length labels₀
  pub room_weights : n ≤ length weights₀
  pub room_starts : n + 1 ≤ length starts₀
  pub within : v ≤ n
  pub rows : row ≡ sum v (degree_at s)
  pub labelled : labels ≡ written (label_at s) v labels₀
  pub weighed : weights ≡ written (λ u. word s (vertex_at u)) v weights₀
  pub started : starts ≡ written (λ u. sum u (degree_at s)) v starts₀
  pub long_labels : length labels ≡ length labels₀
  pub long_weights : length weights ≡ length weights₀
  pub long_starts : length starts ≡ length starts₀

module _ (s labels₀ weights₀ starts₀ : List ℕ) (n : ℕ) where
  pub vertices-none : Fine s → n ≡ word s 1 → n ≤ length labels₀ → n ≤ length weights₀ → n + 1 ≤ length starts₀ → VerticesTo s labels₀ weights₀ starts₀ n labels₀ weights₀ starts₀ 0 0
  vertices-none f e l w t =
      record {
        file = f;
        all = e;
        room_labels = l;
        room_weights = w;
        room_starts = t;
        within = omega arith;
        rows = sym (sum-none (degree_at s));
        labelled = written_none (label_at s) labels₀;
        weighed = written_none (λ u. word s (vertex_at u)) weights₀;
        started = written_none (λ u. sum u (degree_at s)) starts₀;
        long_labels = refl;
        long_weights = refl;
        long_starts = refl;
      }

module _ (s labels₀ weights₀ starts₀ : List ℕ) (n : ℕ) (labels weights starts : List ℕ) (row v : ℕ) (h : VerticesTo s labels₀ weights₀ starts₀ n labels weights starts row v) where
  -- a row's start and its degree are at most a
  pub row-most : v < n → (x at : ℕ) → at ≡ vertex_at v → x ≡ word s (at + 1) → row + x / 65536 ≤ most_arcs
  row-most l x at p e =
      let d : x / 65536 ≡ degree_at s v = ap (λ (y : ℕ). y / 65536) (e ∙ ap (λ (y : ℕ). word s (y + 1)) p) in
      let m = sum_more v (degree_at s) in
      let g = sum-grows (v + 1) (word s 1) (degree_at s) (let q = h.all in omega arith) in
      let f = h.file.rows in
      let k = h.file.few_arcs in
      let r = h.rows in
      omega arith

  pub vertices-more : v < n → (x y at : ℕ) → at ≡ vertex_at v → x ≡ word s (at + 1) → y ≡ word s at
      → VerticesTo s labels₀ weights₀ starts₀ n (set labels v (x % 65536)) (set weights v y) (set starts v row) (row + x / 65536) (v + 1)
  vertices-more l x y at p ex ey =
      let e : x ≡ word s (vertex_at v + 1) = ex ∙ ap (λ (y : ℕ). word s (y + 1)) p in
      record {
        file = h.file;
        all = h.all;
        room_labels = h.room_labels;
        room_weights = h.room_weights;
        room_starts = h.room_starts;
        within = omega arith;
        rows = sum_step v row (x / 65536) (degree_at s) h.rows (ap (λ (y : ℕ). y / 65536) e);
        labelled = written-more (label_at s) v labels₀ labels _ (ap (λ (z : ℕ). set labels v (z % 65536)) e) h.labelled;
        weighed = written-more (λ u. word s (vertex_at u)) v weights₀ weights _ (ap (set weights v) (ey ∙ ap (word s) p)) h.weighed;
        started = written-more (λ u. sum u (degree_at s)) v starts₀ starts _ (ap (set starts v) h.rows) h.started;
        long_labels = length-set labels v (x % 65536) ∙ h.long_labels;
        long_weights = length-set weights v y ∙ h.long_weights;
        long_starts = length-set starts v row ∙ h.long_starts;
      }

-- the starts of the degrees in the file
starts-are : (s : List ℕ) → table (word s 1 + 1) (λ v. sum v (degree_at s)) ≡ starts_of (word s 1) (plan_of s).degrees
unfolding starts_of plan_of
starts-are s =
    table-ext (word s 1 + 1) (λ v. sum v (degree_at s)) (λ v. sum v (λ u. get_or (table (word s 1) (degree_at s)) u 0)) (λ v l. sum-ext v (degree_at s) (λ u. get_or (table (word s 1) (degree_at s)) u 0) (λ u m. sym (table_at (word s 1) u 0 (degree_at s) (omega arith))))

module _ (s labels₀ weights₀ starts₀ : List ℕ) (n : ℕ) (labels weights starts : List ℕ) (row v : ℕ) (h : VerticesTo s labels₀ weights₀ starts₀ n labels weights starts row v) (e : v ≡ n) where
  pub vertices-done : (labels ≡ over (plan_of s).labels labels₀) × (weights ≡ over (plan_of s).weights weights₀) × (set starts n row ≡ over (starts_of (word s 1) (plan_of s).degrees) starts₀)
  unfolding plan_of
  vertices-done =
      let u : v ≡ word s 1 = e ∙ h.all in
      let k : set starts n row ≡ written (λ u. sum u (degree_at s)) (v + 1) starts₀ = written-more (λ u. sum u (degree_at s)) v starts₀ starts _ (ap₂ (set starts) (sym e) h.rows) h.started in (
        (rw u at h.labelled) ∙ written_over (label_at s) (word s 1) labels₀ (let q = h.all in let r = h.room_labels in omega arith),
        (rw u at h.weighed) ∙ written_over (λ u. word s (vertex_at u)) (word s 1) weights₀ (let q = h.all in let r = h.room_weights in omega arith),
        (rw u at k) ∙ written_over (λ u. sum u (degree_at s)) (word s 1 + 1) starts₀ (let q = h.all in let r = h.room_starts in omega arith) ∙ ap (λ (xs : List ℕ). over xs starts₀) (starts-are s),
      )

-- the arcs' records, arc by arc
pub record ArcsTo (s neighbours₀ weights₀ : List ℕ) (a first : ℕ) (neighbours weights : List ℕ) (e : ℕ) : Type 0 where
  pub file : Fine s
  pub all : a ≡ word s 2
  pub from : first ≡ 1 + blocks_for (word s 1)
  pub room_neighbours : a ≤ length neighbours₀
  pub room_weights : a ≤ length weights₀
  pub within : e ≤ a
  pub joined : neighbours ≡ written (λ u. word s (arc_at (word s 1) u)) e neighbours₀
  pub weighed : weights ≡ written (λ u. word s (arc_at (word s 1) u + 1)) e weights₀
  pub long_neighbours : length neighbours ≡ length neighbours₀
  pub long_weights : length weights ≡ length weights₀

pub arcs-none : (s neighbours₀ weights₀ : List ℕ) (a first : ℕ) → Fine s → a ≡ word s 2 → first ≡ 1 + blocks_for (word s 1) → a ≤ length neighbours₀ → a ≤ length weights₀ → ArcsTo s neighbours₀ weights₀ a first neighbours₀ weights₀ 0
arcs-none s neighbours₀ weights₀ a first f e o n w =
    record {
      file = f;
      all = e;
      from = o;
      room_neighbours = n;
      room_weights = w;
      within = omega arith;
      joined = written_none (λ u. word s (arc_at (word s 1) u)) neighbours₀;
      weighed = written_none (λ u. word s (arc_at (word s 1) u + 1)) weights₀;
      long_neighbours = refl;
      long_weights = refl;
    }

module _ (s neighbours₀ weights₀ : List ℕ) (a first : ℕ) (neighbours weights : List ℕ) (e : ℕ) (h : ArcsTo s neighbours₀ weights₀ a first neighbours weights e) where
  pub arcs-more : e < a → (x y at : ℕ) → at ≡ 128 * (first + e / 63) + 1 + 2 * (e % 63) → x ≡ word s at → y ≡ word s (at + 1) → ArcsTo s neighbours₀ weights₀ a first (set neighbours e x) (set weights e y) (e + 1)
  arcs-more l x y at p ex ey =
      let q : at ≡ arc_at (word s 1) e = p ∙ ap (λ (z : ℕ). 128 * (z + e / 63) + 1 + 2 * (e % 63)) h.from in
      record {
        file = h.file;
        all = h.all;
        from = h.from;
        room_neighbours = h.room_neighbours;
        room_weights = h.room_weights;
        within = omega arith;
        joined = written-more (λ u. word s (arc_at (word s 1) u)) e neighbours₀ neighbours _ (ap (set neighbours e) (ex ∙ ap (word s) q)) h.joined;
        weighed = written-more (λ u. word s (arc_at (word s 1) u + 1)) e weights₀ weights _ (ap (set weights e) (ey ∙ ap (λ (z : ℕ). word s (z + 1)) q)) h.weighed;
        long_neighbours = length-set neighbours e x ∙ h.long_neighbours;
        long_weights = length-set weights e y ∙ h.long_weights;
      }

  pub arcs-done : e ≡ a → (neighbours ≡ over (plan_of s).neighbours neighbours₀) × (weights ≡ over (plan_of s).arc_weights weights₀)
  unfolding plan_of
  arcs-done q =
      let u : e ≡ word s 2 = q ∙ h.all in (
        (rw u at h.joined) ∙ written_over (λ u. word s (arc_at (word s 1) u)) (word s 2) neighbours₀ (let q = h.all in let r = h.room_neighbours in omega arith),
        (rw u at h.weighed) ∙ written_over (λ u. word s (arc_at (word s 1) u + 1)) (word s 2) weights₀ (let q = h.all in let r = h.room_weights in omega arith),
      )

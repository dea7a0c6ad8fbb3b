-- THE ROUND TRIPS, over the promises of `read_plan` and `write_plan`. Assumes nothing.
use mathlib.Core.Path.{◌≡◌, refl, sym, ap, ap₂, ◌∙◌, subst}
use mathlib.Core.Bool.{Bool, true, false, cond}
use mathlib.Core.List.{List}
use Prim.Native.Nat.{ℕ, suc, ◌+◌, ◌-◌, ◌/◌, ◌≤◌, ◌<◌}
use native.Mathlib.Omega.{arith}
use lib.ListN.{length, get_or, take, drop, get_or-eq_default}
use lib.Seq.{ext_get_or, take_at}
use lib.Dec.{ltb, eqb}
use lib.Ieee.{binary64, of_bits, to_bits}
use lib.Ieee.Bits.{of_bits-to_bits}
use borrow.Author.Tests.{eqb-true, ne_eqb, ltb-true, ltb-false}
use Rattle.lists.specs.Sum.{sum}
use Rattle.lists.specs.Fill.{table, over}
use Rattle.lists.proofs.Totals.{sum-ext}
use Rattle.lists.proofs.Tables.{length-table, table_at}
use Rattle.imbalance.specs.Ceiling.{zero64}
use Rattle.imbalance.specs.declared.Ceiling.{Ceiling}
use Rattle.topology.proofs.Starts.{start_first, start-rises}
use Rattle.plan_blocks.specs.Word.{wrap, word}
use Rattle.plan_blocks.specs.Block.{new_kind}
use Rattle.plan_blocks.specs.Plan.{Plan, Legal, header_in, value_of, each_of}
use Rattle.plan_blocks.specs.Encode.{encode}
use Rattle.plan_blocks.specs.Decode.{blocks_in, kind_of, bad_kind, vertex_at, arc_at, plan_of, file_number}
use Rattle.plan_blocks.specs.Exchanged.{Exchanged}
use Rattle.plan_blocks.proofs.WordLaws.{Bytes, word_below, bytes_below}
use Rattle.plan_blocks.proofs.Accepts.{accepts}
use Rattle.plan_blocks.proofs.Rewritten.{same_bytes}
use Rattle.plan_blocks.proofs.Reread.{same_number, same-plan, length-is, kind-is}
use Rattle.plan_blocks.proofs.RoundTrips.{legal-places}
use Rattle.plan_blocks.proofs.Changed.{refused-changed}
use Rattle.plan_blocks.proofs.Exchanges.{refused-exchanged}
use Rattle.plan_reader.specs.declared.ReadAnswer.{ReadAnswer}
use Rattle.plan_reader.specs.Read.{Targets, short, number_for, read_number, starts_of, ceiling_in, header_of, refusal_of, handed, read_answer, read_left, Read}
use Rattle.plan_reader.proofs.ReadLaws.{accepted-places}
use Rattle.plan_reader.proofs.ReadEntry.{same-targets}
use Rattle.plan_writer.specs.declared.WriteAnswer.{WriteAnswer}
use Rattle.plan_writer.specs.Write.{Given, plan_with, plan_from, vertices, arcs, size_of, write_number, write_answer, write_left, Written}
use Rattle.plan_writer.proofs.WriteEntry.{rows_in, Fits, fits}
use Rattle.plan.proofs.LegalPlans.{Typed, given_of, legal-given, plan-given, typed-given, fits-given, fits-number, telescope, each-written}

-- what the promises say where the number is 0
module _ (s : List ℕ) (t u : Targets) (r : ReadAnswer) (h : Read s t r u) where
  pub read-zero : r.number ≡ 0 → read_number s t ≡ 0
  unfolding read_answer
  read-zero z = go (eqb (read_number s t) 0) refl h.answered
    where
      go : (b : Bool) → eqb (read_number s t) 0 ≡ b → r ≡ cond b (header_of (plan_of s)) (refusal_of (read_number s t)) → read_number s t ≡ 0
      go true e q = eqb-true (read_number s t) 0 e
      go false e q = sym (ap (λ (x : ReadAnswer). x.number) q) ∙ z

  pub read-header : read_number s t ≡ 0 → r ≡ header_of (plan_of s)
  unfolding read_answer
  read-header z = rw z at h.answered

  pub read-lists : read_number s t ≡ 0 → u ≡ handed (plan_of s) t
  unfolding read_left
  read-lists z =
      same-targets (rw z at h.labels) (rw z at h.weights) (rw z at h.starts) (rw z at h.neighbours) (rw z at h.arc_weights)

module _ (g : Given) (b c : List ℕ) (q : WriteAnswer) (h : Written g b q c) where
  write-number : q.number ≡ write_number g (length b)
  unfolding write_answer
  write-number = ap (λ (x : WriteAnswer). x.number) h.answered

  pub write-zero : q.number ≡ 0 → write_number g (length b) ≡ 0
  write-zero z = sym write-number ∙ z

  pub write-length : write_number g (length b) ≡ 0 → q.length ≡ size_of (vertices g) (arcs g)
  unfolding write_answer
  write-length z = ap (λ (x : WriteAnswer). x.length) (rw z at h.answered)

  pub write_bytes : write_number g (length b) ≡ 0 → c ≡ over (encode new_kind (plan_from g)) b
  unfolding write_left
  write_bytes z = rw z at h.target

-- the plan of an accepted file, as the writer takes it
table_below : (m n : ℕ) (f : ℕ → ℕ) → 0 < m → ((i : ℕ) → f i < m) → (i : ℕ) → get_or (table n f) i 0 < m
table_below m n f z h i = go (ltb i n) refl
  where
    go : (t : Bool) → ltb i n ≡ t → get_or (table n f) i 0 < m
    go true e = rw (table_at n i 0 f (ltb-true i n e)) (h i)
    go false e = let l = length-table n f in let k = ltb-false i n e in rw (get_or-eq_default (table n f) 0 {n = i} (omega arith)) z

module _ (s : List ℕ) (h : Bytes s) (z : file_number s ≡ 0) where
  legal : Legal (plan_of s)
  legal = legal-places s h z

  size_is : size_of (plan_of s).n (plan_of s).a ≡ length s
  unfolding size_of plan_of
  size_is = sym (accepts s z).sized

  typed-places : Typed (given_of (plan_of s))
  unfolding plan_of
  typed-places =
      typed-given (plan_of s) legal
      (table_below wrap (word s 1) (λ v. word s (vertex_at v)) (omega arith) (λ v. word_below s h (vertex_at v)))
      (table_below wrap (word s 2) (λ e. word s (arc_at (word s 1) e)) (omega arith) (λ e. word_below s h (arc_at (word s 1) e)))
      (table_below wrap (word s 2) (λ e. word s (arc_at (word s 1) e + 1)) (omega arith) (λ e. word_below s h (arc_at (word s 1) e + 1)))

  -- the new file of the plan is as long
  length-renewed : length (encode new_kind (plan_of s)) ≡ length s
  unfolding size_of
  length-renewed = length-is (plan_of s) legal new_kind (omega arith) ∙ size_is

  number-places : (places : ℕ) → length s ≤ places → write_number (given_of (plan_of s)) places ≡ 0
  number-places places l = let e = size_is in fits-number (given_of (plan_of s)) places (fits-given (plan_of s) legal places (omega arith))

  bytes-places : encode (kind_of s) (plan_from (given_of (plan_of s))) ≡ s
  bytes-places = ap (encode (kind_of s)) (plan-given (plan_of s) legal) ∙ same_bytes s h (accepts s z)

-- APART FROM ROOM (15), THE READER ACCEPTS EXACTLY THE FILES, OF EITHER KIND, OF WHAT THE WRITER TAKES
pub accepted-writable : (s : List ℕ) → Bytes s → file_number s ≡ 0
    → (g : Given) × Typed g × (write_number g (length s) ≡ 0) × (kind_of s ≤ 1) × (encode (kind_of s) (plan_from g) ≡ s)
accepted-writable s h z =
    (given_of (plan_of s), typed-places s h z, number-places s h z (length s) (omega arith), (accepts s z).known, bytes-places s h z)

pub writable-accepted : (g : Given) (places : ℕ) → Typed g → write_number g places ≡ 0 → (file : ℕ) → file ≤ 1
    → Bytes (encode file (plan_from g)) × (file_number (encode file (plan_from g)) ≡ 0)
unfolding encode
writable-accepted g places t z file known = (bytes_below _ _, same_number (plan_from g) (legal-given g places t (fits g places z)) file known)

-- what a reader's answer and targets hold of the plan, as the writer takes it
abbrev pub given_by : ReadAnswer → Targets → Given
given_by r u =
    record {
      labels = take r.n u.labels;
      weights = take r.n u.weights;
      starts = take (r.n + 1) u.starts;
      neighbours = take r.a u.neighbours;
      arc_weights = take r.a u.arc_weights;
      k = r.k;
      ceiling = r.ceiling;
    }

given-handed : (p : Plan) → Legal p → (t : Targets) → given_by (header_of p) (handed p t) ≡ given_of p
unfolding header_of handed starts_of
given-handed p l t =
    λ i. record {
      labels = take_at p.labels (drop (length p.labels) t.labels) p.n l.labelled i;
      weights = take_at p.weights (drop (length p.weights) t.weights) p.n l.weighed i;
      starts = take_at starts (drop (length starts) t.starts) (p.n + 1) (length-table (p.n + 1) _) i;
      neighbours = take_at p.neighbours (drop (length p.neighbours) t.neighbours) p.a l.joined i;
      arc_weights = take_at p.arc_weights (drop (length p.arc_weights) t.arc_weights) p.a l.paired i;
      k = p.k;
      ceiling = ceiling_in (header_in p);
    }
  where
    starts : List ℕ
    starts = table (p.n + 1) (λ v. sum v (λ u. get_or p.degrees u 0))

-- AN ACCEPTED FILE READ AND REWRITTEN is the new file of the plan that it holds
pub read-then-renewed : (s : List ℕ) (t u : Targets) (r : ReadAnswer) (b c : List ℕ) (q : WriteAnswer) → Bytes s → Read s t r u → r.number ≡ 0 → length s ≤ length b → Written (given_by r u) b q c
    → (q.number ≡ 0) × (q.length ≡ length s) × (c ≡ over (encode new_kind (plan_of s)) b)
read-then-renewed s t u r b c q h read z places wrote =
    let m = read-zero s t u r read z in
    let f = (accepted-places s _ _ _ _ _ m).accepted in
    let l = legal s h f in
    let e : given_by r u ≡ given_of (plan_of s) = ap₂ given_by (read-header s t u r read m) (read-lists s t u r read m) ∙ given-handed (plan_of s) l t in
    let w : Written (given_of (plan_of s)) b q c = subst (λ (g : Given). Written g b q c) e wrote in
    let n = number-places s h f (length b) places in (
      write-number (given_of (plan_of s)) b c q w ∙ n,
      write-length (given_of (plan_of s)) b c q w n ∙ ap₂ size_of l.labelled l.joined ∙ size_is s h f,
      write_bytes (given_of (plan_of s)) b c q w n ∙ ap (λ (p : Plan). over (encode new_kind p) b) (plan-given (plan_of s) l),
    )

-- A NEW FILE READ AND REWRITTEN is the same bytes: "Byte identity in demand 2 then holds for new files"
pub read-then-written : (s : List ℕ) (t u : Targets) (r : ReadAnswer) (b c : List ℕ) (q : WriteAnswer) → Bytes s → kind_of s ≡ new_kind → Read s t r u → r.number ≡ 0 → length s ≤ length b → Written (given_by r u) b q c
    → (q.number ≡ 0) × (q.length ≡ length s) × (c ≡ over s b)
read-then-written s t u r b c q h new read z places wrote =
    let f = (accepted-places s _ _ _ _ _ (read-zero s t u r read z)).accepted in
    let d = read-then-renewed s t u r b c q h read z places wrote in
    let e : encode new_kind (plan_of s) ≡ s = ap (λ (file : ℕ). encode file (plan_of s)) (sym new) ∙ same_bytes s h (accepts s f) in
    (d.0, d.1, d.2 ∙ ap (λ (x : List ℕ). over x b) e)

-- what the reader is to hand over of what the writer was given; a value that the choice does not use is no part of a plan
abbrev pub ceiling_given : Ceiling → Ceiling
ceiling_given asked =
    record {
      choice = asked.choice;
      whole = cond (eqb asked.choice 1) asked.whole 0;
      imbalance = cond (eqb asked.choice 2) asked.imbalance zero64;
      each = each_of asked;
    }

abbrev pub header_given : Given → ReadAnswer
header_given g =
    record {
      number = 0;
      n = vertices g;
      a = arcs g;
      k = g.k;
      ceiling = ceiling_given g.ceiling;
    }

abbrev pub lists_given : Given → Targets → Targets
lists_given g t =
    record {
      labels = over g.labels t.labels;
      weights = over g.weights t.weights;
      starts = over g.starts t.starts;
      neighbours = over g.neighbours t.neighbours;
      arc_weights = over g.arc_weights t.arc_weights;
    }

module _ (g : Given) (places : ℕ) (typed : Typed g) (fit : Fits g places) where
  header-given : header_of (plan_from g) ≡ header_given g
  unfolding header_of plan_with value_of
  header-given =
      λ i. record {
        number = 0;
        n = vertices g;
        a = arcs g;
        k = g.k;
        ceiling =
            record {
              choice = g.ceiling.choice;
              whole = whole_is (eqb g.ceiling.choice 1) i;
              imbalance = imbalance-is g.ceiling.choice i;
              each = each_of g.ceiling;
            };
      }
    where
      whole_is : (t : Bool) → cond t (cond t g.ceiling.whole (cond (eqb g.ceiling.choice 2) (to_bits binary64 g.ceiling.imbalance) 0)) 0 ≡ cond t g.ceiling.whole 0
      whole_is true = refl
      whole_is false = refl

      two : (m : ℕ) → eqb m 2 ≡ true → eqb m 1 ≡ false
      two m e = let q = eqb-true m 2 e in ne_eqb m 1 (λ z. omega arith)

      imbalance-is : (m : ℕ) → cond (eqb m 2) (of_bits binary64 (cond (eqb m 1) g.ceiling.whole (cond (eqb m 2) (to_bits binary64 g.ceiling.imbalance) 0))) zero64 ≡ cond (eqb m 2) g.ceiling.imbalance zero64
      imbalance-is m = go (eqb m 2) refl
        where
          go : (t : Bool) → eqb m 2 ≡ t → cond t (of_bits binary64 (cond (eqb m 1) g.ceiling.whole (cond t (to_bits binary64 g.ceiling.imbalance) 0))) zero64 ≡ cond t g.ceiling.imbalance zero64
          go true e = rw (two m e) (of_bits-to_bits binary64 g.ceiling.imbalance typed.imbalance)
          go false e = refl

  starts-given : starts_of (vertices g) (plan_from g).degrees ≡ g.starts
  unfolding starts_of plan_with
  starts-given =
      ext_get_or 0 (table (vertices g + 1) sums) g.starts (length-table (vertices g + 1) sums ∙ sym fit.started) (λ v l. at v (let e = length-table (vertices g + 1) sums in omega arith))
    where
      rows : ℕ → ℕ
      rows v = get_or g.starts (v + 1) 0 - get_or g.starts v 0

      sums : ℕ → ℕ
      sums v = sum v (λ u. get_or (table (vertices g) rows) u 0)

      at : (v : ℕ) → v < vertices g + 1 → get_or (table (vertices g + 1) sums) v 0 ≡ get_or g.starts v 0
      at v l =
          let e = telescope g.starts (vertices g) v (start-rises (vertices g) (rows_in g) fit.ordered) (omega arith) in
          let z = start_first (vertices g) (rows_in g) fit.ordered in
          table_at (vertices g + 1) v 0 sums l
          ∙ sum-ext v (λ u. get_or (table (vertices g) rows) u 0) rows (λ u m. table_at (vertices g) u 0 rows (omega arith))
          ∙ (let k : sum v rows ≡ get_or g.starts v 0 = omega arith in k)

  lists-given : (t : Targets) → handed (plan_from g) t ≡ lists_given g t
  unfolding handed plan_with
  lists-given t = same-targets refl refl (ap (λ (x : List ℕ). over x t.starts) starts-given) refl refl

-- the file stands first in the target
file-first : (g : Given) (b : List ℕ) → Legal (plan_from g) → take (size_of (vertices g) (arcs g)) (over (encode new_kind (plan_from g)) b) ≡ encode new_kind (plan_from g)
unfolding size_of plan_with
file-first g b l = take_at (encode new_kind (plan_from g)) (drop (length (encode new_kind (plan_from g))) b) (size_of (vertices g) (arcs g)) (length-is (plan_from g) l new_kind (omega arith))

number-given : (g : Given) → Legal (plan_from g) → (t : Targets) → short (vertices g) (arcs g) (length t.labels) (length t.weights) (length t.starts) (length t.neighbours) (length t.arc_weights) ≡ false → read_number (encode new_kind (plan_from g)) t ≡ 0
unfolding number_for plan_with
number-given g l t roomy = rw (same_number (plan_from g) l new_kind (omega arith), same-plan (plan_from g) l new_kind (omega arith), roomy)

-- a file that holds the plan of an accepted one is read where that one is
renewed-number : (s file : List ℕ) (t : Targets) → file_number file ≡ 0 → plan_of file ≡ plan_of s → file_number s ≡ 0 → read_number s t ≡ 0 → read_number file t ≡ 0
unfolding number_for
renewed-number s file t e p f m = rw (e, p) (rw f at m)

-- a refusal of a file with a number
refused-with : (s : List ℕ) (t u : Targets) (r : ReadAnswer) (m : ℕ) → Read s t r u → file_number s ≡ suc m → (r ≡ refusal_of (suc m)) × (u ≡ t)
unfolding number_for read_answer read_left
refused-with s t u r m h e =
    let k = ne_eqb (suc m) 0 (λ z. omega arith) in
    (rw (e, k) at h.answered, same-targets (rw (e, k) at h.labels) (rw (e, k) at h.weights) (rw (e, k) at h.starts) (rw (e, k) at h.neighbours) (rw (e, k) at h.arc_weights))

-- A PLAN WRITTEN AND READ is the same plan: the header, the bits of e and the numbers by part among it, and every list
pub written-then-read : (g : Given) (b c : List ℕ) (q : WriteAnswer) (t u : Targets) (r : ReadAnswer) → Typed g → Written g b q c → q.number ≡ 0
    → short (vertices g) (arcs g) (length t.labels) (length t.weights) (length t.starts) (length t.neighbours) (length t.arc_weights) ≡ false
    → Read (take q.length c) t r u → (r ≡ header_given g) × (u ≡ lists_given g t)
written-then-read g b c q t u r typed wrote z roomy read =
    let m = write-zero g b c q wrote z in
    let f = fits g (length b) m in
    let l = legal-given g (length b) typed f in
    let s : take q.length c ≡ encode new_kind (plan_from g) = ap₂ take (write-length g b c q wrote m) (write_bytes g b c q wrote m) ∙ file-first g b l in
    let d : Read (encode new_kind (plan_from g)) t r u = subst (λ (x : List ℕ). Read x t r u) s read in
    let p = same-plan (plan_from g) l new_kind (omega arith) in
    let n = number-given g l t roomy in (
      read-header (encode new_kind (plan_from g)) t u r d n ∙ ap header_of p ∙ header-given g (length b) typed f,
      read-lists (encode new_kind (plan_from g)) t u r d n ∙ ap (λ (p : Plan). handed p t) p ∙ lists-given g (length b) typed f t,
    )

-- WITH CHOICE 3 THE SIXTEEN NUMBERS COME BACK
pub numbers-come-back : (g : Given) (b c : List ℕ) (q : WriteAnswer) (t u : Targets) (r : ReadAnswer) → Typed g → Written g b q c → q.number ≡ 0
    → short (vertices g) (arcs g) (length t.labels) (length t.weights) (length t.starts) (length t.neighbours) (length t.arc_weights) ≡ false
    → Read (take q.length c) t r u → g.ceiling.choice ≡ 3 → (i : ℕ) → i < 16 → get_or r.ceiling.each i 0 ≡ get_or g.ceiling.each i 0
numbers-come-back g b c q t u r typed wrote z roomy read new i l =
    ap (λ (x : ReadAnswer). get_or x.ceiling.each i 0) (written-then-read g b c q t u r typed wrote z roomy read).0
    ∙ each-written g.ceiling i l new

-- AN OLD FILE READ AND WRITTEN gives the new file of the same plan: what was written, read into such targets, gives the same answer and leaves the same lists
pub old-renewed : (s : List ℕ) (t u : Targets) (r : ReadAnswer) (b c : List ℕ) (q : WriteAnswer) (v : Targets) (r' : ReadAnswer) → Bytes s → Read s t r u → r.number ≡ 0 → length s ≤ length b → Written (given_by r u) b q c
    → Read (take q.length c) t r' v → (kind_of (take q.length c) ≡ new_kind) × (r' ≡ r) × (v ≡ u)
old-renewed s t u r b c q v r' h read z places wrote again =
    let m = read-zero s t u r read z in
    let f = (accepted-places s _ _ _ _ _ m).accepted in
    let l = legal s h f in
    let d = read-then-renewed s t u r b c q h read z places wrote in
    let file = encode new_kind (plan_of s) in
    let e : take q.length c ≡ file = ap₂ take d.1 d.2 ∙ take_at file (drop (length file) b) (length s) (length-renewed s h f) in
    let k : Read file t r' v = subst (λ (x : List ℕ). Read x t r' v) e again in
    let p = same-plan (plan_of s) l new_kind (omega arith) in
    let n : read_number file t ≡ 0 = renewed-number s file t (same_number (plan_of s) l new_kind (omega arith)) p f m in (
      ap kind_of e ∙ kind-is (plan_of s) l new_kind (omega arith),
      read-header file t v r' k n ∙ ap header_of p ∙ sym (read-header s t u r read m),
      read-lists file t v r' k n ∙ ap (λ (p : Plan). handed p t) p ∙ sym (read-lists s t u r read m),
    )

-- ONE WORD CHANGED: s' has the bytes of the accepted s but for its word w, and is not s; it is refused with 10, or with 11 where its kind is above 1, and nothing is written
pub one-word-changed : (s s' : List ℕ) (w : ℕ) (t u t' u' : Targets) (r r' : ReadAnswer) → Bytes s → Bytes s' → length s' ≡ length s
    → ((i : ℕ) → (i / 4 ≡ w → ⊥) → get_or s' i 0 ≡ get_or s i 0) → (s' ≡ s → ⊥)
    → Read s t r u → r.number ≡ 0 → Read s' t' r' u' → (r' ≡ refusal_of (cond (bad_kind s') 11 10)) × (u' ≡ t')
one-word-changed s s' w t u t' u' r r' h h' long rest differ read z read' =
    let m = read-zero s t u r read z in
    let f = (accepted-places s _ _ _ _ _ m).accepted in
    go (bad_kind s') (refused-changed s s' w h h' long rest differ f)
  where
    go : (k : Bool) → file_number s' ≡ cond k 11 10 → (r' ≡ refusal_of (cond k 11 10)) × (u' ≡ t')
    go true e = refused-with s' t' u' r' 10 read' e
    go false e = refused-with s' t' u' r' 9 read' e

-- TWO BLOCKS EXCHANGED: s' is the accepted s, of the new kind, with two of its blocks exchanged; it is refused with 10, and nothing is written
pub blocks-exchanged : (s s' : List ℕ) (b c : ℕ) (t u t' u' : Targets) (r r' : ReadAnswer) → Bytes s → kind_of s ≡ new_kind → Exchanged s s' b c
    → b < blocks_in s → c < blocks_in s → (b ≡ c → ⊥)
    → Read s t r u → r.number ≡ 0 → Read s' t' r' u' → (r' ≡ refusal_of 10) × (u' ≡ t')
blocks-exchanged s s' b c t u t' u' r r' h new x lb lc ne read z read' =
    let m = read-zero s t u r read z in
    let f = (accepted-places s _ _ _ _ _ m).accepted in
    refused-with s' t' u' r' 9 read' (refused-exchanged s s' b c h x f new lb lc ne)

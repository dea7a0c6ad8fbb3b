-- THE ROUND TRIPS of document 01's plan file, over files and plans. Assumes nothing.
use Rattle.std.proofs.Common.{◌≡◌, ℕ, ◌+◌, ◌/◌, ◌<◌, ◌≤◌, Bool, true, false, cond, eqb, ltb, List, length, get_or, sym, refl, ap, ◌∙◌, subst, arith, ltb-true, eqb-true}
use Rattle.lists.proofs.Totals.{sum-ext}
use Rattle.lists.proofs.Alls.{all-at}
use Rattle.lists.proofs.Tables.{length-table, table_at}
use Rattle.plan_blocks.specs.Word.{word}
use Rattle.plan_blocks.specs.Block.{new_kind}
use Rattle.plan_blocks.specs.Exchanged.{Exchanged}
use Rattle.plan_blocks.specs.Plan.{Plan, Legal, accepted, refused}
use Rattle.plan_blocks.specs.Encode.{encode}
use Rattle.plan_blocks.specs.Decode.{blocks_in, kind_of, bad_kind, vertex_at, arc_at, label_at, degree_at, labelled, plan_of, file_number, decode}
use Rattle.plan_blocks.proofs.WordLaws.{Bytes, word_below}
use Rattle.plan_blocks.proofs.Accepts.{accepts}
use Rattle.plan_blocks.proofs.Rewritten.{each-unused, same_bytes}
use Rattle.plan_blocks.proofs.Reread.{same_number, same-plan, length-is, kind-is}
use Rattle.plan_blocks.proofs.Changed.{refused-changed}
use Rattle.plan_blocks.proofs.Exchanges.{refused-exchanged}

-- a file is accepted where its number is 0, and then holds what stands in its places
pub decoded : (s : List ℕ) (p : Plan) → decode s ≡ accepted p → (file_number s ≡ 0) × (plan_of s ≡ p)
unfolding decode
decoded s p e = go (eqb (file_number s) 0) refl e
  where
    go : (t : Bool) → eqb (file_number s) 0 ≡ t → cond t (accepted (plan_of s)) (refused (file_number s)) ≡ accepted p → (file_number s ≡ 0) × (plan_of s ≡ p)
    go true q r = (eqb-true (file_number s) 0 q, cc)
    go false q r = let o : ◌≡◌ {A = ℕ} 0 1 = cc in absurd (omega arith)

pub decodes : (s : List ℕ) → file_number s ≡ 0 → decode s ≡ accepted (plan_of s)
unfolding decode
decodes s e = rw e

-- AN ACCEPTED FILE READ AND REWRITTEN in its own kind is the same bytes
pub read-then-written : (s : List ℕ) (p : Plan) → Bytes s → decode s ≡ accepted p → encode (kind_of s) p ≡ s
read-then-written s p h e = let d = decoded s p e in ap (encode (kind_of s)) (sym d.1) ∙ same_bytes s h (accepts s d.0)

-- A PLAN WRITTEN AND READ is the same plan, its value's bits among it, in a file of either kind
pub written-then-read : (p : Plan) → Legal p → (file : ℕ) → file ≤ 1 → decode (encode file p) ≡ accepted p
written-then-read p g file known = decodes (encode file p) (same_number p g file known) ∙ ap accepted (same-plan p g file known)

-- what stands in an accepted file's places is a legal plan
pub legal-places : (s : List ℕ) → Bytes s → file_number s ≡ 0 → Legal (plan_of s)
unfolding plan_of labelled
legal-places s h z =
    let g = accepts s z in
    let n = word s 1 in
    let a = word s 2 in
    record {
      ranged = g.ranged;
      fit = g.fit;
      eight = (let x = word_below s h 5 in let y = word_below s h 6 in omega arith);
      sixteen = length-table 16 _;
      each_fits = λ t l. rw (table_at 16 t 0 (λ u. word s (7 + u)) l) (word_below s h (7 + t));
      each_used = λ other t l. table_at 16 t 0 (λ u. word s (7 + u)) l ∙ each-unused s h g other t l;
      weighed = length-table n _;
      labelled = length-table n _;
      degreed = length-table n _;
      joined = length-table a _;
      paired = length-table a _;
      weights_fit = λ v l. rw (table_at n v 0 (λ u. word s (vertex_at u)) l) (word_below s h (vertex_at v));
      labels_fit =
          λ v l. rw (table_at n v 0 (label_at s) l) (ltb-true (label_at s v) (word s 3) (all-at n v (λ u. ltb (label_at s u) (word s 3)) g.named l));
      degrees_sum = sum-ext n _ (degree_at s) (λ v l. table_at n v 0 (degree_at s) l) ∙ g.rows;
      neighbours_fit = λ e l. rw (table_at a e 0 (λ u. word s (arc_at n u)) l) (word_below s h (arc_at n e));
      arc_weights_fit = λ e l. rw (table_at a e 0 (λ u. word s (arc_at n u + 1)) l) (word_below s h (arc_at n e + 1));
    }

-- "Byte identity in demand 2 then holds for new files"
pub new-rewritten : (s : List ℕ) (p : Plan) → Bytes s → decode s ≡ accepted p → kind_of s ≡ new_kind → encode new_kind p ≡ s
new-rewritten s p h e new = ap (λ (file : ℕ). encode file p) (sym new) ∙ read-then-written s p h e

-- "an old file read and written gives the new file of the same plan": as long, of the new kind, and it holds that plan
pub old-renewed : (s : List ℕ) (p : Plan) → Bytes s → decode s ≡ accepted p
    → (length (encode new_kind p) ≡ length s) × (kind_of (encode new_kind p) ≡ new_kind) × (decode (encode new_kind p) ≡ accepted p)
old-renewed s p h e =
    let d = decoded s p e in
    let g = subst Legal d.1 (legal-places s h d.0) in
    let known = (accepts s d.0).known in (
      length-is p g new_kind (omega arith) ∙ sym (length-is p g (kind_of s) known) ∙ ap length (read-then-written s p h e),
      kind-is p g new_kind (omega arith),
      written-then-read p g new_kind (omega arith),
    )

-- THE FILES THAT ARE ACCEPTED are exactly the files of legal plans, of either kind
pub accepted-legal : (s : List ℕ) (p : Plan) → Bytes s → decode s ≡ accepted p → Legal p × (kind_of s ≤ 1) × (s ≡ encode (kind_of s) p)
accepted-legal s p h e =
    let d = decoded s p e in
    (subst Legal d.1 (legal-places s h d.0), (accepts s d.0).known, sym (read-then-written s p h e))

pub legal-accepted : (s : List ℕ) (p : Plan) (file : ℕ) → Legal p → file ≤ 1 → s ≡ encode file p → decode s ≡ accepted p
legal-accepted s p file g known e = ap decode e ∙ written-then-read p g file known

-- ONE WORD CHANGED: s' has the bytes of the accepted s but for its word w, and is not s; it is refused with 10, or with 11 where its kind is above 1
pub one-word-changed : (s s' : List ℕ) (w : ℕ) (p : Plan) → Bytes s → Bytes s' → length s' ≡ length s
    → ((i : ℕ) → (i / 4 ≡ w → ⊥) → get_or s' i 0 ≡ get_or s i 0) → (s' ≡ s → ⊥) → decode s ≡ accepted p → decode s' ≡ refused (cond (bad_kind s') 11 10)
unfolding decode
one-word-changed s s' w p h h' long rest differ e =
    rw (refused-changed s s' w h h' long rest differ (decoded s p e).0) (go (bad_kind s'))
  where
    go : (t : Bool) → cond (eqb (cond t 11 10) 0) (accepted (plan_of s')) (refused (cond t 11 10)) ≡ refused (cond t 11 10)
    go true = refl
    go false = refl

-- TWO BLOCKS EXCHANGED: t is the accepted s, of the new kind, with two of its blocks exchanged; it is refused with 10
pub blocks-exchanged : (s t : List ℕ) (b c : ℕ) (p : Plan) → Bytes s → decode s ≡ accepted p → kind_of s ≡ new_kind → Exchanged s t b c
    → b < blocks_in s → c < blocks_in s → (b ≡ c → ⊥) → decode t ≡ refused 10
unfolding decode
blocks-exchanged s t b c p h e new x lb lc ne = rw (refused-exchanged s t b c h x (decoded s p e).0 new lb lc ne)

-- The lists that the reader hands over, and the text of a plan that it accepts. Assumes nothing.
use mathlib.Core.Path.{◌≡◌, refl, sym, ap, ◌∙◌}
use mathlib.Core.Bool.{Bool, true, false, cond}
use mathlib.Core.List.{List}
use Prim.Native.Nat.{ℕ, ◌+◌, ◌≤◌}
use native.Mathlib.Omega.{arith}
use lib.ListN.{length, get_or, take, drop, length-append, replicate, length-take, length-replicate}
use lib.Seq.{take_at}
use lib.Dec.{ltb, eqb}
use borrow.Author.Tests.{eq-eqb, ne_eqb, eqb-true, le-ltb, ltb-true}
use Rattle.lists.specs.Fill.{table, over}
use Rattle.lists.proofs.Tables.{length-table, table_at}
use Rattle.lists.proofs.Alls.{all-at, any-nowhere}
use Rattle.imbalance.specs.Limit.{label_above}
use Rattle.plan_blocks.specs.Word.{word}
use Rattle.plan_blocks.specs.Plan.{Plan}
use Rattle.plan_blocks.specs.Decode.{label_at, labelled, plan_of, file_number}
use Rattle.plan_blocks.proofs.Accepts.{accepts, in-range}
use Rattle.plan_reader.specs.declared.ReadAnswer.{ReadAnswer}
use Rattle.plan_reader.specs.Read.{Targets, number_for, read_number, starts_of, header_of, refusal_of, handed, read_answer, read_left, Read}
use Rattle.plan_reader.proofs.ReadLaws.{accepted-places}
use Rattle.refine_words.specs.inner.Steps.{Put}
use Rattle.refine_words.specs.Line.{refusal}
use Rattle.refine_words.proofs.Texts.{pasted-first}
use Rattle.refine_text.specs.Refine.{plan_vertices, plan_arcs, text_bytes, input_number, run_text, plan_text, text_of, Printed}

-- targets of the program's lengths
pub record Sized (t : Targets) : Type 0 where
  pub labels : length t.labels ≡ plan_vertices
  pub weights : length t.weights ≡ plan_vertices
  pub starts : length t.starts ≡ plan_vertices + 1
  pub neighbours : length t.neighbours ≡ plan_arcs
  pub arc_weights : length t.arc_weights ≡ plan_arcs

-- what the program has after the reader: its number, and where that is 0 the header and the plan's lists
pub record Had (s : List ℕ) (r : ReadAnswer) (u : Targets) : Type 0 where
  pub accepted : file_number s ≡ 0
  pub few : r.n ≤ plan_vertices
  pub few_arcs : r.a ≤ plan_arcs
  pub header : r ≡ header_of (plan_of s)
  pub labels : take r.n u.labels ≡ (plan_of s).labels
  pub weights : take r.n u.weights ≡ (plan_of s).weights
  pub starts : take (r.n + 1) u.starts ≡ starts_of (plan_of s).n (plan_of s).degrees
  pub neighbours : take r.a u.neighbours ≡ (plan_of s).neighbours
  pub arc_weights : take r.a u.arc_weights ≡ (plan_of s).arc_weights

-- the reader's number, for targets of the program's lengths
sized-number : (s : List ℕ) (t : Targets) → Sized t → read_number s t ≡ number_for s plan_vertices plan_vertices (plan_vertices + 1) plan_arcs plan_arcs
sized-number s t z = rw (z.labels, z.weights, z.starts, z.neighbours, z.arc_weights)

number_by : (b : Bool) (p : Plan) (m : ℕ) → eqb m 0 ≡ b → (cond b (header_of p) (refusal_of m)).number ≡ m
unfolding header_of
number_by true p m e = sym (eqb-true m 0 e)
number_by false p m e = refl

answer-number : (s : List ℕ) (t : Targets) → (read_answer s t).number ≡ read_number s t
unfolding read_answer
answer-number s t = number_by (eqb (read_number s t) 0) (plan_of s) (read_number s t) refl

-- the targets as the program makes them
pub zeros : Sized (record { labels = replicate plan_vertices 0; weights = replicate plan_vertices 0; starts = replicate (plan_vertices + 1) 0; neighbours = replicate plan_arcs 0; arc_weights = replicate plan_arcs 0 })
zeros =
    record {
      labels = length-replicate {A = ℕ} plan_vertices 0;
      weights = length-replicate {A = ℕ} plan_vertices 0;
      starts = length-replicate {A = ℕ} (plan_vertices + 1) 0;
      neighbours = length-replicate {A = ℕ} plan_arcs 0;
      arc_weights = length-replicate {A = ℕ} plan_arcs 0;
    }

module _ {s : List ℕ} {t u : Targets} {r : ReadAnswer} (z : Sized t) (p : Read s t r u) where
  pub number_read : r.number ≡ number_for s plan_vertices plan_vertices (plan_vertices + 1) plan_arcs plan_arcs
  number_read = ap (λ (x : ReadAnswer). x.number) p.answered ∙ answer-number s t ∙ sized-number s t z

  module _ (done : r.number ≡ 0) where
    zero-read : read_number s t ≡ 0
    zero-read = sized-number s t z ∙ sym number_read ∙ done

    header_read : r ≡ header_of (plan_of s)
    unfolding read_answer
    header_read = p.answered ∙ rw (eq-eqb (read_number s t) 0 zero-read)

    left-read : read_left s t ≡ handed (plan_of s) t
    unfolding read_left
    left-read = rw (eq-eqb (read_number s t) 0 zero-read)

    pub had : Had s r u
    unfolding header_of handed plan_of starts_of
    had =
        let g = accepted-places s plan_vertices plan_vertices (plan_vertices + 1) plan_arcs plan_arcs (sym number_read ∙ done) in
        let h = header_read in
        let n : r.n ≡ word s 1 = ap (λ (x : ReadAnswer). x.n) h in
        let a : r.a ≡ word s 2 = ap (λ (x : ReadAnswer). x.a) h in
        record {
          accepted = g.accepted;
          few = (let l = g.labels in omega arith);
          few_arcs = (let l = g.neighbours in omega arith);
          header = h;
          labels = ap (take r.n) (p.labels ∙ ap (λ (x : Targets). x.labels) left-read) ∙ take_at _ _ r.n (length-table _ _ ∙ sym n);
          weights = ap (take r.n) (p.weights ∙ ap (λ (x : Targets). x.weights) left-read) ∙ take_at _ _ r.n (length-table _ _ ∙ sym n);
          starts = ap (take (r.n + 1)) (p.starts ∙ ap (λ (x : Targets). x.starts) left-read) ∙ take_at _ _ (r.n + 1) (length-table _ _ ∙ ap (λ (k : ℕ). k + 1) (sym n));
          neighbours = ap (take r.a) (p.neighbours ∙ ap (λ (x : Targets). x.neighbours) left-read) ∙ take_at _ _ r.a (length-table _ _ ∙ sym a);
          arc_weights = ap (take r.a) (p.arc_weights ∙ ap (λ (x : Targets). x.arc_weights) left-read) ∙ take_at _ _ r.a (length-table _ _ ∙ sym a);
        }

-- no label of an accepted plan is above 15
pub labels-low : (s : List ℕ) → file_number s ≡ 0 → label_above 15 (plan_of s).labels ≡ false
unfolding label_above plan_of labelled
labels-low s h =
    let g = accepts s h in
    let i = in-range (word s 1) (word s 2) (word s 3) g.ranged in
    let n = length-table (word s 1) (label_at s) in
    any-nowhere (length (table (word s 1) (label_at s))) (λ v. ltb 15 (get_or (table (word s 1) (label_at s)) v 0))
    (λ v l.
    let e = table_at (word s 1) v 0 (label_at s) (omega arith) in
    let b = ltb-true (label_at s v) (word s 3) (all-at (word s 1) v (λ v. ltb (label_at s v) (word s 3)) g.named (omega arith)) in
    le-ltb 15 (get_or (table (word s 1) (label_at s)) v 0) (omega arith))

-- the labels as the refiners ask for them
pub labels-ready : {s : List ℕ} {r : ReadAnswer} {u : Targets} → Had s r u → (length (take r.n u.labels) ≤ plan_vertices) × (label_above 15 (take r.n u.labels) ≡ false)
labels-ready {s} {r} {u} h =
    let l : length (take r.n u.labels) ≤ r.n = rw (length-take r.n u.labels) (omega arith) in
    let f = h.few in
    (omega arith, rw h.labels (labels-low s h.accepted))

-- what is printed: a refusal, and the text of a plan
module _ (s before after : List ℕ) (end : ℕ) where
  printed : (text : List ℕ) (m : ℕ) → text_of s ≡ text → Put text m 0 before after end → Printed s before end after
  printed text m e p =
      record {
        answered = (let l = p.ends in omega arith) ∙ ap length (sym e);
        output = p.bytes ∙ pasted-first text before ∙ ap (λ (x : List ℕ). over x before) (sym e);
      }

  pub printed-refusal : (number : ℕ) → number ≡ input_number s → (number ≡ 0 → ⊥) → Put (refusal number) 29 0 before after end → Printed s before end after
  unfolding text_of
  printed-refusal number e ne p = printed (refusal number) 29 (rw (← e, ne_eqb number 0 ne)) p

  pub printed-plan : (r : ReadAnswer) (u : Targets) → input_number s ≡ 0 → Had s r u
      → Put (run_text r (take (r.n + 1) u.starts) (take r.a u.neighbours) (take r.a u.arc_weights) (take r.n u.weights) (take r.n u.labels)) text_bytes 0 before after end
      → Printed s before end after
  unfolding text_of plan_text
  printed-plan r u e h p =
      printed _ text_bytes (rw (e, h.starts, h.neighbours, h.arc_weights, h.weights, h.labels, ← h.header)) p

-- the text is within the output
pub printed-within : {s t u : List ℕ} {r : ℕ} → Printed s t r u → r ≤ length u
printed-within {s} {t} {u} {r} p =
    let e = ap length p.output ∙ length-append (text_of s) (drop (length (text_of s)) t) in
    let a = p.answered in
    omega arith

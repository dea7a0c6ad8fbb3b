-- The lines of a run of FM and of arc-swap: how they are put together, that they fit, and that they are the text. Assumes nothing.
use mathlib.Core.Path.{◌≡◌, refl, ap, ◌∙◌}
use mathlib.Core.Bool.{Bool, true, false, cond}
use mathlib.Core.List.{List}
use Prim.Native.Nat.{ℕ, zero, suc, ◌+◌, ◌*◌, ◌≤◌}
use native.Mathlib.Omega.{arith}
use lib.ListN.{length, take}
use lib.Seq.{length-take-le}
use lib.Dec.{ltb, eqb}
use borrow.Author.Tests.{eq-eqb, ne_eqb}
use Rattle.lists.proofs.Tables.{length-table}
use Rattle.topology.specs.Cut.{cut}
use Rattle.fiduccia_mattheyses_choice.specs.Choice.{Terms}
use Rattle.fiduccia_mattheyses_pass.specs.Pass.{pass}
use Rattle.fiduccia_mattheyses.specs.declared.Report.{Report as TwoReport}
use Rattle.fiduccia_mattheyses.specs.Run.{Run, run}
use Rattle.fiduccia_mattheyses.specs.Entry.{Given as TwoGiven, Lent as TwoLent, number as two_number, report_of as two_report_of, refused as two_refused, empty as two_empty, answer as two_answer}
use Rattle.fiduccia_mattheyses.proofs.Running.{run_more, run-last}
use Rattle.fiduccia_mattheyses_records.specs.Own.{Lists, lent_with, RefinedWith}
use Rattle.arc_swap.specs.declared.RunRecord.{RunRecord}
use Rattle.arc_swap.specs.declared.Report.{Report as ManyReport}
use Rattle.arc_swap.specs.Entry.{Given as ManyGiven, Lent as ManyLent, number as many_number, report_of as many_report_of, refused as many_refused, empty as many_empty, answer as many_answer, parts_of, Refined}
use Rattle.plan_reader.specs.declared.ReadAnswer.{ReadAnswer}
use Rattle.refine_words.specs.inner.Steps.{Put}
use Rattle.refine_words.specs.Line.{refusal, opening, pass_lines, counts_line, labels_line}
use Rattle.refine_words.proofs.Texts.{put_as, put_then}
use Rattle.refine_text.specs.Refine.{plan_vertices, text_bytes, two_lists, two_lines, two_shown, two_text, many_lent, many_lines, many_shown, many_text, two_given_by, many_given_by, run_text}

-- the loads of the first k of sixteen parts
pub parts-long : (k : ℕ) (loads : List ℕ) → k ≤ 16 → length loads ≡ 16 → length (take k loads) ≡ k
parts-long k loads h e = length-take-le k loads (omega arith)

-- the three parts of a run's text, put one after the other
module _ (r : TwoReport) (made rewound labels : List ℕ) {before one two after : List ℕ} {s t end : ℕ} where
  pub put-two-lines : text_bytes ≤ length before → length labels ≤ plan_vertices → r.passes ≤ 64 → length r.loads.at ≡ 16
      → Put (opening r.end r.first r.last (take 2 r.loads.at) r.passes) (105 + 21 * length (take 2 r.loads.at)) 0 before one s
      → Put (pass_lines r.passes made rewound) (47 * r.passes) s one two t → Put (labels_line labels) (7 + 21 * length labels) t two after end
      → Put (two_lines r made rewound labels) text_bytes 0 before after end
  unfolding two_lines
  put-two-lines enough few passes long a b d =
      let l = parts-long 2 r.loads.at (omega arith) long in
      let o = opening r.end r.first r.last (take 2 r.loads.at) r.passes in
      put_as refl (omega arith) (put_then (omega arith) (put_then (omega arith) a b) d)

module _ (k : ℕ) (r : ManyReport) (run : RunRecord) (labels : List ℕ) {before one two after : List ℕ} {s t end : ℕ} where
  pub put-many-lines : text_bytes ≤ length before → length labels ≤ plan_vertices → k ≤ 16 → length r.loads.at ≡ 16
      → Put (opening r.end r.first r.last (take k r.loads.at) r.passes) (105 + 21 * length (take k r.loads.at)) 0 before one s
      → Put (counts_line run.attempts run.moves run.no_gain run.bad_balance) 91 s one two t → Put (labels_line labels) (7 + 21 * length labels) t two after end
      → Put (many_lines k r run labels) text_bytes 0 before after end
  unfolding many_lines
  put-many-lines enough few parts long a b d =
      let l = parts-long k r.loads.at parts long in
      put_as refl (omega arith) (put_then (omega arith) (put_then (omega arith) a b) d)

-- a run has no more passes than it may make
rows-most : (s : Terms) (k : ℕ) (p : List ℕ) → length (run s k p).rows ≤ k
unfolding run
rows-most s zero p = omega arith
rows-most s (suc k) p = go (ltb (pass s p).least (cut s.graph p)) refl (rows-most s k (pass s p).labels)
  where
    go : (b : Bool) → ltb (pass s p).least (cut s.graph p) ≡ b → length (run s k (pass s p).labels).rows ≤ k → length (run s (suc k) p).rows ≤ suc k
    go true e ih = rw (ap (λ (x : Run). length x.rows) (run_more s k p e)) (omega arith)
    go false e ih = rw (ap (λ (x : Run). length x.rows) (run-last s k p e)) (omega arith)

-- FM's report: its passes are within its limit, and its loads are sixteen
module _ (p : TwoGiven) (l : TwoLent) where
  two-by : (a b : Bool) → ((cond a two_empty (cond b (two_report_of p l) (two_refused (two_number p l)))).passes ≤ p.settings.passes) × (length (cond a two_empty (cond b (two_report_of p l) (two_refused (two_number p l)))).loads.at ≡ 16)
  unfolding two_report_of
  two-by true b = (omega arith, length-table 16 _)
  two-by false true = (rows-most _ p.settings.passes l.labels, length-table 16 _)
  two-by false false = (omega arith, length-table 16 _)

  two-report : ((two_answer p l).passes ≤ p.settings.passes) × (length (two_answer p l).loads.at ≡ 16)
  unfolding two_answer
  two-report = two-by (eqb (length l.labels) 0) (eqb (two_number p l) 0)

module _ (p : ManyGiven) (l : ManyLent) where
  many_by : (a b : Bool) → length (cond a many_empty (cond b (many_report_of p l) (many_refused (many_number p l.labels)))).loads.at ≡ 16
  unfolding many_report_of
  many_by true b = length-table 16 _
  many_by false true = length-table 16 _
  many_by false false = length-table 16 _

  many-report : length (many_answer p l).loads.at ≡ 16
  unfolding many_answer
  many-report = many_by (eqb (length l.labels) 0) (eqb (many_number p l.labels) 0)

-- what a call of FM leaves, as the text
module _ {p : TwoGiven} {labels : List ℕ} {r : TwoReport} {k : Lists} (h : RefinedWith plan_vertices p (two_lists labels) r k) where
  pub two-few : p.settings.passes ≡ 64 → r.passes ≤ 64
  two-few e = let q = (two-report p (lent_with plan_vertices (two_lists labels))).0 in let a = ap (λ (x : TwoReport). x.passes) h.answered in omega arith

  pub two-loads : length r.loads.at ≡ 16
  two-loads = ap (λ (x : TwoReport). length x.loads.at) h.answered ∙ (two-report p _).1

  pub two-refused : (r.number ≡ 0 → ⊥) → refusal r.number ≡ two_text p labels
  unfolding two_text two_shown
  two-refused ne = rw (← h.answered, ne_eqb r.number 0 ne)

  pub two-done : r.number ≡ 0 → two_lines r k.made k.rewound k.labels ≡ two_text p labels
  unfolding two_text two_shown
  two-done z = rw (h.made, h.rewound, h.labels, ← h.answered, eq-eqb r.number 0 z)

-- and of arc-swap
module _ {p : ManyGiven} {labels : List ℕ} {r : ManyReport} {k : ManyLent} (h : Refined p (many_lent labels) r k) where
  pub many-loads : length r.loads.at ≡ 16
  many-loads = ap (λ (x : ManyReport). length x.loads.at) h.answered ∙ many-report p _

  pub many-refused : (r.number ≡ 0 → ⊥) → refusal r.number ≡ many_text p labels
  unfolding many_text many_shown
  many-refused ne = rw (← h.answered, ne_eqb r.number 0 ne)

  pub many-done : (parts : ℕ) → parts ≡ parts_of labels → r.number ≡ 0 → many_lines parts r k.run k.labels ≡ many_text p labels
  unfolding many_text many_shown
  many-done parts e z = rw (e, h.run, h.labels, ← h.answered, eq-eqb r.number 0 z)

-- the run that the header asks for
module _ (h : ReadAnswer) (starts neighbours arcs weights labels : List ℕ) where
  pub runs-two : h.k ≡ 2 → two_text (two_given_by h starts neighbours arcs weights) labels ≡ run_text h starts neighbours arcs weights labels
  unfolding run_text
  runs-two e = rw (eq-eqb h.k 2 e)

  pub runs-many : (h.k ≡ 2 → ⊥) → many_text (many_given_by h starts neighbours arcs weights) labels ≡ run_text h starts neighbours arcs weights labels
  unfolding run_text
  runs-many ne = rw (ne_eqb h.k 2 ne)

-- The laws of a run, over every result that meets the call's promise with number 0. Assumes nothing.
use mathlib.Core.Path.{◌≡◌, refl, sym, ap, ◌∙◌}
use Prim.Native.Nat.{◌+◌, ◌≤◌}
use native.Mathlib.Omega.{arith}
use lib.ListN.{length}
use lib.IntN.{sub_ℕ}
use borrow.Author.Tests.{eq-eqb, ne_eqb}
use Rattle.topology.specs.Cut.{cut}
use Rattle.arc_swap_attempt.specs.inner.Steps.{Named}
use Rattle.arc_swap.specs.Run.{Summed}
use Rattle.arc_swap.specs.declared.Report.{Report}
use Rattle.arc_swap.specs.declared.RunRecord.{RunRecord}
use Rattle.topology.specs.Given.{graph_of}
use Rattle.arc_swap.specs.Entry.{Given, Lent, number, terms_of, run_of, report_of, left_by, answer, left, Refined}
use Rattle.arc_swap.specs.inner.Steps.{Ready}
use Rattle.arc_swap.specs.Demand.{gained, NoPartAbove, NoSingleBlock}
use Rattle.arc_swap.proofs.Entering.{ready}
use Rattle.arc_swap.proofs.Parts.{parts-named, parts-few}
use Rattle.arc_swap.proofs.Demands.{Kept, kept}
use Rattle.arc_swap.proofs.Quiet.{no-single-block}

module _ (p : Given) (l : Lent) (r : Report) (k : Lent) (some : length l.labels ≡ 0 → ⊥) (zero : number p l.labels ≡ 0) (done : Refined p l r k) where
  ok : Ready p l.labels
  ok = ready p l.labels zero

  named : Named (graph_of p) (terms_of p l).parts l.labels
  named = record { rows = ok.sound.rows; few = (parts-few l.labels ok.named).1; named = parts-named l.labels }

  report-is : r ≡ report_of p l
  unfolding answer
  report-is = done.answered ∙ rw (ne_eqb (length l.labels) 0 some, eq-eqb (number p l.labels) 0 zero)

  labels_are : k.labels ≡ (run_of p l).state.labels
  unfolding left left_by
  labels_are = done.labels ∙ rw (ne_eqb (length l.labels) 0 some, eq-eqb (number p l.labels) 0 zero)

  run_is : k.run ≡ (run_of p l).state.counts
  unfolding left left_by
  run_is = done.run ∙ rw (ne_eqb (length l.labels) 0 some, eq-eqb (number p l.labels) 0 zero)

  all-kept : Kept (terms_of p l) l.labels ok.sound.symmetric named (run_of p l).state.labels (run_of p l).state.counts (run_of p l).state.gains
  all-kept = kept (terms_of p l) l.labels ok.sound.symmetric named (cut (graph_of p) l.labels + 1) 0

  -- last cut at most first cut
  pub no-worse : r.last ≤ r.first
  unfolding report_of
  no-worse = rw report-is all-kept.lower

  -- first cut - last cut is the sum of the gains of the moves made
  pub gains-sum : sub_ℕ r.first r.last ≡ gained (run_of p l).state.gains
  unfolding report_of
  gains-sum = rw report-is all-kept.sums

  -- one gain for each move made
  pub a-gain-a-move : k.run.moves ≡ length (run_of p l).state.gains
  a-gain-a-move = ap (λ (c : RunRecord). c.moves) run_is ∙ all-kept.counted

  -- attempts = moves + no-gain + bad-balance
  pub counts-sum : Summed k.run
  counts-sum = rw run_is all-kept.summed

  -- no part ends above the larger of its own ceiling and its starting load
  pub no-part-above : NoPartAbove (terms_of p l) l.labels k.labels
  no-part-above = rw labels_are all-kept.loads

  -- after end 1 no single block whose best part has room would lower the cut by going there
  pub no-single-block-left : r.end ≡ 1 → NoSingleBlock (terms_of p l) k.labels
  unfolding report_of
  no-single-block-left e =
      let q : (run_of p l).end ≡ 1 = sym (ap (λ (x : Report). x.end) report-is) ∙ e in
      rw labels_are (no-single-block (terms_of p l) (length l.labels) ok.sound.symmetric l.labels refl named (cut (graph_of p) l.labels + 1) (omega arith) q)

-- Records for the most vertices are enough for every call of FM: with more of them it answers the same and leaves the same lists, as a call with more vertices is refused before the records are counted. Assumes nothing.
use mathlib.Core.Path.{◌≡◌, refl, ◌∙◌, ap}
use mathlib.Core.Bool.{Bool, true, false, cond}
use Prim.Native.Nat.{ℕ, zero, suc, ◌≤◌}
use native.Mathlib.Omega.{arith}
use lib.ListN.{length}
use lib.Dec.{ltb, eqb}
use borrow.Author.Tests.{le-ltb}
use Rattle.std.proofs.lemmas.List.{length-replicate}
use Rattle.lists.specs.Number.{or_else}
use Rattle.imbalance.specs.Limit.{most_vertices, label_above}
use Rattle.topology.specs.Given.{graph_of}
use Rattle.topology.specs.Rule.{graph_number}
use Rattle.topology.proofs.Numbers.{sound}
use Rattle.fiduccia_mattheyses.specs.declared.Report.{Report}
use Rattle.fiduccia_mattheyses_pass.specs.Pass.{no_move}
use Rattle.fiduccia_mattheyses.specs.Entry.{Given, Lent, unfit, short, lengths_of, number_of, number, empty, refused, report_of, left_by, answer, left}
use Rattle.fiduccia_mattheyses_records.specs.Own.{Lists, blank, lent_with, RefinedWith}

module _ (m : ℕ) (more : most_vertices ≤ m) (p : Given) (l : Lists) where
  -- no record is missing where there are no more than the most vertices
  enough : (k : ℕ) → length l.labels ≤ k → ltb (length (blank k)) (length l.labels) ≡ false
  enough k few = rw (length-replicate k no_move) (le-ltb k (length l.labels) few)

  same-short : length l.labels ≤ most_vertices → short (length l.labels) p.settings.passes (lengths_of (lent_with most_vertices l)) ≡ short (length l.labels) p.settings.passes (lengths_of (lent_with m l))
  unfolding short
  same-short few = rw (enough most_vertices few, enough m (omega arith))

  same-number : number p (lent_with most_vertices l) ≡ number p (lent_with m l)
  unfolding number_of
  same-number = go (graph_number (length l.labels) p.weights (graph_of p)) refl
    where
      rest : ℕ → ℕ
      rest k = cond (label_above 1 l.labels) 6 (cond (unfit p.settings) 7 (cond (short (length l.labels) p.settings.passes (lengths_of (lent_with k l))) 8 0))

      go : (g : ℕ) → graph_number (length l.labels) p.weights (graph_of p) ≡ g → or_else g (rest most_vertices) ≡ or_else g (rest m)
      go zero e = ap (λ (s : Bool). cond (label_above 1 l.labels) 6 (cond (unfit p.settings) 7 (cond s 8 0))) (same-short (sound (length l.labels) p.weights (graph_of p) e).rows.few)
      go (suc g) e = refl

  same-answer : answer p (lent_with most_vertices l) ≡ answer p (lent_with m l)
  unfolding answer report_of
  same-answer = ap (λ (k : ℕ). cond (eqb (length l.labels) 0) empty (cond (eqb k 0) (report_of p (lent_with m l)) (refused k))) same-number

  -- what is seen of the lists without the records, before the call and after a run, is the same after the call
  same-left : {A : Type 0} (f : Lent → A) → f (lent_with most_vertices l) ≡ f (lent_with m l) → f (left_by p (lent_with most_vertices l)) ≡ f (left_by p (lent_with m l)) → f (left p (lent_with most_vertices l)) ≡ f (left p (lent_with m l))
  unfolding left
  same-left {A} f before after =
      ap (λ (k : ℕ). f (cond (eqb (length l.labels) 0) (lent_with most_vertices l) (cond (eqb k 0) (left_by p (lent_with most_vertices l)) (lent_with most_vertices l)))) same-number
      ∙ go (eqb (length l.labels) 0) (eqb (number p (lent_with m l)) 0)
    where
      go : (b c : Bool) → f (cond b (lent_with most_vertices l) (cond c (left_by p (lent_with most_vertices l)) (lent_with most_vertices l))) ≡ f (cond b (lent_with m l) (cond c (left_by p (lent_with m l)) (lent_with m l)))
      go true c = before
      go false true = after
      go false false = before

  pub more-records : (r : Report) (k : Lists) → RefinedWith most_vertices p l r k → RefinedWith m p l r k
  unfolding left_by
  more-records r k h =
      record {
        answered = h.answered ∙ same-answer;
        labels = h.labels ∙ same-left (λ x. x.labels) refl refl;
        gains = h.gains ∙ same-left (λ x. x.gains) refl refl;
        made = h.made ∙ same-left (λ x. x.made) refl refl;
        rewound = h.rewound ∙ same-left (λ x. x.rewound) refl refl;
      }

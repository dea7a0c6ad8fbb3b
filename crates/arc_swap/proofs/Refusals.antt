-- The number of a call of arc-swap is the smallest that applies, after a call with n = 0, which comes before all checks. Assumes nothing.
use mathlib.Core.Path.{◌≡◌, refl}
use mathlib.Core.Bool.{Bool, true, false, cond}
use mathlib.Core.List.{List, [], ◌∷◌}
use Prim.Native.Nat.{ℕ}
use native.Mathlib.Omega.{arith}
use lib.ListN.{length}
use lib.Dec.{eqb}
use borrow.Author.Tests.{ne_eqb, eqb-true}
use Rattle.lists.specs.Smallest.{Smallest}
use Rattle.lists.proofs.Smallests.{passed, tested, thence, with-more, smallest}
use Rattle.imbalance.specs.Limit.{label_above}
use Rattle.imbalance.specs.Ceiling.{unfit_choice}
use Rattle.imbalance.specs.Rules.{NoneAbove, FitChoice}
use Rattle.imbalance.proofs.Refusals.{labelled, fit-choice}
use Rattle.topology.specs.Rule.{graph_number}
use Rattle.topology.specs.Rules.{graph_rules}
use Rattle.topology.proofs.Refusals.{graph-first}
use Rattle.arc_swap.specs.declared.Report.{Report}
use Rattle.topology.specs.Given.{graph_of}
use Rattle.arc_swap.specs.Entry.{Given, Lent, number, no_counts, empty, report_of, refused, answer, Refined}
use Rattle.arc_swap.specs.Rules.{rules}
use Rattle.arc_swap.proofs.Entering.{at-empty}
use Rattle.arc_swap.proofs.Unique.{unique}

pub number-smallest : (p : Given) (labels : List ℕ) → Smallest (rules p labels) (number p labels)
unfolding number
number-smallest p labels =
    let n = length labels in
    let asked = p.settings.ceiling in
    let own = NoneAbove 15 labels ∷ FitChoice asked ∷ [] in
    let graph = graph_rules n p.weights (graph_of p) in
    let k = graph_number n p.weights (graph_of p) in
    smallest (rules p labels) (number p labels) tt
    (thence (rules p labels) 1 6 8 k _ (omega arith) (with-more graph own 1 6 k (omega arith) (graph-first n p.weights (graph_of p)))
    (tested (rules p labels) 6 8 _ (label_above 15 labels) (omega arith) (omega arith) (labelled 15 labels)
    (tested (rules p labels) 7 8 0 (unfit_choice asked) (omega arith) (omega arith) (fit-choice asked)
    (passed (rules p labels) 8))))

-- "FM and arc-swap with n = 0 come before all checks: done, end 3, all else zero, nothing written but the zeroed run record."
pub empty-call : (p : Given) (l : Lent) (r : Report) (k : Lent) → Refined p l r k → length l.labels ≡ 0 → (r ≡ empty) × (k ≡ record { labels = l.labels; stack = l.stack; run = no_counts })
empty-call p l r k d z = unique p l r empty k (record { labels = l.labels; stack = l.stack; run = no_counts }) d (at-empty p l empty no_counts z refl refl)

-- "The smallest number that applies is given; 0 only if none does": of every call of arc-swap with a vertex.
pub refusal : (p : Given) (l : Lent) (r : Report) (k : Lent) → Refined p l r k → (length l.labels ≡ 0 → ⊥) → Smallest (rules p l.labels) r.number
unfolding answer report_of
refusal p l r k d ne = rw (d.answered, ne_eqb (length l.labels) 0 ne) (given (eqb (number p l.labels) 0) refl)
  where
    given : (b : Bool) → eqb (number p l.labels) 0 ≡ b → Smallest (rules p l.labels) (cond b (report_of p l) (refused (number p l.labels))).number
    given true e = rw (eqb-true (number p l.labels) 0 e) at (number-smallest p l.labels)
    given false e = number-smallest p l.labels

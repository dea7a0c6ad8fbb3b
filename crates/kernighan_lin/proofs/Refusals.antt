-- The number of a call of KL is the smallest that applies. Assumes nothing.
use mathlib.Core.Path.{◌≡◌, refl}
use mathlib.Core.Bool.{Bool, true, false, cond, ◌||◌}
use mathlib.Core.List.{[], ◌∷◌}
use mathlib.Core.Logic.{◌↔◌}
use Prim.Native.Nat.{◌/◌, ◌≤◌}
use native.Mathlib.Omega.{arith}
use lib.ListN.{length}
use lib.Dec.{ltb, eqb}
use borrow.Author.Tests.{eqb-true}
use Rattle.lists.specs.Smallest.{Smallest}
use Rattle.lists.proofs.Smallests.{at_most, either-fails, passed, tested, thence, with-more, smallest}
use Rattle.imbalance.specs.Limit.{most_passes}
use Rattle.topology.specs.Rule.{graph_number}
use Rattle.topology.specs.Rules.{graph_rules}
use Rattle.topology.proofs.Refusals.{graph-first}
use Rattle.kernighan_lin.specs.declared.Report.{Report}
use Rattle.topology.specs.Given.{graph_of}
use Rattle.kernighan_lin.specs.Entry.{Given, Lent, mislabelled, lengths_of, short, number_of, number, report_of, refused, answer, Refined}
use Rattle.kernighan_lin.specs.Rules.{Labelled, LongEnough, rules}
use Rattle.kernighan_lin.proofs.TwoLabels.{labelled-so}

long-enough : (l : Lent) → (short (length l.labels) (lengths_of l) ≡ false) ↔ LongEnough l
unfolding short
long-enough l =
    let n = length l.labels in
    let gains = length l.gains in
    let locks = length l.locks in
    let swaps = length l.swaps in
    let b = either-fails (ltb gains n || ltb locks n) (ltb swaps (n / 2)) (either-fails (ltb gains n) (ltb locks n) (at_most gains n) (at_most locks n)) (at_most swaps (n / 2)) in
    ((λ h. let k = b.0 h in record { gains = k.0.0; locks = k.0.1; swaps = k.1 }), λ k. b.1 ((k.gains, k.locks), k.swaps))

number-smallest : (p : Given) (l : Lent) → Smallest (rules p l) (number p l)
unfolding number_of
number-smallest p l =
    let n = length l.labels in
    let passes = p.settings.passes in
    let own = Labelled l.labels ∷ (passes ≤ most_passes) ∷ LongEnough l ∷ [] in
    let graph = graph_rules n p.weights (graph_of p) in
    let k = graph_number n p.weights (graph_of p) in
    smallest (rules p l) (number p l) tt
    (thence (rules p l) 1 6 9 k _ (omega arith) (with-more graph own 1 6 k (omega arith) (graph-first n p.weights (graph_of p)))
    (tested (rules p l) 6 9 _ (mislabelled l.labels) (omega arith) (omega arith) (labelled-so l.labels)
    (tested (rules p l) 7 9 _ (ltb most_passes passes) (omega arith) (omega arith) (at_most most_passes passes)
    (tested (rules p l) 8 9 0 (short n (lengths_of l)) (omega arith) (omega arith) (long-enough l)
    (passed (rules p l) 9)))))

-- "The smallest number that applies is given; 0 only if none does": of every call of KL, one without a vertex included.
pub refusal : (p : Given) (l : Lent) (r : Report) (k : Lent) → Refined p l r k → Smallest (rules p l) r.number
unfolding answer report_of
refusal p l r k d = rw d.answered (given (eqb (number p l) 0) refl)
  where
    given : (b : Bool) → eqb (number p l) 0 ≡ b → Smallest (rules p l) (cond b (report_of p l) (refused (number p l))).number
    given true e = rw (eqb-true (number p l) 0 e) at (number-smallest p l)
    given false e = number-smallest p l

-- The call: what number 0 tells of the inputs, and the promise at each way out. Assumes nothing.
use mathlib.Core.Path.{◌≡◌, refl, sym, ap, ◌∙◌}
use mathlib.Core.Bool.{Bool, true, false, not, cond, ◌||◌}
use mathlib.Core.List.{List, ◌++◌}
use Prim.Native.Nat.{ℕ, zero, suc, ◌+◌, ◌-◌, ◌/◌, ◌≤◌, ◌<◌}
use native.Mathlib.Omega.{arith}
use lib.ListN.{length, get_or, drop, length-append, length-drop}
use lib.Seq.{ext_get_or, get_or-append-add, get_or-drop}
use lib.Dec.{ltb, eqb}
use borrow.Author.Tests.{eq-eqb, eqb-true, ltb-true, ltb-false, not-false}
use Rattle.lists.specs.Sum.{weigh}
use Rattle.lists.specs.All.{any}
use Rattle.lists.specs.Fill.{filled}
use Rattle.lists.proofs.Bools.{or-false}
use Rattle.lists.specs.declared.refusal.Refusal.{Refusal}
use Rattle.lists.specs.Refusal.{number_of as refusal_number}
use Rattle.lists.proofs.Refusals.{not-done}
use Rattle.lists.proofs.Numbers.{or-else-zero, not-given}
use Rattle.lists.proofs.Totals.{sum-ext, sum-zero}
use Rattle.lists.proofs.Alls.{any_none}
use Rattle.lists.proofs.Fills.{length-written, written_below, written-past}
use Rattle.imbalance.specs.Limit.{most_passes, label_above}
use Rattle.imbalance.specs.Load.{part}
use Rattle.topology.specs.Rule.{graph_number}
use Rattle.topology.proofs.Numbers.{sound}
use Rattle.topology.specs.Given.{graph_of}
use Rattle.kernighan_lin.specs.Entry.{Given, Lent, uses, different, mislabelled, lengths_of, short, number_of, number, run_of, report_of, refused, left_by, answer, left, Refined}
use Rattle.kernighan_lin.specs.inner.Steps.{Ready, Ran}
use Rattle.kernighan_lin.specs.declared.Report.{Report}

-- without a vertex there is no label
none-used : (labels : List ℕ) → length labels ≡ 0 → different labels ≡ 0
unfolding different uses
none-used labels e =
    sum-ext 16 (λ t. weigh (any (length labels) (λ v. eqb (part labels v) t)) 1) (λ t. 0) (λ t l. rw (e, any_none (λ v. eqb (part labels v) t)))
    ∙ sum-zero 16

-- what number 0 gives to the run; that it is given exactly where every rule is kept is in Refusals.antt
pub ready : (p : Given) (l : Lent) → number p l ≡ 0 → Ready (graph_of p) p.settings l
unfolding number_of mislabelled short
ready p l z =
    let n = length l.labels in
    let eight : ℕ = cond (short n (lengths_of l)) 8 0 in
    let seven : ℕ = cond (ltb most_passes p.settings.passes) 7 eight in
    let one = or-else-zero (graph_number n p.weights (graph_of p)) (cond (mislabelled l.labels) 6 seven) z in
    let six = not-given (mislabelled l.labels) 5 seven one.1 in
    let passes = not-given (ltb most_passes p.settings.passes) 6 eight six.1 in
    let places = not-given (short n (lengths_of l)) 7 0 passes.1 in
    let both = or-false (ltb (length l.gains) n || ltb (length l.locks) n) (ltb (length l.swaps) (n / 2)) places.0 in
    let two = or-false (ltb (length l.gains) n) (ltb (length l.locks) n) both.0 in
    let labels = or-false (label_above 15 l.labels) (not (eqb (different l.labels) 2)) six.0 in
    let s = sound n p.weights (graph_of p) one.0 in
    record {
      fit = record { rows = s.rows; symmetric = s.symmetric; light = s.light_arcs };
      a_vertex = vertex n refl (eqb-true (different l.labels) 2 (not-false (eqb (different l.labels) 2) labels.1));
      few_passes = ltb-false most_passes p.settings.passes passes.0;
      in_gains = ltb-false (length l.gains) n two.0;
      in_locks = ltb-false (length l.locks) n two.1;
      in_swaps = ltb-false (length l.swaps) (n / 2) both.1;
    }
  where
    vertex : (n : ℕ) → length l.labels ≡ n → different l.labels ≡ 2 → 0 < n
    vertex zero q d = let z = none-used l.labels q in absurd (omega arith)
    vertex (suc n) q d = omega arith

-- clearing a front that the run had: what stood there does not show
pub filled-front : {A : Type 0} (x : A) (n : ℕ) (front xs : List A) → n ≤ length xs → length front ≡ n → filled x n (front ++ drop n xs) ≡ filled x n xs
filled-front x n front xs l e =
    let a = length-written (λ i. x) n (front ++ drop n xs) in
    let b = length-written (λ i. x) n xs in
    ext_get_or x (filled x n (front ++ drop n xs)) (filled x n xs) (a ∙ whole ∙ sym b) (λ i k. go i (ltb i n) refl)
  where
    whole : length (front ++ drop n xs) ≡ length xs
    whole = length-append front (drop n xs) ∙ (let q = length-drop n xs in omega arith)

    go : (i : ℕ) (t : Bool) → ltb i n ≡ t → get_or (filled x n (front ++ drop n xs)) i x ≡ get_or (filled x n xs) i x
    go i true t =
        let q = ltb-true i n t in
        written_below (λ j. x) x n (front ++ drop n xs) (rw whole l) i q ∙ sym (written_below (λ j. x) x n xs l i q)
    go i false t =
        let q = ltb-false i n t in
        let r : length front + (i - n) ≡ i = omega arith in
        let u : n + (i - n) ≡ i = omega arith in
        written-past (λ j. x) x n (front ++ drop n xs) i q
        ∙ (rw r at (get_or-append-add front (drop n xs) (i - n) x))
        ∙ (rw u at (get_or-drop n xs (i - n) x))
        ∙ sym (written-past (λ j. x) x n xs i q)

-- two lots of lists are equal where each list is
pub same-lent : {k m : Lent} → k.labels ≡ m.labels → k.gains ≡ m.gains → k.locks ≡ m.locks → k.swaps ≡ m.swaps → k ≡ m
same-lent a b c d = λ i. record { labels = a i; gains = b i; locks = c i; swaps = d i }

same-report : {r q : Report} → r.number ≡ q.number → r.end ≡ q.end → r.passes ≡ q.passes → r.first ≡ q.first → r.last ≡ q.last → r ≡ q
same-report a b c d e = λ i. record { number = a i; end = b i; passes = c i; first = d i; last = e i }

pub at-refusal : (p : Given) (l : Lent) (r : Report) (refusal : Refusal) → refusal_number refusal ≡ number p l → r ≡ refused (refusal_number refusal) → Refined p l r l
unfolding answer left
at-refusal p l r refusal e f =
    let v : eqb (number p l) 0 ≡ false = rw (← e) (not-done refusal) in
    record { answered = rw v (f ∙ ap refused e); labels = rw v refl; gains = rw v refl; locks = rw v refl; swaps = rw v refl }

pub at-run : (p : Given) (l : Lent) (r : Report) (m : Lent) → number p l ≡ 0 → Ran (graph_of p) p.settings l r m → Refined p l r m
unfolding answer left report_of left_by run_of
at-run p l r m z h =
    let v = eq-eqb (number p l) 0 z in
    let d = h.passed in
    record {
      answered = rw v (same-report d.number_is d.end_is d.passes_are d.first_is d.last_is);
      labels = rw v d.labels_are;
      gains = rw v h.gains;
      locks = rw v h.locks;
      swaps = rw v h.swaps;
    }

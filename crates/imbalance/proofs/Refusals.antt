-- The tests of weights (5), labels (6) and a ceiling's choice (7) fail exactly where their rules are kept, and the number of the stand-alone loads is the smallest that applies. Assumes nothing.
use Rattle.std.proofs.Common.{◌≡◌, ℕ, ◌≤◌, Bool, true, false, not, ◌&&◌, eqb, ltb, ◌↔◌, List, length, get_or, refl, arith, ltb-false, le-ltb, eq-eqb, eqb-true}
use lib.Ieee.{Float, le}
use borrow.Author.Tests.{not-false}
use Rattle.lists.specs.Sum.{total}
use Rattle.lists.specs.Smallest.{Smallest}
use Rattle.lists.proofs.Bools.{and_left, and_right, or-false}
use Rattle.lists.proofs.Alls.{any-nowhere}
use Rattle.lists.proofs.Smallests.{at_most, equal, contrary, passed, unruled, tested, smallest}
use Rattle.imbalance.specs.Limit.{most_vertices, most_weight, heavy, label_above}
use Rattle.imbalance.specs.Ceiling.{zero64, most64, legal_e, unfit_choice}
use Rattle.imbalance.specs.Number.{loads_number, loads_answer}
use Rattle.imbalance.specs.Rules.{NoneAbove, FitChoice, loads_rules}
use Rattle.imbalance.specs.declared.Ceiling.{Ceiling}
use Rattle.imbalance.specs.declared.LoadsAnswer.{LoadsAnswer}
use Rattle.imbalance.proofs.Limits.{label-most}

pub light : (weights : List ℕ) → (heavy weights ≡ false) ↔ (total weights ≤ most_weight)
unfolding heavy
light weights = at_most most_weight (total weights)

pub labelled : (most : ℕ) (labels : List ℕ) → (label_above most labels ≡ false) ↔ NoneAbove most labels
unfolding label_above
labelled most labels =
    (label-most most labels, λ k. any-nowhere (length labels) (λ v. ltb most (get_or labels v 0)) (λ v l. le-ltb most (get_or labels v 0) (k v l)))

pub fit-choice : (asked : Ceiling) → (unfit_choice asked ≡ false) ↔ FitChoice asked
unfolding unfit_choice legal_e
fit-choice asked = (there, λ k. rw (le-ltb 3 choice k.known) (back k (eqb choice 2) refl))
  where
    choice : ℕ
    choice = asked.choice

    e : Float
    e = asked.imbalance

    legal : unfit_choice asked ≡ false → choice ≡ 2 → le zero64 e && le e most64 ≡ true
    legal h two = not-false (le zero64 e && le e most64) (rw (eq-eqb choice 2 two) at (or-false (ltb 3 choice) (eqb choice 2 && not (legal_e e)) h).1)

    there : unfit_choice asked ≡ false → FitChoice asked
    there h =
        record {
          known = ltb-false 3 choice (or-false (ltb 3 choice) (eqb choice 2 && not (legal_e e)) h).0;
          least = λ two. and_left (le zero64 e) (le e most64) (legal h two);
          most = λ two. and_right (le zero64 e) (le e most64) (legal h two);
        }

    back : FitChoice asked → (b : Bool) → eqb choice 2 ≡ b → b && not (legal_e e) ≡ false
    back k true q = let two = eqb-true choice 2 q in rw (k.least two, k.most two)
    back k false q = refl

-- "The smallest number that applies is given; 0 only if none does": of any answer that meets the promise of `imbalance::compute_parts_load`.
pub loads-refusal : (weights labels : List ℕ) (r : LoadsAnswer) → r ≡ loads_answer weights labels → Smallest (loads_rules weights labels) r.number
unfolding loads_number loads_answer
loads-refusal weights labels r e =
    rw e (given (eqb (loads_number weights labels) 0) refl)
  where
    n : ℕ
    n = length labels

    chain : Smallest (loads_rules weights labels) (loads_number weights labels)
    chain =
        let rules = loads_rules weights labels in
        smallest rules (loads_number weights labels) tt
        (tested rules 1 7 _ (not (eqb (length weights) n)) (omega arith) (omega arith) (contrary (eqb (length weights) n) (equal (length weights) n))
        (tested rules 2 7 _ (ltb most_vertices n) (omega arith) (omega arith) (at_most most_vertices n)
        (unruled rules 3 7 _ tt
        (unruled rules 4 7 _ tt
        (tested rules 5 7 _ (heavy weights) (omega arith) (omega arith) (light weights)
        (tested rules 6 7 0 (label_above 15 labels) (omega arith) (omega arith) (labelled 15 labels)
        (passed rules 7)))))))

    given : (b : Bool) → eqb (loads_number weights labels) 0 ≡ b → Smallest (loads_rules weights labels) (loads_answer weights labels).number
    given true q = rw q (rw (eqb-true (loads_number weights labels) 0 q) at chain)
    given false q = rw q chain

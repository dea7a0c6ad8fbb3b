-- The number of a call of FM is the smallest that applies, after a call with n = 0, which comes before all checks. Assumes nothing.
use mathlib.Core.Path.{◌≡◌, refl}
use mathlib.Core.Bool.{Bool, true, false, cond, ◌||◌}
use mathlib.Core.List.{[], ◌∷◌}
use mathlib.Core.Logic.{◌↔◌}
use Prim.Native.Nat.{ℕ}
use native.Mathlib.Omega.{arith}
use lib.ListN.{length}
use lib.Dec.{ltb, eqb}
use borrow.Author.Tests.{ne_eqb, eqb-true}
use Rattle.lists.specs.Smallest.{Smallest}
use Rattle.lists.proofs.Smallests.{at_most, either-fails, passed, tested, thence, with-more, smallest}
use Rattle.imbalance.specs.Limit.{most_passes, label_above}
use Rattle.imbalance.specs.Ceiling.{unfit_choice}
use Rattle.imbalance.specs.Rules.{NoneAbove}
use Rattle.imbalance.proofs.Refusals.{labelled, fit-choice}
use Rattle.topology.specs.Rule.{graph_number}
use Rattle.topology.specs.Rules.{graph_rules}
use Rattle.topology.proofs.Refusals.{graph-first}
use Rattle.fiduccia_mattheyses.specs.declared.Settings.{Settings}
use Rattle.fiduccia_mattheyses.specs.declared.Report.{Report}
use Rattle.topology.specs.Given.{graph_of}
use Rattle.fiduccia_mattheyses.specs.Entry.{Given, Lent, lengths_of, unfit, short, number_of, number, empty, report_of, refused, answer, Refined}
use Rattle.fiduccia_mattheyses.specs.Rules.{FitSettings, LongEnough, rules}
use Rattle.fiduccia_mattheyses.proofs.Entering.{at-empty}
use Rattle.fiduccia_mattheyses.proofs.Unique.{unique}

fit-settings : (s : Settings) → (unfit s ≡ false) ↔ FitSettings s
unfolding unfit
fit-settings s =
    let b = either-fails (ltb most_passes s.passes) (unfit_choice s.ceiling) (at_most most_passes s.passes) (fit-choice s.ceiling) in
    ((λ h. let k = b.0 h in record { few_passes = k.0; fit_choice = k.1 }), λ k. b.1 (k.few_passes, k.fit_choice))

long-enough : (passes : ℕ) (l : Lent) → (short (length l.labels) passes (lengths_of l) ≡ false) ↔ LongEnough passes l
unfolding short
long-enough passes l =
    let n = length l.labels in
    let gains = length l.gains in
    let moves = length l.moves in
    let made = length l.made in
    let rewound = length l.rewound in
    let b = either-fails (ltb gains n) (ltb moves n || (ltb made passes || ltb rewound passes)) (at_most gains n)
    (either-fails (ltb moves n) (ltb made passes || ltb rewound passes) (at_most moves n)
    (either-fails (ltb made passes) (ltb rewound passes) (at_most made passes) (at_most rewound passes))) in
    ((λ h. let k = b.0 h in record { gains = k.0; moves = k.1.0; made = k.1.1.0; rewound = k.1.1.1 }), λ k. b.1 (k.gains, (k.moves, (k.made, k.rewound))))

pub number-smallest : (p : Given) (l : Lent) → Smallest (rules p l) (number p l)
unfolding number_of
number-smallest p l =
    let n = length l.labels in
    let own = NoneAbove 1 l.labels ∷ FitSettings p.settings ∷ LongEnough p.settings.passes l ∷ [] in
    let graph = graph_rules n p.weights (graph_of p) in
    let k = graph_number n p.weights (graph_of p) in
    smallest (rules p l) (number p l) tt
    (thence (rules p l) 1 6 9 k _ (omega arith) (with-more graph own 1 6 k (omega arith) (graph-first n p.weights (graph_of p)))
    (tested (rules p l) 6 9 _ (label_above 1 l.labels) (omega arith) (omega arith) (labelled 1 l.labels)
    (tested (rules p l) 7 9 _ (unfit p.settings) (omega arith) (omega arith) (fit-settings p.settings)
    (tested (rules p l) 8 9 0 (short n p.settings.passes (lengths_of l)) (omega arith) (omega arith) (long-enough p.settings.passes l)
    (passed (rules p l) 9)))))

-- "FM and arc-swap with n = 0 come before all checks: done, end 3, all else zero", and nothing written.
pub empty-call : (p : Given) (l : Lent) (r : Report) (k : Lent) → Refined p l r k → length l.labels ≡ 0 → (r ≡ empty) × (k ≡ l)
empty-call p l r k d z = unique p l r empty k l d (at-empty p l empty z refl)

-- "The smallest number that applies is given; 0 only if none does": of every call of FM with a vertex.
pub refusal : (p : Given) (l : Lent) (r : Report) (k : Lent) → Refined p l r k → (length l.labels ≡ 0 → ⊥) → Smallest (rules p l) r.number
unfolding answer report_of
refusal p l r k d ne = rw (d.answered, ne_eqb (length l.labels) 0 ne) (given (eqb (number p l) 0) refl)
  where
    given : (b : Bool) → eqb (number p l) 0 ≡ b → Smallest (rules p l) (cond b (report_of p l) (refused (number p l))).number
    given true e = rw (eqb-true (number p l) 0 e) at (number-smallest p l)
    given false e = number-smallest p l

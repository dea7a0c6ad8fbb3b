-- FM does not look at what the ceiling's choice does not use, nor at how one number for every part is asked for. Assumes nothing.
use mathlib.Core.Path.{◌≡◌, ap}
use mathlib.Core.Bool.{true, cond}
use mathlib.Core.List.{map}
use lib.ListN.{length}
use lib.Dec.{eqb}
use lib.IntN.{pos}
use Rattle.lists.specs.Sum.{total}
use Rattle.lists.specs.Fill.{filled, table, over}
use Rattle.imbalance.specs.Load.{load, loads_of}
use Rattle.imbalance.proofs.Refusals.{fit-choice}
use Rattle.imbalance.proofs.Unused.{same_outcome, SameAsked, used-alike, numbers-alike}
use Rattle.topology.specs.Cut.{cut}
use Rattle.fiduccia_mattheyses_pass.specs.Pass.{Pass}
use Rattle.fiduccia_mattheyses.specs.declared.Settings.{Settings}
use Rattle.fiduccia_mattheyses.specs.declared.Report.{Report}
use Rattle.fiduccia_mattheyses.specs.Run.{run}
use Rattle.topology.specs.Given.{graph_of}
use Rattle.fiduccia_mattheyses_pass.specs.Pass.{no_move}
use Rattle.fiduccia_mattheyses.specs.Entry.{Given, Lent, unfit, number_of, number, terms_of, empty, refused, report_of, left_by, answer, left}
use Rattle.fiduccia_mattheyses.specs.Used.{SameSettings, SameCeiling, with_settings}
use Rattle.fiduccia_mattheyses.proofs.Refusals.{number-smallest}

-- two settings have the same limits, and what they ask of the ceiling comes to the same
record SameAskedSettings (s s' : Settings) : Type 0 where
  passes : s.passes ≡ s'.passes
  moves : s.moves ≡ s'.moves
  bad : s.bad ≡ s'.bad
  ceiling : SameAsked s.ceiling s'.ceiling

module _ (p : Given) (s : Settings) (l : Lent) where
  -- the call with the settings s answers the same and leaves the same lists
  abbrev pub SameCall : Type 0
  SameCall = (answer p l ≡ answer (with_settings p s) l) × (left p l ≡ left (with_settings p s) l)

  module _ (same : SameAskedSettings p.settings s) where
    same-unfit : unfit p.settings ≡ unfit s
    unfolding unfit
    same-unfit = rw (same.passes, same.ceiling.fit)

    same_number : number p l ≡ number (with_settings p s) l
    unfolding number_of
    same_number = rw (same-unfit, same.passes)

    -- a call that is done has a fit choice, so that the ceilings are the same
    same-terms : number p l ≡ 0 → terms_of p l ≡ terms_of (with_settings p s) l
    same-terms z =
        let fits = (fit-choice p.settings.ceiling).1 ((number-smallest p l).kept z 7).fit_choice in
        let c = same.ceiling.capped fits (table 16 (load p.weights l.labels)) (total p.weights) 2 in
        λ i. record { graph = graph_of p; weights = p.weights; ceilings = c i; movable = λ v. true; bad_limit = same.bad i; move_limit = same.moves i }

    same-report : number p l ≡ 0 → report_of p l ≡ report_of (with_settings p s) l
    unfolding report_of
    same-report z =
        let t = same-terms z in
        let k = same.passes in
        λ i. record {
          number = 0;
          end = (run (t i) (k i) l.labels).end;
          passes = length (run (t i) (k i) l.labels).rows;
          first = cut (graph_of p) l.labels;
          last = cut (graph_of p) (run (t i) (k i) l.labels).labels;
          loads = loads_of p.weights (run (t i) (k i) l.labels).labels;
        }

    same_lists : number p l ≡ 0 → left_by p l ≡ left_by (with_settings p s) l
    unfolding left_by
    same_lists z =
        let t = same-terms z in
        let k = same.passes in
        λ i. record {
          labels = (run (t i) (k i) l.labels).labels;
          gains = filled (pos 0) (length l.labels) l.gains;
          moves = filled no_move (length l.labels) l.moves;
          made = over (map (λ (r : Pass). r.made) (run (t i) (k i) l.labels).rows) l.made;
          rewound = over (map (λ (r : Pass). r.rewound) (run (t i) (k i) l.labels).rows) l.rewound;
        }

    same-call : SameCall
    unfolding answer left
    same-call =
        let q = with_settings p s in (
          ap (λ (r : Report). cond (eqb (length l.labels) 0) empty r) (same_outcome (number p l) (number q l) (report_of p l) (report_of q l) refused same_number same-report),
          ap (λ (k : Lent). cond (eqb (length l.labels) 0) l k) (same_outcome (number p l) (number q l) (left_by p l) (left_by q l) (λ k. l) same_number same_lists),
        )

  -- "What the choice does not use is not looked at": two calls of FM whose settings differ in nothing else answer the same and leave the same lists.
  pub unused-not-looked-at : SameSettings p.settings s → SameCall
  unused-not-looked-at same = same-call (record { passes = same.passes; moves = same.moves; bad = same.bad; ceiling = used-alike _ _ same.ceiling })

  -- Choice 3 with sixteen equal numbers answers and leaves what choice 1 with that number does.
  pub equal-numbers-answer-alike : SameCeiling p.settings s → SameCall
  equal-numbers-answer-alike same = same-call (record { passes = same.passes; moves = same.moves; bad = same.bad; ceiling = numbers-alike _ _ same.ceiling })

-- Arc-swap does not look at what the ceiling's choice does not use, nor at how one number for every part is asked for. Assumes nothing.
use mathlib.Core.Path.{◌≡◌, ap}
use mathlib.Core.Bool.{true, cond}
use Prim.Native.Nat.{◌+◌}
use lib.ListN.{length}
use lib.Dec.{eqb}
use Rattle.lists.specs.Sum.{total}
use Rattle.lists.specs.Fill.{filled, table}
use Rattle.imbalance.specs.Load.{load, loads_of}
use Rattle.imbalance.proofs.Unused.{same_outcome, SameAsked, used-alike, numbers-alike}
use Rattle.topology.specs.Cut.{cut}
use Rattle.arc_swap.specs.declared.Settings.{Settings}
use Rattle.arc_swap.specs.declared.Report.{Report}
use Rattle.arc_swap.specs.Run.{Terms, Run, run}
use Rattle.topology.specs.Given.{graph_of}
use Rattle.arc_swap.specs.Entry.{Given, Lent, number, parts_of, terms_of, no_counts, begin, run_of, empty, refused, report_of, left_by, answer, left}
use Rattle.arc_swap.specs.Used.{SameSettings, SameCeiling, with_settings}
use Rattle.arc_swap.proofs.Entering.{ready}

module _ (p : Given) (s : Settings) (l : Lent) where
  -- the call with the settings s answers the same and leaves the same lists and run record
  abbrev pub SameCall : Type 0
  SameCall = (answer p l ≡ answer (with_settings p s) l) × (left p l ≡ left (with_settings p s) l)

  -- what the two settings ask of the ceiling comes to the same
  module _ (alike : SameAsked p.settings.ceiling s.ceiling) where
    same_number : number p l.labels ≡ number (with_settings p s) l.labels
    unfolding number
    same_number = rw alike.fit

    -- a call that is done has a fit choice, so that the ceilings are the same
    same-run : number p l.labels ≡ 0 → run_of p l ≡ run_of (with_settings p s) l
    same-run z =
        let fits = (ready p l.labels z).fit in
        let c = alike.capped fits (table 16 (load p.weights l.labels)) (total p.weights) (parts_of l.labels) in
        let t : terms_of p l ≡ terms_of (with_settings p s) l = λ i. record { graph = graph_of p; weights = p.weights; ceilings = c i; movable = λ v. true; parts = parts_of l.labels; places = length l.stack } in
        ap (λ (x : Terms). run x (cut (graph_of p) l.labels + 1) 0 (begin l.labels)) t

    same-report : number p l.labels ≡ 0 → report_of p l ≡ report_of (with_settings p s) l
    unfolding report_of
    same-report z =
        ap
        (λ (x : Run).
        let r : Report = record { number = 0; end = x.end; passes = x.passes; first = cut (graph_of p) l.labels; last = cut (graph_of p) x.state.labels; loads = loads_of p.weights x.state.labels } in
        r)
        (same-run z)

    same_lists : number p l.labels ≡ 0 → left_by p l ≡ left_by (with_settings p s) l
    unfolding left_by
    same_lists z =
        ap
        (λ (x : Run).
        let k : Lent = record { labels = x.state.labels; stack = filled 0 (length l.stack) l.stack; run = x.state.counts } in
        k)
        (same-run z)

    same-call : SameCall
    unfolding answer left
    same-call =
        let q = with_settings p s in
        let j = number p l.labels in
        let k = number q l.labels in (
          ap (λ (r : Report). cond (eqb (length l.labels) 0) empty r) (same_outcome j k (report_of p l) (report_of q l) refused same_number same-report),
          ap (λ (m : Lent). cond (eqb (length l.labels) 0) (record { labels = l.labels; stack = l.stack; run = no_counts }) m) (same_outcome j k (left_by p l) (left_by q l) (λ i. l) same_number same_lists),
        )

  -- "What the choice does not use is not looked at": two calls of arc-swap whose settings differ in nothing else answer the same and leave the same lists and run record.
  pub unused-not-looked-at : SameSettings p.settings s → SameCall
  unused-not-looked-at same = same-call (used-alike _ _ same)

  -- Choice 3 with sixteen equal numbers answers and leaves what choice 1 with that number does.
  pub equal-numbers-answer-alike : SameCeiling p.settings s → SameCall
  equal-numbers-answer-alike same = same-call (numbers-alike _ _ same)

-- The call, from what it comes to to its promise: what number 0 tells, where the run begins, what it asks and leaves, and the ways out. Assumes nothing.
use mathlib.Core.Path.{◌≡◌, refl, sym, ap, ◌∙◌}
use mathlib.Core.Bool.{Bool, true, false, cond, ◌||◌}
use mathlib.Core.List.{List, ◌++◌, map}
use Prim.Native.Nat.{ℕ, ◌+◌, ◌-◌, ◌≤◌, ◌<◌}
use native.Mathlib.Omega.{arith}
use lib.Dec.{ltb}
use lib.ListN.{length, get_or, take, drop, length-append, length-drop, get_or-eq_default}
use lib.Seq.{length-take-le, ext_get_or, get_or-drop, drop_at}
use lib.IntN.{ℤ, pos}
use borrow.Author.Tests.{eq-eqb, ne_eqb, ltb-true, ltb-false, le-ltb}
use Rattle.lists.specs.Sum.{total}
use Rattle.lists.specs.Fill.{filled, table, over}
use Rattle.lists.proofs.Bools.{or-false}
use Rattle.lists.proofs.Numbers.{or-else-zero, not-given}
use Rattle.lists.proofs.Alls.{any-nowhere}
use Rattle.lists.proofs.Fills.{length-written, written_below, written-past}
use Rattle.imbalance.specs.Limit.{most_passes, label_above}
use Rattle.imbalance.specs.Load.{part, load, loads_of, Loadable}
use Rattle.imbalance.specs.Ceiling.{unfit_choice, ceilings}
use Rattle.imbalance.specs.declared.Loads.{Loads}
use Rattle.imbalance.proofs.Limits.{label-most}
use Rattle.imbalance.proofs.Choices.{ceilings-long}
use Rattle.topology.specs.Rule.{graph_number}
use Rattle.topology.specs.Cut.{cut}
use Rattle.topology.proofs.Numbers.{sound}
use Rattle.fiduccia_mattheyses_choice.specs.Choice.{Terms}
use Rattle.fiduccia_mattheyses_pass.specs.Pass.{Pass}
use Rattle.fiduccia_mattheyses_pass.specs.inner.Standing.{Fixed}
use Rattle.fiduccia_mattheyses_pass.specs.declared.Move.{Move}
use Rattle.fiduccia_mattheyses.specs.declared.Report.{Report}
use Rattle.fiduccia_mattheyses.specs.declared.Begun.{Begun}
use Rattle.lists.specs.End.{end_number}
use Rattle.fiduccia_mattheyses.specs.declared.Ended.{Ended}
use Rattle.fiduccia_mattheyses.specs.Run.{Run, run}
use Rattle.topology.specs.Given.{graph_of}
use Rattle.fiduccia_mattheyses_pass.specs.Pass.{no_move}
use Rattle.fiduccia_mattheyses.specs.Entry.{Given, Lent, unfit, short, lengths_of, number_of, number, terms_of, run_of, refused, empty, report_of, left_by, answer, left, Refined}
use Rattle.fiduccia_mattheyses_pass.specs.inner.Steps.{terms_by}
use Rattle.fiduccia_mattheyses.specs.inner.Steps.{Beginnable, Begins, PassesAsked, PassesDone, Ready, Ran}

-- ---- what number 0 tells
pub ready : (p : Given) (l : Lent) (k : ℕ) → (length l.labels ≡ 0 → ⊥) → k ≡ number p l → k ≡ 0 → Ready p l
unfolding number_of unfit short
ready p l k s e z =
    let n = length l.labels in
    let q = p.settings.passes in
    let r = lengths_of l in
    let both = or-else-zero (graph_number n p.weights (graph_of p)) (cond (label_above 1 l.labels) 6 (cond (unfit p.settings) 7 (cond (short n q r) 8 0))) (sym e ∙ z) in
    let six = not-given (label_above 1 l.labels) 5 (cond (unfit p.settings) 7 (cond (short n q r) 8 0)) both.1 in
    let seven = not-given (unfit p.settings) 6 (cond (short n q r) 8 0) six.1 in
    let eight = not-given (short n q r) 7 0 seven.1 in
    let u = or-false (ltb most_passes q) (unfit_choice p.settings.ceiling) seven.0 in
    let s0 = or-false (ltb r.gains n) (ltb r.moves n || (ltb r.made q || ltb r.rewound q)) eight.0 in
    let s1 = or-false (ltb r.moves n) (ltb r.made q || ltb r.rewound q) s0.1 in
    let s2 = or-false (ltb r.made q) (ltb r.rewound q) s1.1 in
    record {
      a_vertex = omega arith;
      beginnable = record { sound = sound n p.weights (graph_of p) both.0; labelled = six.0; fit = u.1 };
      few_passes = ltb-false most_passes q u.0;
      in_gains = ltb-false r.gains n s0.0;
      in_moves = ltb-false r.moves n s1.0;
      in_made = ltb-false r.made q s2.0;
      in_rewound = ltb-false r.rewound q s2.1;
    }

-- what the run asks holds of a call that runs: it has a vertex, and no number applies
pub ready-to-run : (p : Given) (l : Lent) → (length l.labels ≡ 0 → ⊥) → number p l ≡ 0 → Ready p l
ready-to-run p l some none = ready p l (number p l) some refl none

-- ---- the first places of a list, lent on and joined again with the rest
module _ {A : Type 0} (n : ℕ) (xs ys : List A) (e : length ys ≡ length (take n xs)) (h : n ≤ length xs) where
  pub joined-long : length (ys ++ drop n xs) ≡ length xs
  joined-long = length-append ys (drop n xs) ∙ (let t = length-take-le n xs h in let d = length-drop n xs in omega arith)

  pub joined-past : drop n (ys ++ drop n xs) ≡ drop n xs
  joined-past = let t = length-take-le n xs h in drop_at ys (drop n xs) n (e ∙ t)

-- ---- where the run begins
module _ (p : Given) (labels : List ℕ) (a : Beginnable p labels) where
  -- labels 0 or 1, also past the list's end
  two_labels : (x : ℕ) → part labels x < 2
  two_labels x = go (ltb x (length labels)) refl
    where
      go : (t : Bool) → ltb x (length labels) ≡ t → part labels x < 2
      go true t = let h = label-most 1 labels a.labelled x (ltb-true x (length labels) t) in omega arith
      go false t = rw (get_or-eq_default labels 0 {n = x} (ltb-false x (length labels) t)) (omega arith)

  pub loadable : Loadable p.weights labels
  unfolding label_above
  loadable = record {
    paired = a.sound.weighed;
    few = a.sound.rows.few;
    light = a.sound.light;
    named = any-nowhere (length labels) (λ v. ltb 15 (get_or labels v 0)) (λ v k. (let h = two_labels v in le-ltb 15 (get_or labels v 0) (omega arith)));
  }

  pub begins : (loads : Loads) (total' : ℕ) → loads ≡ loads_of p.weights labels → total' ≡ total p.weights → (b : Begun) → b.limits.ceilings.at ≡ ceilings loads.at total' 2 p.settings.ceiling → b.limits.bad ≡ p.settings.bad → b.limits.moves ≡ p.settings.moves → b.loads ≡ loads → b.cut ≡ cut (graph_of p) labels → Begins p labels b
  begins loads total' el et b ec eb em eo eu = record { capped = ec ∙ rw (el, et); bad_is = eb; moves_are = em; loaded = eo ∙ el; cut_is = eu }

-- ---- the run
module _ (p : Given) (l : Lent) (a : Ready p l) where
  abbrev n : ℕ
  n = length l.labels

  module _ (b : Begun) (g : Begins p l.labels b) where
    abbrev s : Terms
    s = terms_by (graph_of p) p.weights b.limits

    -- the terms that the code works with are the definition's
    same-terms : s ≡ terms_of p l
    same-terms = λ i. record { graph = graph_of p; weights = p.weights; ceilings = g.capped i; movable = λ v. true; bad_limit = g.bad_is i; move_limit = g.moves_are i }

    fixed : Fixed s n
    fixed =
        let r = a.beginnable.sound in
        record {
          rows = r.rows;
          symmetric = r.symmetric;
          weighed = r.weighed;
          light = r.light;
          light_arcs = r.light_arcs;
          capped = ap length g.capped ∙ ceilings-long _ _ _ _;
          all_movable = λ v. refl;
        }

    -- what the passes ask: the gains' first n places are lent on
    pub passes-asked : (gains : List ℤ) → length gains ≡ n → PassesAsked s p.settings.passes l.labels gains l.moves l.made l.rewound b.loads.at b.cut
    passes-asked gains eg = record {
      begun = record {
        fixed = fixed;
        two_labels = two_labels p l.labels a.beginnable;
        gained = eg;
        places = a.in_moves;
        loaded = ap (λ (x : Loads). x.at) g.loaded;
        cut_is = g.cut_is;
      };
      in_made = a.in_made;
      in_rewound = a.in_rewound;
      few_passes = a.few_passes;
    }

    -- lists that agree from n on are alike once their first n places are filled
    refilled : {A : Type 0} (x : A) (xs ys : List A) → length xs ≡ length ys → n ≤ length ys → drop n xs ≡ drop n ys → filled x n xs ≡ filled x n ys
    refilled {A} x xs ys e h d =
        ext_get_or x (filled x n xs) (filled x n ys) (length-written (λ (j : ℕ). x) n xs ∙ e ∙ sym (length-written (λ (j : ℕ). x) n ys))
        (λ i k. each i (ltb i n) refl)
      where
        each : (i : ℕ) (t : Bool) → ltb i n ≡ t → get_or (filled x n xs) i x ≡ get_or (filled x n ys) i x
        each i true t =
            let b = ltb-true i n t in
            written_below (λ (j : ℕ). x) x n xs (omega arith) i b ∙ sym (written_below (λ (j : ℕ). x) x n ys h i b)
        each i false t =
            let b = ltb-false i n t in
            let q : n + (i - n) ≡ i = omega arith in
            written-past (λ (j : ℕ). x) x n xs i b
            ∙ ap (λ (j : ℕ). get_or xs j x) (sym q) ∙ sym (get_or-drop n xs (i - n) x)
            ∙ ap (λ (z : List A). get_or z (i - n) x) d
            ∙ get_or-drop n ys (i - n) x ∙ ap (λ (j : ℕ). get_or ys j x) q
            ∙ sym (written-past (λ (j : ℕ). x) x n ys i b)

    -- what the run leaves
    pub ran :
        (labels' : List ℕ) (moves' : List Move) (made' rewound' : List ℕ) (r : Ended)
        → PassesDone s p.settings.passes l.labels l.moves l.made l.rewound labels' moves' made' rewound' r
        → (gains' gains'' : List ℤ)
        → length gains' ≡ length l.gains
        → drop n gains' ≡ drop n l.gains
        → gains'' ≡ filled (pos 0) n gains'
        → (moves'' : List Move)
        → moves'' ≡ filled no_move n moves'
        → (q : Report)
        → q ≡ record { number = 0; end = end_number r.end; passes = r.passes; first = b.cut; last = r.cut; loads = r.loads }
        → Ran p l q (record { labels = labels'; gains = gains''; moves = moves''; made = made'; rewound = rewound' })
    unfolding left_by report_of
    ran labels' moves' made' rewound' r d gains' gains'' gl gd eg moves'' em' q eq =
        let rr : run s p.settings.passes l.labels ≡ run_of p l = ap (λ (x : Terms). run x p.settings.passes l.labels) same-terms in
        let ll : labels' ≡ (run_of p l).labels = d.labelled ∙ ap (λ (x : Run). x.labels) rr in
        record {
          answered =
              eq
              ∙ (λ i.
              record {
                number = 0;
                end = (d.end_is ∙ ap (λ (x : Run). x.end) rr) i;
                passes = (d.passes_are ∙ ap (λ (x : Run). length x.rows) rr) i;
                first = g.cut_is i;
                last = (d.cut_is ∙ ap (cut (graph_of p)) ll) i;
                loads = record { at = (d.loaded ∙ ap (λ (x : List ℕ). table 16 (load p.weights x)) ll) i };
              });
          labels = ll;
          gains = eg ∙ refilled (pos 0) gains' l.gains gl a.in_gains gd;
          moves = em' ∙ refilled no_move moves' l.moves d.moves_long a.in_moves d.moves_past;
          made = d.made_are ∙ ap (λ (x : Run). over (map (λ (y : Pass). y.made) x.rows) l.made) rr;
          rewound = d.rewound_are ∙ ap (λ (x : Run). over (map (λ (y : Pass). y.rewound) x.rows) l.rewound) rr;
        }

-- ---- the call's ways out: answered at once, or run
refined : (p : Given) (l : Lent) (r : Report) (k : Lent) → r ≡ answer p l → k.labels ≡ (left p l).labels → k.gains ≡ (left p l).gains → k.moves ≡ (left p l).moves → k.made ≡ (left p l).made → k.rewound ≡ (left p l).rewound → Refined p l r k
refined p l r k a b c d e f = record { answered = a; labels = b; gains = c; moves = d; made = e; rewound = f }

pub at-empty : (p : Given) (l : Lent) (r : Report) → length l.labels ≡ 0 → r ≡ empty → Refined p l r l
unfolding answer left
at-empty p l r z e = let t = eq-eqb (length l.labels) 0 z in refined p l r l (rw t e) (rw t refl) (rw t refl) (rw t refl) (rw t refl) (rw t refl)

pub at-refusal : (p : Given) (l : Lent) (r : Report) → (length l.labels ≡ 0 → ⊥) → (number p l ≡ 0 → ⊥) → r ≡ refused (number p l) → Refined p l r l
unfolding answer left
at-refusal p l r z u e =
    let t = ne_eqb (length l.labels) 0 z in
    let v = ne_eqb (number p l) 0 u in
    refined p l r l (rw (t, v) e) (rw (t, v) refl) (rw (t, v) refl) (rw (t, v) refl) (rw (t, v) refl) (rw (t, v) refl)

pub at-run : (p : Given) (l : Lent) (r : Report) (k : Lent) → (length l.labels ≡ 0 → ⊥) → number p l ≡ 0 → Ran p l r k → Refined p l r k
unfolding answer left
at-run p l r k u z g =
    let t = ne_eqb (length l.labels) 0 u in
    let v = eq-eqb (number p l) 0 z in
    refined p l r k (rw (t, v) g.answered) (rw (t, v) g.labels) (rw (t, v) g.gains) (rw (t, v) g.moves) (rw (t, v) g.made) (rw (t, v) g.rewound)

-- A move limit above n changes nothing: neither a run, nor what the call answers, nor what it leaves. Assumes nothing.
use mathlib.Core.Path.{◌≡◌, refl, sym, ap, ◌∙◌}
use mathlib.Core.Bool.{Bool, true, false, cond}
use mathlib.Core.List.{List, [], ◌∷◌}
use Prim.Native.Nat.{ℕ, zero, suc, ◌≤◌}
use lib.Dec.{ltb, eqb}
use lib.ListN.{length}
use lib.IntN.{pos}
use Rattle.lists.specs.Fill.{filled, over}
use Rattle.imbalance.specs.Load.{loads_of}
use Rattle.topology.specs.Cut.{cut}
use Rattle.fiduccia_mattheyses_choice.specs.Choice.{Terms, with_move_limit}
use Rattle.fiduccia_mattheyses_pass.specs.Pass.{Pass, pass}
use Rattle.fiduccia_mattheyses_pass.proofs.MoveLimits.{pass-limit}
use Rattle.fiduccia_mattheyses.specs.Run.{Run, run}
use Rattle.topology.specs.Given.{graph_of}
use Rattle.fiduccia_mattheyses_pass.specs.Pass.{no_move}
use Rattle.fiduccia_mattheyses.specs.Entry.{Given, with_moves, Lent, unfit, number_of, number, terms_of, run_of, refused, empty, report_of, left_by, answer, left}
use Rattle.fiduccia_mattheyses.proofs.Running.{mades, rewounds, run-last, run_more}
use Rattle.fiduccia_mattheyses.proofs.Single.{pass-long}

-- With two move limits of at least n a run is the same.
pub run-limit : (s : Terms) (passes : ℕ) (p : List ℕ) (j k : ℕ) → length p ≤ j → length p ≤ k → run (with_move_limit s j) passes p ≡ run (with_move_limit s k) passes p
unfolding run
run-limit s zero p j k a b = refl
run-limit s (suc passes) p j k a b =
    go (ltb (pass (with_move_limit s j) p).least (cut s.graph p)) refl
    (run-limit s passes (pass (with_move_limit s k) p).labels j k (rw (pass-long (with_move_limit s k) p) a) (rw (pass-long (with_move_limit s k) p) b))
  where
    same : pass (with_move_limit s j) p ≡ pass (with_move_limit s k) p
    same = pass-limit s p j k a b

    before : Pass → Run → Run
    before r x = record { end = x.end; rows = r ∷ x.rows; labels = x.labels }

    go : (t : Bool) → ltb (pass (with_move_limit s j) p).least (cut s.graph p) ≡ t → run (with_move_limit s j) passes (pass (with_move_limit s k) p).labels ≡ run (with_move_limit s k) passes (pass (with_move_limit s k) p).labels → run (with_move_limit s j) (suc passes) p ≡ run (with_move_limit s k) (suc passes) p
    go true e ih =
        run_more (with_move_limit s j) passes p e
        ∙ ap (λ (r : Pass). before r (run (with_move_limit s j) passes r.labels)) same
        ∙ ap (before (pass (with_move_limit s k) p)) ih
        ∙ sym (run_more (with_move_limit s k) passes p (ap (λ (r : Pass). ltb r.least (cut s.graph p)) (sym same) ∙ e))
    go false e ih =
        run-last (with_move_limit s j) passes p e
        ∙ ap (λ (r : Pass). record { end = 1; rows = r ∷ []; labels = r.labels }) same
        ∙ sym (run-last (with_move_limit s k) passes p (ap (λ (r : Pass). ltb r.least (cut s.graph p)) (sym same) ∙ e))

module _ (p : Given) (l : Lent) (j k : ℕ) (a : length l.labels ≤ j) (b : length l.labels ≤ k) where
  same-run : run_of (with_moves p j) l ≡ run_of (with_moves p k) l
  same-run = run-limit (terms_of p l) p.settings.passes l.labels j k a b

  -- With two move limits of at least n the call answers the same.
  pub answer-limit : answer (with_moves p j) l ≡ answer (with_moves p k) l
  unfolding answer report_of number_of unfit
  answer-limit =
      ap (λ (x : Run).
      cond (eqb (length l.labels) 0) empty
      (cond (eqb (number p l) 0)
      (record { number = 0; end = x.end; passes = length x.rows; first = cut (graph_of p) l.labels; last = cut (graph_of p) x.labels; loads = loads_of p.weights x.labels })
      (refused (number p l))))
      same-run

  -- With two move limits of at least n the call leaves the same.
  pub left-limit : left (with_moves p j) l ≡ left (with_moves p k) l
  unfolding left left_by number_of unfit
  left-limit =
      ap (λ (x : Run).
      cond (eqb (length l.labels) 0) l
      (cond (eqb (number p l) 0)
      (record { labels = x.labels; gains = filled (pos 0) (length l.labels) l.gains; moves = filled no_move (length l.labels) l.moves; made = over (mades x.rows) l.made; rewound = over (rewounds x.rows) l.rewound })
      l))
      same-run

-- Demand 3 of the call itself: whatever report and lists meet the promise with number 0, the demand holds of them. Assumes nothing.
use mathlib.Core.Path.{◌≡◌, refl, sym, ap, ◌∙◌}
use mathlib.Core.Bool.{Bool, true, false}
use mathlib.Core.List.{List, [], ◌∷◌}
use Prim.Native.Nat.{ℕ, zero, suc, ◌<◌}
use native.Mathlib.Omega.{arith}
use lib.Dec.{ltb}
use lib.ListN.{length, get_or, length-map}
use Rattle.lists.specs.Sum.{sum, total}
use Rattle.lists.proofs.Sums.{sum-none}
use Rattle.lists.proofs.Totals.{sum-ext, sum-most}
use Rattle.topology.specs.Cut.{cut}
use Rattle.fiduccia_mattheyses_choice.specs.Choice.{Terms}
use Rattle.fiduccia_mattheyses_pass.specs.Pass.{Pass, pass}
use Rattle.fiduccia_mattheyses.specs.declared.Report.{Report}
use Rattle.fiduccia_mattheyses.specs.Run.{Run, run}
use Rattle.topology.specs.Given.{graph_of}
use Rattle.fiduccia_mattheyses.specs.Entry.{Given, Lent, terms_of, run_of, report_of, left_by, Refined}
use Rattle.fiduccia_mattheyses.specs.Demand.{EarliestOfLeast, states, NoSingleBlock, DemandThree}
use Rattle.fiduccia_mattheyses.proofs.Running.{mades, run-last, run_more}
use Rattle.fiduccia_mattheyses.proofs.Results.{Done, two_ways, no-vertices, ran, passes_are, made_at}
use Rattle.fiduccia_mattheyses.proofs.Earliest.{earliest-is}
use Rattle.fiduccia_mattheyses.proofs.Least.{leaves-the-least}
use Rattle.fiduccia_mattheyses.proofs.States.{states-counted}
use Rattle.fiduccia_mattheyses.proofs.Counts.{rows-counted, counted-at}
use Rattle.fiduccia_mattheyses.proofs.Single.{pass-long, no-single-block}
use Rattle.fiduccia_mattheyses.proofs.Boards.{no-board-above}

run_long : (s : Terms) (k : ℕ) (p : List ℕ) → length (run s k p).labels ≡ length p
unfolding run
run_long s zero p = refl
run_long s (suc k) p = go (ltb (pass s p).least (cut s.graph p)) refl (run_long s k (pass s p).labels)
  where
    go : (b : Bool) → ltb (pass s p).least (cut s.graph p) ≡ b → length (run s k (pass s p).labels).labels ≡ length (pass s p).labels → length (run s (suc k) p).labels ≡ length p
    go true e ih = ap (λ (x : Run). length x.labels) (run_more s k p e) ∙ ih ∙ pass-long s p
    go false e ih = ap (λ (x : Run). length x.labels) (run-last s k p e) ∙ pass-long s p

none-same : (xs ys : List ℕ) → length xs ≡ 0 → length ys ≡ 0 → xs ≡ ys
none-same [] [] a b = refl
none-same [] (y ∷ ys) a b = absurd (omega (arith, b))
none-same (x ∷ xs) ys a b = absurd (omega (arith, a))

module _ (p : Given) (l : Lent) (r : Report) (k : Lent) (f : Refined p l r k) (z : r.number ≡ 0) where
  -- the labels are those of the run, for no vertices too
  labels_are : k.labels ≡ (run_of p l).labels
  unfolding left_by
  labels_are = go (two_ways p l r k f z)
    where
      go : Done p l r k → k.labels ≡ (run_of p l).labels
      go (no-vertices n e q) = rw q (none-same l.labels (run_of p l).labels n (run_long (terms_of p l) p.settings.passes l.labels ∙ n))
      go (ran n a d) = d.labels

  single : r.end ≡ 1 → 0 < p.settings.moves → NoSingleBlock (terms_of p l) (run_of p l).labels
  unfolding report_of
  single one moves = go (two_ways p l r k f z)
    where
      go : Done p l r k → NoSingleBlock (terms_of p l) (run_of p l).labels
      go (no-vertices n e q) = absurd (omega (arith, ap (λ (x : Report). x.end) e, one))
      go (ran n a d) =
          no-single-block (terms_of p l) p.settings.passes l.labels a.beginnable.sound.symmetric moves
          (sym (ap (λ (x : Report). x.end) d.answered) ∙ one)

  -- Demand 3 holds of every result with number 0.
  pub demand-three : DemandThree p l r k
  demand-three = record {
    least = labels_are ∙ leaves-the-least (terms_of p l) p.settings.passes l.labels;
    single = λ one moves. rw labels_are (single one moves);
    boards = rw labels_are (no-board-above (terms_of p l) p.settings.passes l.labels);
  }

  -- Its first sentence holds with no word of how the labels are found: they stand among the start and the states after each move made, none of these has a lower cut, and each before them has a higher one.
  pub leaves-the-earliest-of-least : EarliestOfLeast (cut (graph_of p)) (l.labels ∷ states (terms_of p l) p.settings.passes l.labels) k.labels
  leaves-the-earliest-of-least = (earliest-is (cut (graph_of p)) l.labels (states (terms_of p l) p.settings.passes l.labels) k.labels).0 demand-three.least

  -- No state is left out of these: they are as many as the moves made that the rows count.
  pub no-state-left-out : length (states (terms_of p l) p.settings.passes l.labels) ≡ sum r.passes (λ i. get_or k.made i 0)
  unfolding total
  no-state-left-out = states-counted (terms_of p l) p.settings.passes l.labels ∙ go (two_ways p l r k f z)
    where
      rows : List Pass
      rows = (run_of p l).rows

      go : Done p l r k → total (mades (run_of p l).rows) ≡ sum r.passes (λ i. get_or k.made i 0)
      go (no-vertices n e q) =
          let few = sum-most (length (mades rows)) 0 (λ i. get_or (mades rows) i 0) (λ i h. (let c = (counted-at (length l.labels) rows (rows-counted (terms_of p l) p.settings.passes l.labels) i (let m = length-map rows (λ (x : Pass). x.made) in omega arith)).0 in omega arith)) in
          rw (ap (λ (x : Report). x.passes) e) (omega (arith, sum-none (λ i. get_or k.made i 0)))
      go (ran n a d) =
          rw (length-map rows (λ (x : Pass). x.made), ← passes_are p l r k d)
          (sum-ext r.passes (λ i. get_or (mades rows) i 0) (λ i. get_or k.made i 0) (λ i h. sym (made_at p l r k d i h)))

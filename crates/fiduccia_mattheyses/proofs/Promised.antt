-- The counts of a run, over every result that meets the call's promise with number 0. Assumes nothing.
use mathlib.Core.Path.{◌≡◌, ap}
use mathlib.Core.List.{List, map}
use Prim.Native.Nat.{ℕ, ◌≤◌, ◌<◌}
use native.Mathlib.Omega.{arith}
use lib.ListN.{length, get_or, length-map}
use Rattle.lists.specs.Fill.{over}
use Rattle.topology.specs.Cut.{cut}
use Rattle.fiduccia_mattheyses_pass.specs.Pass.{Pass}
use Rattle.fiduccia_mattheyses.specs.declared.Report.{Report}
use Rattle.topology.specs.Given.{graph_of}
use Rattle.fiduccia_mattheyses.specs.Entry.{Given, Lent, terms_of, run_of, empty, report_of, left_by, Refined}
use Rattle.fiduccia_mattheyses.specs.inner.Steps.{Ready, Ran}
use Rattle.fiduccia_mattheyses.specs.Counts.{CountsKept}
use Rattle.fiduccia_mattheyses.proofs.Running.{mades, rewounds, over-long}
use Rattle.fiduccia_mattheyses.proofs.Counts.{rows-counted, counted-at, few_passes, passes-within}
use Rattle.fiduccia_mattheyses.proofs.Results.{Done, two_ways, no-vertices, ran, passes_are, made_at, rewound-at}

module _ (p : Given) (l : Lent) (r : Report) (k : Lent) where
  empty-counts : r ≡ empty → CountsKept p l r k
  empty-counts e =
      let no-pass : r.passes ≡ 0 = ap (λ (x : Report). x.passes) e in
      record {
        passes = omega arith;
        limit = omega arith;
        no_vertex = λ n. no-pass;
        in_made = omega arith;
        in_rewound = omega arith;
        made = λ i h. absurd (omega arith);
        rewound = λ i h. absurd (omega arith);
      }

  run-counts : (length l.labels ≡ 0 → ⊥) → Ready p l → Ran p l r k → CountsKept p l r k
  unfolding report_of left_by
  run-counts some a d = record {
    passes = let c = few_passes (terms_of p l) p.settings.passes l.labels in let first : r.first ≡ cut (graph_of p) l.labels = ap (λ (x : Report). x.first) d.answered in omega (arith, count);
    limit = within;
    no_vertex = λ n. absurd (some n);
    in_made = rw d.made (long (λ (x : Pass). x.made) l.made a.in_made);
    in_rewound = rw d.rewound (long (λ (x : Pass). x.rewound) l.rewound a.in_rewound);
    made = λ i h. rw (made_at p l r k d i h) (each i h).0;
    rewound = λ i h. rw (made_at p l r k d i h, rewound-at p l r k d i h) (each i h).1;
  }
    where
      rows : List Pass
      rows = (run_of p l).rows

      count : r.passes ≡ length rows
      count = passes_are p l r k d

      within : r.passes ≤ p.settings.passes
      within = let c = passes-within (terms_of p l) p.settings.passes l.labels in omega (arith, count)

      -- a row list is as long as it was, and that is enough
      long : (f : Pass → ℕ) (ys : List ℕ) → p.settings.passes ≤ length ys → r.passes ≤ length (over (map f rows) ys)
      long f ys h =
          let c = count in
          let w = within in
          let m = length-map rows f in
          let o = over-long (map f rows) ys (omega arith) in
          omega arith

      each : (i : ℕ) → i < r.passes → (get_or (mades rows) i 0 ≤ length l.labels) × (get_or (rewounds rows) i 0 ≤ get_or (mades rows) i 0)
      each i h = counted-at (length l.labels) rows (rows-counted (terms_of p l) p.settings.passes l.labels) i (let c = count in omega arith)

  -- Every result with number 0, that of no vertices too, keeps document 01's counts: "Passes are at most starting cut + 1; moves in a pass at most n."
  pub counts-kept : Refined p l r k → r.number ≡ 0 → CountsKept p l r k
  counts-kept f z = go (two_ways p l r k f z)
    where
      go : Done p l r k → CountsKept p l r k
      go (no-vertices n e q) = empty-counts e
      go (ran n a d) = run-counts n a d

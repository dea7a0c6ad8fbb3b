-- A result of the call with number 0 is that of no vertices, or that of the run, whose rows it then leaves. Assumes nothing.
use mathlib.Core.Path.{◌≡◌, refl, sym, ap, ◌∙◌}
use mathlib.Core.Bool.{Bool, true, false}
use mathlib.Core.List.{List, map}
use Prim.Native.Nat.{ℕ, ◌<◌}
use native.Mathlib.Omega.{arith}
use lib.Dec.{eqb}
use lib.ListN.{length, get_or, drop, length-map, get_or-append}
use borrow.Author.Tests.{eqb-true, eqb-false}
use Rattle.lists.specs.Fill.{over}
use Rattle.fiduccia_mattheyses_pass.specs.Pass.{Pass}
use Rattle.fiduccia_mattheyses.specs.declared.Report.{Report}
use Rattle.fiduccia_mattheyses.specs.Entry.{Given, Lent, number, run_of, refused, empty, report_of, left_by, answer, left, Refined}
use Rattle.fiduccia_mattheyses.specs.inner.Steps.{Ready, Ran}
use Rattle.fiduccia_mattheyses.proofs.Running.{mades, rewounds}
use Rattle.fiduccia_mattheyses.proofs.Entering.{ready-to-run}
use Rattle.fiduccia_mattheyses.proofs.Unique.{same-lent}

pub data Done (p : Given) (l : Lent) (r : Report) (k : Lent) : Type 0 where
  no-vertices : length l.labels ≡ 0 → r ≡ empty → k ≡ l → Done p l r k
  ran : (length l.labels ≡ 0 → ⊥) → Ready p l → Ran p l r k → Done p l r k

pub two_ways : (p : Given) (l : Lent) (r : Report) (k : Lent) → Refined p l r k → r.number ≡ 0 → Done p l r k
unfolding answer left
two_ways p l r k f z = go (eqb (length l.labels) 0) refl (eqb (number p l) 0) refl
  where
    go : (b : Bool) → eqb (length l.labels) 0 ≡ b → (c : Bool) → eqb (number p l) 0 ≡ c → Done p l r k
    go true e c q =
        no-vertices (eqb-true (length l.labels) 0 e) (f.answered ∙ rw e refl)
        (same-lent {k = k} {k' = l} (f.labels ∙ rw e refl) (f.gains ∙ rw e refl) (f.moves ∙ rw e refl) (f.made ∙ rw e refl) (f.rewound ∙ rw e refl))
    go false e true q =
        ran (eqb-false (length l.labels) 0 e) (ready-to-run p l (eqb-false (length l.labels) 0 e) (eqb-true (number p l) 0 q))
        (record {
          answered = f.answered ∙ rw (e, q) refl;
          labels = f.labels ∙ rw (e, q) refl;
          gains = f.gains ∙ rw (e, q) refl;
          moves = f.moves ∙ rw (e, q) refl;
          made = f.made ∙ rw (e, q) refl;
          rewound = f.rewound ∙ rw (e, q) refl;
        })
    go false e false q =
        let a : r ≡ refused (number p l) = f.answered ∙ rw (e, q) refl in
        absurd (eqb-false (number p l) 0 q (sym (ap (λ (x : Report). x.number) a) ∙ z))

module _ (p : Given) (l : Lent) (r : Report) (k : Lent) (d : Ran p l r k) where
  abbrev rows : List Pass
  rows = (run_of p l).rows

  pub passes_are : r.passes ≡ length rows
  unfolding report_of
  passes_are = ap (λ (x : Report). x.passes) d.answered

  row_at : (f : Pass → ℕ) (ys : List ℕ) (i : ℕ) → i < r.passes → get_or (over (map f rows) ys) i 0 ≡ get_or (map f rows) i 0
  row_at f ys i h = get_or-append (map f rows) (drop (length (map f rows)) ys) 0 i (let a = length-map rows f in let b = passes_are in omega arith)

  pub made_at : (i : ℕ) → i < r.passes → get_or k.made i 0 ≡ get_or (mades rows) i 0
  unfolding left_by
  made_at i h = ap (λ (x : List ℕ). get_or x i 0) d.made ∙ row_at (λ (x : Pass). x.made) l.made i h

  pub rewound-at : (i : ℕ) → i < r.passes → get_or k.rewound i 0 ≡ get_or (rewounds rows) i 0
  unfolding left_by
  rewound-at i h = ap (λ (x : List ℕ). get_or x i 0) d.rewound ∙ row_at (λ (x : Pass). x.rewound) l.rewound i h

-- How long a run can be: passes at most the starting cut and one, moves in a pass at most n, rewound moves at most those made. Assumes nothing.
use mathlib.Core.Path.{◌≡◌, refl, ap, ◌∙◌}
use mathlib.Core.Bool.{Bool, true, false, ◌&&◌}
use mathlib.Core.List.{List, [], ◌∷◌}
use Prim.Native.Nat.{ℕ, zero, suc, ◌+◌, ◌≤◌, ◌<◌}
use native.Mathlib.Omega.{arith}
use lib.Dec.{ltb, leb}
use lib.ListN.{length, get_or}
use borrow.Author.Tests.{ltb-true, leb-true, le-leb}
use Rattle.lists.proofs.Bools.{and_left, and_right}
use Rattle.topology.specs.Cut.{cut}
use Rattle.fiduccia_mattheyses_choice.specs.Choice.{Terms}
use Rattle.fiduccia_mattheyses_pass.specs.Pass.{Pass, pass}
use Rattle.fiduccia_mattheyses_pass.proofs.Keeps.{keeps-walk}
use Rattle.fiduccia_mattheyses_pass.proofs.MoveLimits.{few-moves}
use Rattle.fiduccia_mattheyses.specs.Run.{Run, run}
use Rattle.fiduccia_mattheyses.specs.Counts.{counted}
use Rattle.fiduccia_mattheyses.proofs.Running.{mades, rewounds, run-last, run_more}
use Rattle.fiduccia_mattheyses.proofs.Single.{pass-long}

pass-counts : (s : Terms) (p : List ℕ) → ((pass s p).made ≤ length p) × ((pass s p).rewound ≤ (pass s p).made)
unfolding pass
pass-counts s p = (few-moves s p, omega arith)

pass-counted : (s : Terms) (p : List ℕ) (n : ℕ) (rows : List Pass) → length p ≡ n → counted n rows ≡ true → counted n (pass s p ∷ rows) ≡ true
unfolding counted
pass-counted s p n rows e h =
    let c = pass-counts s p in
    rw (le-leb (pass s p).made n (omega (arith, c.0)), le-leb (pass s p).rewound (pass s p).made c.1) h

-- "moves in a pass at most n": no pass of a run makes more, or rewinds more than it made.
pub rows-counted : (s : Terms) (k : ℕ) (p : List ℕ) → counted (length p) (run s k p).rows ≡ true
unfolding run counted
rows-counted s zero p = refl
rows-counted s (suc k) p = go (ltb (pass s p).least (cut s.graph p)) refl (rows-counted s k (pass s p).labels)
  where
    go : (b : Bool) → ltb (pass s p).least (cut s.graph p) ≡ b → counted (length (pass s p).labels) (run s k (pass s p).labels).rows ≡ true → counted (length p) (run s (suc k) p).rows ≡ true
    go true e ih = ap (λ (x : Run). counted (length p) x.rows) (run_more s k p e) ∙ pass-counted s p (length p) (run s k (pass s p).labels).rows refl (rw (pass-long s p) at ih)
    go false e ih = ap (λ (x : Run). counted (length p) x.rows) (run-last s k p e) ∙ pass-counted s p (length p) [] refl refl

-- of rows that are counted, each one's moves made and moves rewound
pub counted-at : (n : ℕ) (rows : List Pass) → counted n rows ≡ true → (i : ℕ) → i < length rows → (get_or (mades rows) i 0 ≤ n) × (get_or (rewounds rows) i 0 ≤ get_or (mades rows) i 0)
unfolding counted
counted-at n [] h i l = absurd (omega arith)
counted-at n (r ∷ rows) h zero l =
    let both = and_left (leb r.made n && leb r.rewound r.made) (counted n rows) h in
    (leb-true r.made n (and_left (leb r.made n) (leb r.rewound r.made) both), leb-true r.rewound r.made (and_right (leb r.made n) (leb r.rewound r.made) both))
counted-at n (r ∷ rows) h (suc i) l = counted-at n rows (and_right (leb r.made n && leb r.rewound r.made) (counted n rows) h) i (omega arith)

-- A run has at most as many passes as are allowed.
pub passes-within : (s : Terms) (k : ℕ) (p : List ℕ) → length (run s k p).rows ≤ k
unfolding run
passes-within s zero p = omega arith
passes-within s (suc k) p = go (ltb (pass s p).least (cut s.graph p)) refl (passes-within s k (pass s p).labels)
  where
    go : (b : Bool) → ltb (pass s p).least (cut s.graph p) ≡ b → length (run s k (pass s p).labels).rows ≤ k → length (run s (suc k) p).rows ≤ suc k
    go true e ih = rw (ap (λ (x : Run). length x.rows) (run_more s k p e)) (omega arith)
    go false e ih = rw (ap (λ (x : Run). length x.rows) (run-last s k p e)) (omega arith)

least-cut : (s : Terms) (p : List ℕ) → (pass s p).least ≡ cut s.graph (pass s p).labels
unfolding pass
least-cut s p = (keeps-walk s p s.move_limit).least_is

-- "passes at most starting cut + 1": each pass but the last lowers the cut
pub few_passes : (s : Terms) (k : ℕ) (p : List ℕ) → length (run s k p).rows ≤ cut s.graph p + 1
unfolding run
few_passes s zero p = omega arith
few_passes s (suc k) p = go (ltb (pass s p).least (cut s.graph p)) refl (few_passes s k (pass s p).labels)
  where
    least : (pass s p).least ≡ cut s.graph (pass s p).labels
    least = least-cut s p

    go : (b : Bool) → ltb (pass s p).least (cut s.graph p) ≡ b → length (run s k (pass s p).labels).rows ≤ cut s.graph (pass s p).labels + 1 → length (run s (suc k) p).rows ≤ cut s.graph p + 1
    go true e ih = rw (ap (λ (x : Run). length x.rows) (run_more s k p e)) (let l = ltb-true (pass s p).least (cut s.graph p) e in let q = least in omega arith)
    go false e ih = rw (ap (λ (x : Run). length x.rows) (run-last s k p e)) (omega arith)

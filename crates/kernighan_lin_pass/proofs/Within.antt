-- How far gains can grow: fresh gains add at most a row's weight to each, and telling at most twice that (document 01: the arc weights sum to at most 2,147,483,647). Assumes nothing.
use mathlib.Core.Path.{◌≡◌, refl}
use mathlib.Core.Bool.{Bool, true, false}
use mathlib.Core.List.{List}
use Prim.Native.Nat.{ℕ, ◌+◌, ◌≤◌, ◌<◌}
use native.Mathlib.Omega.{arith}
use lib.ListN.{length, get_or, get_or-eq_default}
use lib.Dec.{ltb, eqb}
use lib.IntN.{ℤ, pos, ◌+ℤ◌}
use lib.Signed.{mag}
use borrow.Author.Tests.{ltb-true, ltb-false}
use Rattle.lists.specs.Fill.{table}
use Rattle.lists.proofs.Tables.{table_at, length-table}
use Rattle.imbalance.specs.Load.{part}
use Rattle.topology.specs.Graph.{Graph, joins}
use Rattle.kernighan_lin_pass.specs.Gain.{fresh, added, updated}
use Rattle.kernighan_lin_pass.specs.inner.Steps.{Fit, Within, fresh_bound, update_bound}
use Rattle.kernighan_lin_pass.proofs.Sizes.{fresh-small, joins-small}
use Rattle.kernighan_lin_pass.proofs.Bits.{mag-add}
use Rattle.kernighan_lin_pass.proofs.Updates.{shift, shift_small}

-- a table is within what each of its places is within
pub table-within : (n m : ℕ) (f : ℕ → ℤ) → ((u : ℕ) → u < n → mag (f u) ≤ m) → Within m (table n f)
table-within n m f h u = go (ltb u n) refl
  where
    go : (b : Bool) → ltb u n ≡ b → mag (get_or (table n f) u (pos 0)) ≤ m
    go true e = rw (table_at n u (pos 0) f (ltb-true u n e)) (h u (ltb-true u n e))
    go false e = let l = ltb-false u n e in let q = length-table n f in rw (get_or-eq_default (table n f) (pos 0) {n = u} (omega arith)) (omega arith)

module _ (g : Graph) (p : List ℕ) (fit : Fit (length p) g) (m : ℕ) (gains : List ℤ) (h : Within m gains) where
  pub added-within : Within (m + fresh_bound) (added g p gains)
  unfolding added
  added-within =
      table-within (length p) (m + fresh_bound) (λ u. get_or gains u (pos 0) +ℤ fresh g p u)
      (λ u l. omega (arith, mag-add (get_or gains u (pos 0)) (fresh g p u), h u, fresh-small (length p) g fit u l p))

  pub updated-within : (v : ℕ) → v < length p → Within (m + update_bound) (updated g p v gains)
  unfolding updated
  updated-within v l =
      table-within (length p) (m + update_bound) (λ u. shift (eqb (part p u) (part p v)) (get_or gains u (pos 0)) (joins g v u))
      (λ u k. shift_small (eqb (part p u) (part p v)) (get_or gains u (pos 0)) (joins g v u) m (h u) (joins-small (length p) g fit v l u))

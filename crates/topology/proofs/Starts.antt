-- Starts in order: what their test asks, that they climb, and that every row stands within the arcs. Assumes nothing.
use mathlib.Core.Path.{◌≡◌, refl}
use mathlib.Core.Bool.{Bool, true, false, ◌&&◌}
use mathlib.Core.List.{List, []}
use Prim.Native.Nat.{ℕ, zero, suc, ◌+◌, ◌≤◌, ◌<◌}
use native.Mathlib.Omega.{arith}
use native.Mathlib.Numerals.{add-one}
use lib.ListN.{length}
use lib.Dec.{eqb}
use borrow.Author.Tests.{eq-eqb, eqb-true, eqb-false, le-leb, leb-true}
use Rattle.lists.specs.All.{all}
use Rattle.lists.proofs.Bools.{and_left, and_right}
use Rattle.lists.proofs.Alls.{all-at, all-every}
use Rattle.topology.specs.Graph.{Graph, in_rows, first, past}
use Rattle.topology.specs.Rule.{starts_ok, falls_not}

-- where no number falls, the last is the largest
pub climbs : (n u : ℕ) (g : Graph) → all n (falls_not g) ≡ true → u ≤ n → first g u ≤ first g n
unfolding all
climbs zero u g h l = let e : u ≡ 0 = omega arith in rw e (omega arith)
climbs (suc n) u g h l =
    let m : first g n ≤ past g n = leb-true (first g n) (past g n) (and_right (all n (falls_not g)) (falls_not g n) h) in
    go (eqb u (suc n)) refl (climbs n u g (and_left (all n (falls_not g)) (falls_not g n) h)) (rw add-one at m)
  where
    go : (b : Bool) → eqb u (suc n) ≡ b → (u ≤ n → first g u ≤ first g n) → first g n ≤ first g (suc n) → first g u ≤ first g (suc n)
    go true e ih m = rw (eqb-true u (suc n) e) (omega arith)
    go false e ih m = let ne = eqb-false u (suc n) e in omega (arith, ih (omega (arith, ne)))

module _ (n : ℕ) (g : Graph) (h : starts_ok n g ≡ true) where
  starts_apart : (first g 0 ≡ 0) × (first g n ≡ length g.neighbours) × (all n (falls_not g) ≡ true)
  unfolding starts_ok
  starts_apart =
      let b = eqb (first g 0) 0 in
      let e = eqb (first g n) (length g.neighbours) in
      let f = all n (falls_not g) in
      let ends = and_left (b && e) f h in
      (eqb-true (first g 0) 0 (and_left b e ends), eqb-true (first g n) (length g.neighbours) (and_right b e ends), and_right (b && e) f h)

  pub start_first : first g 0 ≡ 0
  start_first = starts_apart.0

  pub start-last : first g n ≡ length g.neighbours
  start-last = starts_apart.1

  pub start-rises : (u : ℕ) → u < n → first g u ≤ past g u
  start-rises u l = leb-true (first g u) (past g u) (all-at n u (falls_not g) starts_apart.2 l)

  pub start-inside : (u : ℕ) → u < n → past g u ≤ length g.neighbours
  start-inside u l = omega (arith, start-last, climbs n (u + 1) g starts_apart.2 (omega arith))

-- starts of which all three hold are in order
pub starts-hold : (n : ℕ) (g : Graph) → first g 0 ≡ 0 → first g n ≡ length g.neighbours → ((u : ℕ) → u < n → first g u ≤ past g u) → starts_ok n g ≡ true
unfolding starts_ok
starts-hold n g z e h =
    rw (eq-eqb (first g 0) 0 z, eq-eqb (first g n) (length g.neighbours) e) (all-every n (falls_not g) (λ u l. le-leb (first g u) (past g u) (h u l)))

-- The test of number 4 holds exactly where every arc has its equal opposite. Assumes nothing.
use mathlib.Core.Path.{◌≡◌}
use mathlib.Core.Bool.{Bool, true, ◌&&◌}
use mathlib.Core.Logic.{◌↔◌}
use Prim.Native.Nat.{ℕ, ◌+◌, ◌-◌}
use native.Mathlib.Omega.{arith}
use lib.Dec.{eqb}
use borrow.Author.Tests.{eq-eqb, eqb-true}
use Rattle.lists.specs.All.{any_from}
use Rattle.lists.proofs.Bools.{and_left, and_right}
use Rattle.lists.proofs.Alls.{all-at, all-every, from_at, from-every, any-witness, any-from-holds}
use Rattle.topology.specs.Graph.{Graph, first, past, neighbour, weight}
use Rattle.topology.specs.Rule.{has_arc, row_answered, answered}
use Rattle.topology.specs.Rules.{Arc, Opposites}

has-arc : (g : Graph) (v u w : ℕ) → (has_arc g v u w ≡ true) ↔ Arc g v u w
unfolding has_arc any_from
has-arc g v u w = (there, λ a. any-from-holds (first g v) (past g v) test a.0 a.1.0 a.1.1 (rw (eq-eqb (neighbour g a.0) u a.2, eq-eqb (weight g a.0) w a.3)))
  where
    test : ℕ → Bool
    test e = eqb (neighbour g e) u && eqb (weight g e) w

    there : has_arc g v u w ≡ true → Arc g v u w
    there h =
        let r = any-witness (past g v - first g v) (λ i. test (first g v + i)) h in
        let l = r.1 in
        let e = first g v + r.0 in
        let a = eqb (neighbour g e) u in
        let b = eqb (weight g e) w in
        (e, (omega arith, omega arith), eqb-true (neighbour g e) u (and_left a b r.2), eqb-true (weight g e) w (and_right a b r.2))

pub opposites : (n : ℕ) (g : Graph) → (answered n g ≡ true) ↔ Opposites n g
unfolding answered
opposites n g = (
  (λ h u e l a. (has-arc g (neighbour g e) u (weight g e)).0 (from_at (first g u) (past g u) (has u) e (all-at n u (row_answered g) h l) a.0 a.1)),
  λ k. all-every n (row_answered g) (λ u l. from-every (first g u) (past g u) (has u) (λ e a b. (has-arc g (neighbour g e) u (weight g e)).1 (k u e l (a, b)))),
)
  where
    has : ℕ → ℕ → Bool
    has u e = has_arc g (neighbour g e) u (weight g e)

-- A walk over the arcs of a row: what every turn knows of its arc, and the sum of the arcs that pass a test. Assumes nothing.
use mathlib.Core.Path.{◌≡◌, refl, sym}
use mathlib.Core.Bool.{Bool, true, false}
use mathlib.Core.List.{List}
use Prim.Native.Nat.{ℕ, ◌+◌, ◌-◌, ◌*◌, ◌≤◌, ◌<◌}
use native.Mathlib.Omega.{arith}
use native.Mathlib.Nat.{add-zero}
use lib.ListN.{length, get_or, get_or-eq_default}
use lib.Dec.{ltb}
use borrow.Author.Tests.{ltb-true, ltb-false}
use Rattle.lists.specs.Sum.{between, weigh}
use Rattle.lists.proofs.Sums.{between_none, between_step}
use Rattle.topology.specs.Graph.{Graph, first, past, neighbour, weight, arcs}
use Rattle.topology.specs.Rule.{Rows}
use Rattle.topology.specs.inner.Row.{Row, RowsAlone, word_bound, row_bound}

-- the walk over the arcs from a up to b stands at arc e, which goes to a vertex
pub record Walk (n : ℕ) (neighbours : List ℕ) (a b e : ℕ) : Type 0 where
  pub row : Row n neighbours a b
  pub from : a ≤ e
  pub upto : e ≤ b
  pub goes : get_or neighbours e 0 < n

-- the rows of a graph whose rows are in order
module _ {n : ℕ} {g : Graph} (ok : Rows n g) where
  pub row_of : (u a b : ℕ) → u < n → a ≡ first g u → b ≡ past g u → Row n g.neighbours a b
  row_of u a b l p q = rw (p, q) (record { ordered = ok.rise u l; inside = ok.inside u l; few = ok.small; below = λ e. at e (ltb e (length g.neighbours)) refl })
    where
      at : (e : ℕ) (t : Bool) → ltb e (length g.neighbours) ≡ t → neighbour g e < n
      at e true q = ok.below e (ltb-true e (length g.neighbours) q)
      at e false q = rw (get_or-eq_default g.neighbours 0 (ltb-false e (length g.neighbours) q)) (omega arith)

  pub each_row : RowsAlone n g.starts g.neighbours
  each_row = record { counted = ok.counted; row = λ u l. row_of u (first g u) (past g u) l refl refl }

module _ {n : ℕ} {neighbours : List ℕ} {a b : ℕ} where
  pub enters : Row n neighbours a b → Walk n neighbours a b a
  enters r = record { row = r; from = omega arith; upto = r.ordered; goes = r.below a }

  module _ {e : ℕ} (walk : Walk n neighbours a b e) where
    pub further : e < b → Walk n neighbours a b (e + 1)
    further l = let f = walk.from in record { row = walk.row; from = omega arith; upto = omega arith; goes = walk.row.below (e + 1) }

    pub at-end : b ≤ e → e ≡ b
    at-end l = let k = walk.upto in omega arith

-- what arc e counts: its weight, where the vertex that it goes to passes the test
abbrev pub counts : Graph → (ℕ → Bool) → ℕ → ℕ
counts g test e = weigh (test (neighbour g e)) (weight g e)

-- s is the sum of the arcs from a up to e that pass the test, each of a weight of 32 bits
pub record Summed (g : Graph) (test : ℕ → Bool) (a e s : ℕ) : Type 0 where
  pub sum_is : s ≡ between a e (counts g test)
  pub small : s ≤ word_bound * (e - a)

module _ {g : Graph} {test : ℕ → Bool} where
  pub none-summed : (a : ℕ) → Summed g test a a 0
  none-summed a = record { sum_is = sym (between_none a (counts g test)); small = omega arith }

  module _ {a e s : ℕ} (sums : Summed g test a e s) where
    module _ (from : a ≤ e) where
      -- arc e goes to v and counts x
      pub one-summed : (v x : ℕ) → v ≡ neighbour g e → x ≡ weigh (test v) (weight g e) → x < word_bound → Summed g test a (e + 1) (s + x)
      one-summed v x r q l = let b = sums.small in record { sum_is = between_step a e s x (counts g test) from sums.sum_is (rw r at q); small = omega arith }

      -- arc e goes to v, which does not pass
      pub passed_over : (v : ℕ) → v ≡ neighbour g e → test v ≡ false → Summed g test a (e + 1) s
      passed_over v r q = rw add-zero at (one-summed v 0 r (rw q) (omega arith))

    -- the whole row is summed
    pub all-summed : (u : ℕ) → a ≡ first g u → e ≡ past g u → s ≡ arcs g u test
    unfolding arcs
    all-summed u p q = rw (p, q) at sums.sum_is

    pub summed-small : {n b : ℕ} → Walk n g.neighbours a b e → s ≤ row_bound
    summed-small walk = let i = walk.row.inside in let f = walk.row.few in let k = walk.upto in let b = sums.small in omega arith

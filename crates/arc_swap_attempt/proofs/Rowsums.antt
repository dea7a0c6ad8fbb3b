-- The sixteen sums of a vertex's row, as one walk over the row makes them. Assumes nothing.
use mathlib.Core.Path.{◌≡◌, refl, sym, ◌∙◌}
use mathlib.Core.Bool.{Bool, true, false}
use mathlib.Core.List.{List}
use Prim.Native.Nat.{ℕ, ◌+◌, ◌≤◌, ◌<◌}
use native.Mathlib.Omega.{arith}
use lib.ListN.{length, get_or, set, replicate, length-set, get_or-replicate}
use lib.Seq.{get_or-set_same, get_or-set_other}
use lib.Dec.{eqb}
use borrow.Author.Tests.{eq-eqb, eqb-true, eqb-false}
use Rattle.lists.specs.Fill.{table}
use Rattle.lists.proofs.Tables.{table_of, table-ext}
use Rattle.imbalance.specs.Load.{part}
use Rattle.topology.specs.Graph.{Graph, first, past, neighbour, weight, into}
use Rattle.topology.specs.Rule.{Rows}
use Rattle.topology.specs.inner.Row.{word_bound, row_bound}
use Rattle.topology.proofs.RowWalks.{Walk, Summed, row_of, enters, further, at-end, none-summed, one-summed, passed_over, all-summed, summed-small}

-- u is of part t
abbrev in_part : List ℕ → ℕ → ℕ → Bool
in_part p t u = eqb (part p u) t

-- the arcs from a up to e are passed
pub record Passed (g : Graph) (p : List ℕ) (a b e : ℕ) (at : List ℕ) : Type 0 where
  pub walk : Walk (length p) g.neighbours a b e
  pub sized : length at ≡ 16
  pub sums : (t : ℕ) → t < 16 → Summed g (in_part p t) a e (get_or at t 0)

pub begins : {g : Graph} {p : List ℕ} → Rows (length p) g → (v a b : ℕ) → v < length p → a ≡ first g v → b ≡ past g v → Passed g p a b a (replicate 16 0)
begins ok v a b here q r = record {
  walk = enters (row_of ok v a b here q r);
  sized = refl;
  sums = λ t l. rw (get_or-replicate {A = ℕ} 16 t 0 0 l) (none-summed a);
}

module _ {g : Graph} {p : List ℕ} {a b e : ℕ} {at : List ℕ} (inv : Passed g p a b e at) where
  -- no sum wraps
  pub places : (t : ℕ) → t < 16 → get_or at t 0 ≤ row_bound
  places t l = summed-small (inv.sums t l) inv.walk

  -- arc e goes to u, of part t, and weighs w
  pub turn : e < b → (u t w : ℕ) → u ≡ neighbour g e → t ≡ part p u → t < 16 → w ≡ weight g e → w < word_bound → Passed g p a b (e + 1) (set at t (get_or at t 0 + w))
  turn l u t w u-is t-is below w-is small = record {
    walk = further inv.walk l;
    sized = length-set at t (get_or at t 0 + w) ∙ inv.sized;
    sums = λ x k. go x k (eqb t x) refl;
  }
    where
      go : (x : ℕ) → x < 16 → (s : Bool) → eqb t x ≡ s → Summed g (in_part p x) a (e + 1) (get_or (set at t (get_or at t 0 + w)) x 0)
      go x k true q =
          let z = inv.sized in
          rw (← eqb-true t x q, get_or-set_same at t (get_or at t 0 + w) 0 (omega arith))
          (one-summed (inv.sums t below) inv.walk.from u w u-is (rw (eq-eqb (part p u) t (sym t-is)) w-is) small)
      go x k false q =
          rw (get_or-set_other at t x (get_or at t 0 + w) 0 (λ r. eqb-false t x q (sym r)))
          (passed_over (inv.sums x k) inv.walk.from u u-is (rw (← t-is) q))

  pub ended : (v : ℕ) → a ≡ first g v → b ≡ past g v → b ≤ e → at ≡ table 16 (into g p v)
  unfolding into
  ended v q r l =
      table_of 16 0 at inv.sized
      ∙ table-ext 16 (λ t. get_or at t 0) (into g p v) (λ t k. all-summed (inv.sums t k) v q (at-end inv.walk l ∙ r))

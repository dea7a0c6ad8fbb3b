-- The two sums of a gain, as one walk over the row makes them, and what is read back of their difference. Assumes nothing.
use mathlib.Core.Path.{◌≡◌, ap₂, ◌∙◌}
use mathlib.Core.Bool.{Bool}
use Prim.Native.Nat.{ℕ, ◌^◌, ◌≤◌, ◌<◌}
use native.Mathlib.Omega.{arith}
use lib.IntN.{sub_ℕ, ◌-ℤ◌}
use mir.Syntax.{w64}
use mir.Val.{to_z, of_z}
use mir.ValLaws.{to_z-of_z}
use Rattle.lists.proofs.Differences.{read-minus, read-minus-fits}
use Rattle.topology.specs.Graph.{Graph, first, past, arcs}
use Rattle.topology.specs.Rule.{Rows}
use Rattle.topology.proofs.RowWalks.{Walk, Summed, row_of, enters, at-end, none-summed, all-summed, summed-small}

-- the sums of the arcs from a up to e whose vertices pass the one test and the other
pub record Sums (n : ℕ) (g : Graph) (away home : ℕ → Bool) (a b e there here : ℕ) : Type 0 where
  pub walk : Walk n g.neighbours a b e
  pub there-is : Summed g away a e there
  pub here-is : Summed g home a e here

pub begins : {n : ℕ} {g : Graph} {away home : ℕ → Bool} → Rows n g → (u a b : ℕ) → u < n → a ≡ first g u → b ≡ past g u → Sums n g away home a b a 0 0
begins ok u a b l p q = record { walk = enters (row_of ok u a b l p q); there-is = none-summed a; here-is = none-summed a }

module _ {n : ℕ} {g : Graph} {away home : ℕ → Bool} {a b e there here : ℕ} (sums : Sums n g away home a b e there here) where
  pub within : (there < 2 ^ 63) × (here < 2 ^ 63)
  within =
      let t = summed-small sums.there-is sums.walk in
      let h = summed-small sums.here-is sums.walk in
      (omega arith, omega arith)

  -- what the machine reads back from the bits of the difference
  pub answers :
      (u : ℕ) → a ≡ first g u → b ≡ past g u → b ≤ e
      → to_z w64 (of_z w64 (to_z w64 there -ℤ to_z w64 here)) ≡ sub_ℕ (arcs g u away) (arcs g u home)
  answers u p q l =
      let end : e ≡ past g u = at-end sums.walk l ∙ q in
      to_z-of_z w64 (to_z w64 there -ℤ to_z w64 here) (read-minus-fits there here within.0 within.1)
      ∙ read-minus there here within.0 within.1
      ∙ ap₂ sub_ℕ (all-summed sums.there-is u p end) (all-summed sums.here-is u p end)

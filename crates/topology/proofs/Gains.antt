-- What an arc changes of a gain, on bits; and what a gain of 0 means (document 01, "i64 gains added, negated and doubled in FM and KL updates, with their meaning at zero"). Assumes nothing.
use mathlib.Core.Path.{◌≡◌, refl, sym, ap, ◌∙◌}
use mathlib.Core.Bool.{Bool, true, false}
use mathlib.Core.List.{List}
use Prim.Native.Nat.{ℕ, zero, suc, ◌+◌, ◌*◌, ◌^◌, ◌≤◌, ◌<◌}
use native.Mathlib.Omega.{arith}
use lib.ListN.{length, set}
use lib.Dec.{leb, eqb}
use lib.IntN.{ℤ, pos, neg_ℤ, sub_ℕ, ◌-ℤ◌, ◌*ℤ◌, +ℤ_idl}
use lib.Signed.{mag, le_z}
use borrow.Author.Rules.{sfits_of}
use borrow.Author.Tests.{eq-eqb, ne_eqb, leb-true}
use mir.Syntax.{w64}
use mir.Val.{SFits, to_z, of_z}
use mir.ValLaws.{to_z-of_z}
use Rattle.lists.proofs.Differences.{doubled, at_most}
use Rattle.topology.specs.Graph.{Graph, gain, change}
use Rattle.topology.specs.Rule.{Symmetric}
use Rattle.topology.specs.Cut.{cut}
use Rattle.topology.proofs.Moves.{gain-is-the-fall-of-the-cut}

-- twice a weight, and that negated
module _ (w : ℕ) (h : w < 2 ^ 32) where
  pub twice-fits : SFits w64 (pos 2 *ℤ to_z w64 w)
  twice-fits = rw (doubled w h) (sfits_of (omega arith))

  pub twice-kept : to_z w64 (of_z w64 (pos 2 *ℤ to_z w64 w)) ≡ pos (2 * w)
  twice-kept = to_z-of_z w64 (pos 2 *ℤ to_z w64 w) twice-fits ∙ doubled w h

  pub negated : pos 0 -ℤ to_z w64 (of_z w64 (pos 2 *ℤ to_z w64 w)) ≡ neg_ℤ (pos (2 * w))
  negated = ap (λ (z : ℤ). pos 0 -ℤ z) twice-kept ∙ +ℤ_idl (neg_ℤ (pos (2 * w)))

  mag-neg : (k : ℕ) → mag (neg_ℤ (pos k)) ≤ k
  mag-neg zero = omega arith
  mag-neg (suc k) = omega arith

  pub negated_fits : SFits w64 (pos 0 -ℤ to_z w64 (of_z w64 (pos 2 *ℤ to_z w64 w)))
  negated_fits = rw negated (sfits_of (omega (arith, mag-neg (2 * w))))

  pub twice_same : (label own : ℕ) → label ≡ own → to_z w64 (of_z w64 (pos 2 *ℤ to_z w64 w)) ≡ change (eqb label own) w
  twice_same label own e = rw (eq-eqb label own e) twice-kept

  pub twice-small : (t : Bool) → mag (change t w) ≤ 2 * w
  twice-small true = omega arith
  twice-small false = mag-neg (2 * w)

-- An arc of weight 0 changes no gain, on either side: -0 is 0.
pub no_change : (behind : Bool) → change behind 0 ≡ pos 0
no_change true = refl
no_change false = refl

level : (a b : ℕ) → sub_ℕ a b ≡ pos 0 → a ≡ b
level a b e =
    let under : leb (a + 0) (0 + b) ≡ true = sym (at_most a b 0 0) ∙ ap (λ (z : ℤ). le_z z (pos 0)) e in
    let over : leb (0 + b) (a + 0) ≡ true = sym (at_most 0 0 a b) ∙ ap (λ (z : ℤ). le_z (pos 0) z) e in
    omega (arith, leb-true (a + 0) (0 + b) under, leb-true (0 + b) (a + 0) over)

-- A move of gain 0 moves nothing of the cut.
pub zero-moves-nothing : (g : Graph) (p : List ℕ) (v t : ℕ) → Symmetric (length p) g → v < length p → gain g p v t ≡ pos 0 → cut g (set p v t) ≡ cut g p
zero-moves-nothing g p v t ok l z = sym (level (cut g p) (cut g (set p v t)) (sym (gain-is-the-fall-of-the-cut g p v t ok l) ∙ z))

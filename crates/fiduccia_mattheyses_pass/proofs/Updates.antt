-- Laws of a gain's shift, and of the gains brought up to date. Assumes nothing.
use mathlib.Core.Path.{◌≡◌, refl, sym, ap, ap₂, ◌∙◌}
use mathlib.Core.Bool.{Bool, true, false, cond}
use mathlib.Core.List.{List}
use Prim.Native.Nat.{ℕ, suc, ◌+◌, ◌-◌, ◌*◌, ◌^◌, ◌≤◌, ◌<◌}
use native.Mathlib.Omega.{arith}
use lib.Dec.{ltb, eqb}
use lib.ListN.{length, get_or, set}
use lib.Seq.{get_or-set_same, get_or-set_other, set_out}
use borrow.Author.Tests.{eqb-true, eqb-false, ltb-true, ltb-false}
use borrow.Author.Rules.{sfits_of}
use lib.IntN.{ℤ, pos, ◌+ℤ◌}
use lib.Signed.{mag}
use mir.Facts.{to_z-of_z}
use mir.Val.{to_z, of_z, SFits, hbits}
use mir.Syntax.{w64}
use Rattle.topology.specs.Graph.{change}
use Rattle.fiduccia_mattheyses_choice.specs.inner.Scan.{is_free, free_gain}
use Rattle.fiduccia_mattheyses_pass.specs.inner.Update.{shift, update_at, updated}
use Rattle.std.proofs.Common.{Option, Some, None}
use Rattle.lists.proofs.Differences.{mag_up, mag_down}
use Rattle.topology.proofs.Gains.{twice-small}
use Rattle.fiduccia_mattheyses_choice.specs.inner.Bounds.{past_weights}
use Rattle.fiduccia_mattheyses_pass.specs.inner.Bounds.{most_twice, most_updated}

-- a signed number that went through memory is itself
pub back : (z : ℤ) → mag z < 2 ^ hbits w64 → to_z w64 (of_z w64 z) ≡ z
back z h = to_z-of_z {w = w64} (sfits_of h)

-- what a place in the list of gains answers
free-go : (t : Bool) (z g : ℤ) → cond t (Some z) None ≡ Some g → (t ≡ true) × (g ≡ z)
free-go true z g e = (refl, cc)
free-go false z g e = let o : ◌≡◌ {A = ℕ} 0 1 = cc in absurd (omega arith)

pub free_of : (s : Option ℤ) (z g : ℤ) → s ≡ free_gain z → s ≡ Some g → (is_free z ≡ true) × (g ≡ z)
free_of s z g p q = free-go (is_free z) z g (sym p ∙ q)

locked-go : (t : Bool) (z : ℤ) → cond t (Some z) None ≡ None → t ≡ false
locked-go true z e = let o : ◌≡◌ {A = ℕ} 0 1 = cc in absurd (omega arith)
locked-go false z e = refl

locked-of : (s : Option ℤ) (z : ℤ) → s ≡ free_gain z → s ≡ None → is_free z ≡ false
locked-of s z p q = locked-go (is_free z) z (sym p ∙ q)

-- the gain g and what the arc adds to it, r, summed as they went through memory: the sum is the gain's shift, far from the ends of the range
module _ (g : ℤ) (w : ℕ) (hg : mag g < most_updated) (hw : w < past_weights) (t : Bool) (r : ℤ) (e : r ≡ change t w) where
  shift_is : (u : Bool) → g +ℤ change u w ≡ shift u g w
  unfolding shift
  shift_is true = refl
  shift_is false = refl

  shift_small : (u : Bool) → mag (g +ℤ change u w) ≤ mag g + most_twice
  shift_small true = omega (arith, mag_up g (2 * w))
  shift_small false = omega (arith, mag_down g (2 * w))

  summed : to_z w64 (of_z w64 g) +ℤ to_z w64 (of_z w64 r) ≡ g +ℤ change t w
  summed = ap₂ ◌+ℤ◌ (back g (omega arith)) (ap (λ (z : ℤ). to_z w64 (of_z w64 z)) e ∙ back (change t w) (omega (arith, twice-small w hw t)))

  pub sum_fits : SFits w64 (to_z w64 (of_z w64 g) +ℤ to_z w64 (of_z w64 r))
  sum_fits = rw summed (sfits_of (omega (arith, shift_small t)))

  pub sum-shifts : (to_z w64 (of_z w64 (to_z w64 (of_z w64 g) +ℤ to_z w64 (of_z w64 r))) ≡ shift t g w) × (mag (to_z w64 (of_z w64 (to_z w64 (of_z w64 g) +ℤ to_z w64 (of_z w64 r)))) ≤ mag g + most_twice)
  sum-shifts = rw (to_z-of_z sum_fits, summed) (shift_is t, shift_small t)

-- a number that is stored: nothing grows by more than what was added
pub mag-set : (gs : List ℤ) (x y : ℕ) (h : ℤ) (m : ℕ) → ((k : ℕ) → mag (get_or gs k (pos 0)) ≤ m) → mag h ≤ m → mag (get_or (set gs x h) y (pos 0)) ≤ m
mag-set gs x y h m all here = go (eqb y x) refl
  where
    inside : (b : Bool) → ltb x (length gs) ≡ b → mag (get_or (set gs x h) x (pos 0)) ≤ m
    inside true e = rw (get_or-set_same gs x h (pos 0) (ltb-true x (length gs) e)) here
    inside false e = rw (set_out gs x h (ltb-false x (length gs) e)) (all x)

    go : (b : Bool) → eqb y x ≡ b → mag (get_or (set gs x h) y (pos 0)) ≤ m
    go true e = rw (eqb-true y x e) (inside (ltb x (length gs)) refl)
    go false e = rw (get_or-set_other gs x y h (pos 0) (eqb-false y x e)) (all y)

module _ (neighbours weights labels : List ℕ) (old a e : ℕ) (gs₀ gs : List ℤ) (le : a ≤ e) (so : gs ≡ updated neighbours weights labels old a (e - a) gs₀) where
  updated-more : updated neighbours weights labels old a (e + 1 - a) gs₀ ≡ update_at neighbours weights labels old e gs
  unfolding updated
  updated-more =
      let r : e + 1 - a ≡ suc (e - a) = omega arith in
      let q : a + (e - a) ≡ e = omega arith in
      rw (r, so) (rw q)

  pub turn-passed : (s : Option ℤ) → s ≡ free_gain (get_or gs (get_or neighbours e 0) (pos 0)) → s ≡ None → gs ≡ updated neighbours weights labels old a (e + 1 - a) gs₀
  turn-passed s k f = sym (updated-more ∙ rw (locked-of s (get_or gs (get_or neighbours e 0) (pos 0)) k f))

  pub turn-updated :
      (s : Option ℤ) (g h : ℤ)
      → s ≡ free_gain (get_or gs (get_or neighbours e 0) (pos 0))
      → s ≡ Some g
      → h ≡ shift (eqb (get_or labels (get_or neighbours e 0) 0) old) g (get_or weights e 0)
      → set gs (get_or neighbours e 0) h ≡ updated neighbours weights labels old a (e + 1 - a) gs₀
  turn-updated s g h k f q =
      let w = free_of s (get_or gs (get_or neighbours e 0) (pos 0)) g k f in
      sym (updated-more ∙ rw (w.0, q, w.1))

pub updated_none : (neighbours weights labels : List ℕ) (old a : ℕ) (gs : List ℤ) → gs ≡ updated neighbours weights labels old a (a - a) gs
unfolding updated
updated_none ends weights labels old a gs = let r : a - a ≡ 0 = omega arith in rw r

-- Signed sums as the machine makes them, on bits. Assumes nothing.
use mathlib.Core.Path.{◌≡◌, refl, sym, ap, ap₂, ◌∙◌}
use mathlib.Core.Bool.{true}
use mathlib.Core.List.{List}
use Prim.Native.Nat.{ℕ, suc, ◌+◌, ◌*◌, ◌-◌, ◌^◌, ◌≤◌, ◌<◌}
use native.Mathlib.Omega.{arith}
use lib.ListN.{get_or}
use lib.IntN.{ℤ, pos, negsuc, ◌+ℤ◌, ◌-ℤ◌}
use lib.Signed.{mag, le_z}
use borrow.Author.Rules.{sfits_of}
use borrow.Author.Tests.{leb-true}
use mir.Syntax.{w64}
use mir.Val.{SFits, to_z, of_z}
use mir.ValLaws.{to_z-of_z}
use Rattle.lists.proofs.Differences.{by_sign, same, pos-is, minus, read}
use Rattle.kernighan_lin_pass.specs.inner.Steps.{Within}

pub mag-add : (x y : ℤ) → mag (x +ℤ y) ≤ mag x + mag y + 1
mag-add (pos a) (pos b) = omega arith
mag-add (pos a) (negsuc b) = by_sign (λ (z : ℤ). mag z ≤ a + b + 1) a (suc b) (λ h. omega arith) (λ h. omega arith)
mag-add (negsuc a) (pos b) = by_sign (λ (z : ℤ). mag z ≤ a + b + 1) b (suc a) (λ h. omega arith) (λ h. omega arith)
mag-add (negsuc a) (negsuc b) = omega arith

-- x + y, where both are far from the ends of the range
module _ (x y : ℤ) (hx : mag x < 2 ^ 62) (hy : mag y < 2 ^ 62 - 1) where
  pub sum-read : to_z w64 (of_z w64 x) +ℤ to_z w64 (of_z w64 y) ≡ x +ℤ y
  sum-read = ap₂ ◌+ℤ◌ (to_z-of_z w64 x (sfits_of (omega arith))) (to_z-of_z w64 y (sfits_of (omega arith)))

  pub sum_fits : SFits w64 (to_z w64 (of_z w64 x) +ℤ to_z w64 (of_z w64 y))
  sum_fits = rw sum-read (sfits_of (omega (arith, mag-add x y)))

  pub sum_kept : to_z w64 (of_z w64 (to_z w64 (of_z w64 x) +ℤ to_z w64 (of_z w64 y))) ≡ x +ℤ y
  sum_kept = to_z-of_z w64 (to_z w64 (of_z w64 x) +ℤ to_z w64 (of_z w64 y)) sum_fits ∙ sum-read

-- a number of a list whose numbers are all far from the ends of the range
pub place_read : (xs ys : List ℤ) (i m : ℕ) → xs ≡ ys → Within m ys → m < 2 ^ 62 → to_z w64 (of_z w64 (get_or xs i (pos 0))) ≡ get_or ys i (pos 0)
place_read xs ys i m e h l = ap (λ (z : List ℤ). to_z w64 (of_z w64 (get_or z i (pos 0)))) e ∙ to_z-of_z w64 (get_or ys i (pos 0)) (sfits_of (omega (arith, h i)))

-- b - g, where g is at most b
module _ (b m : ℕ) (g : ℤ) (hm : m < 2 ^ 60) (hb : b ≤ m) (hg : mag g ≤ m) (below : le_z g (pos b) ≡ true) where
  -- it is a natural number
  rest : (d : ℕ) × (pos b -ℤ g ≡ pos d) × (d ≤ 2 * m + 1)
  rest = go g hg below
    where
      go : (z : ℤ) → mag z ≤ m → le_z z (pos b) ≡ true → (d : ℕ) × (pos b -ℤ z ≡ pos d) × (d ≤ 2 * m + 1)
      go (pos a) h t = let l = leb-true a b t in (b - a, minus b a ∙ same b a (b - a) 0 (omega arith) ∙ sym (pos-is (b - a)), omega arith)
      go (negsuc a) h t = (b + suc a, refl, omega arith)

  rest_read : to_z w64 b -ℤ to_z w64 (of_z w64 g) ≡ pos rest.0
  rest_read = ap₂ ◌-ℤ◌ (read b (omega arith)) (to_z-of_z w64 g (sfits_of (omega arith))) ∙ rest.1

  pub rest-fits : SFits w64 (to_z w64 b -ℤ to_z w64 (of_z w64 g))
  rest-fits = let l = rest.2 in rw rest_read (sfits_of (omega arith))

  rest-kept : to_z w64 (of_z w64 (to_z w64 b -ℤ to_z w64 (of_z w64 g))) ≡ pos rest.0
  rest-kept = to_z-of_z w64 (to_z w64 b -ℤ to_z w64 (of_z w64 g)) rest-fits ∙ rest_read

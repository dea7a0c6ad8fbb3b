-- Taking the vertex of the largest gain on a side, one vertex after another. Assumes nothing.
use mathlib.Core.Path.{◌≡◌, refl, ap₂, ◌∙◌}
use mathlib.Core.Bool.{Bool, true, false, ◌&&◌}
use mathlib.Core.List.{List}
use mathlib.Core.Option.{Option, none, some}
use Prim.Native.Nat.{ℕ, ◌+◌, ◌-◌, ◌*◌, ◌^◌, ◌≤◌, ◌<◌}
use native.Mathlib.Omega.{arith}
use native.Mathlib.Numerals.{add-one}
use lib.ListN.{length, get_or}
use lib.Dec.{eqb}
use lib.IntN.{ℤ, pos, negsuc}
use lib.Signed.{mag, le_z}
use borrow.Author.Tests.{eq-eqb, le-leb}
use mir.Syntax.{w64}
use mir.Val.{SFits, to_z, of_z}
use mir.ValLaws.{to_z-of_z}
use Rattle.lists.specs.Best.{best, offer}
use Rattle.lists.proofs.Bools.{and_left, and_right}
use Rattle.lists.proofs.Orders.{clash}
use Rattle.imbalance.specs.Load.{part}
use Rattle.kernighan_lin_pass.specs.Gain.{on_side, largest}
use Rattle.kernighan_lin_pass.specs.inner.Steps.{Within, most_gain, found}
use Rattle.std.specs.Prelude.{Option as Found, Some, None}

-- the test of one vertex: locked, on the other side, or left to its gain
module _ (label first : ℕ) (side : Bool) (lock : ℕ) (most gain : ℤ) where
  pub by-gain : lock ≡ 0 → on_side side first label ≡ true → SFits w64 most → SFits w64 gain → le_z (to_z w64 (of_z w64 most)) (to_z w64 (of_z w64 gain)) ≡ (eqb lock 0 && on_side side first label) && le_z most gain
  by-gain h o f k = rw (eq-eqb lock 0 h, o) (ap₂ le_z (to_z-of_z w64 most f) (to_z-of_z w64 gain k))

-- -2^62 is below every gain
abbrev pub lowest : ℤ
lowest = negsuc (2 ^ 62 - 1)

above-lowest : (z : ℤ) → mag z ≤ 2 * most_gain → le_z lowest z ≡ true
above-lowest (pos a) h = refl
above-lowest (negsuc a) h = le-leb a (2 ^ 62 - 1) (omega arith)

-- the gain of the vertex taken so far
abbrev pub worth_of : List ℤ → Option ℕ → ℤ
worth_of gains none = lowest
worth_of gains (some v) = get_or gains v (pos 0)

module _ (first : ℕ) (side : Bool) (p : List ℕ) (gains : List ℤ) (locks : List ℕ) where
  abbrev free : ℕ → Bool
  free v = eqb (get_or locks v 0) 0 && on_side side first (part p v)

  -- of the vertices below v
  abbrev pub sofar : ℕ → Option ℕ
  sofar v = best free (λ i u. le_z (get_or gains u (pos 0)) (get_or gains i (pos 0))) v

  -- what is held of them: the place, and the gain
  pub record SoFar (v : ℕ) (at : Found ℕ) (most : ℤ) : Type 0 where
    pub upto : v ≤ length p
    pub at-is : at ≡ found (sofar v)
    pub most-is : most ≡ worth_of gains (sofar v)

  pub so-far-none : SoFar 0 None lowest
  unfolding best
  so-far-none = record { upto = omega arith; at-is = refl; most-is = refl }

  module _ (small : Within (2 * most_gain) gains) (v : ℕ) (at : Found ℕ) (most : ℤ) (h : SoFar v at most) (l : v < length p) where
    abbrev offered : Option ℕ → Option ℕ
    offered o = offer (free v) (λ i u. le_z (get_or gains u (pos 0)) (get_or gains i (pos 0))) v o

    more : sofar (v + 1) ≡ offered (sofar v)
    unfolding best
    more = rw add-one

    takes-v : (o : Option ℕ) → free v && le_z (worth_of gains o) (get_or gains v (pos 0)) ≡ true → offered o ≡ some v
    takes-v none e = rw (and_left (free v) (le_z lowest (get_or gains v (pos 0))) e)
    takes-v (some u) e = rw (and_left (free v) (le_z (get_or gains u (pos 0)) (get_or gains v (pos 0))) e) (rw (and_right (free v) (le_z (get_or gains u (pos 0)) (get_or gains v (pos 0))) e))

    leaves-v : (o : Option ℕ) → free v && le_z (worth_of gains o) (get_or gains v (pos 0)) ≡ false → offered o ≡ o
    leaves-v none e = go (free v) e
      where
        go : (t : Bool) → t && le_z lowest (get_or gains v (pos 0)) ≡ false → offer t (λ i u. le_z (get_or gains u (pos 0)) (get_or gains i (pos 0))) v none ≡ none
        go true q = clash (le_z lowest (get_or gains v (pos 0))) (above-lowest (get_or gains v (pos 0)) (small v)) q
        go false q = refl
    leaves-v (some u) e = go (free v) e
      where
        go : (t : Bool) → t && le_z (get_or gains u (pos 0)) (get_or gains v (pos 0)) ≡ false → offer t (λ i j. le_z (get_or gains j (pos 0)) (get_or gains i (pos 0))) v (some u) ≡ some u
        go true q = rw q
        go false q = refl

    pub step-taken : free v && le_z most (get_or gains v (pos 0)) ≡ true → SoFar (v + 1) (Some v) (get_or gains v (pos 0))
    step-taken e =
        let o = more ∙ takes-v (sofar v) (rw h.most-is at e) in
        record { upto = omega arith; at-is = rw o refl; most-is = rw o refl }

    pub step_left : free v && le_z most (get_or gains v (pos 0)) ≡ false → SoFar (v + 1) at most
    step_left e =
        let o = more ∙ leaves-v (sofar v) (rw h.most-is at e) in
        record { upto = omega arith; at-is = rw o h.at-is; most-is = rw o h.most-is }

  pub so-far-all : (v : ℕ) (at : Found ℕ) (most : ℤ) → SoFar v at most → length p ≤ v → at ≡ found (largest (λ u. true) first side p gains locks)
  unfolding largest
  so-far-all v at most h l =
      let u = h.upto in
      let e : v ≡ length p = omega arith in
      rw e at h.at-is

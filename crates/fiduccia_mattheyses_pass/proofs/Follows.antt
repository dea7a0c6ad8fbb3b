-- The gains brought up to date, vertex by vertex. Assumes nothing.
use mathlib.Core.Path.{◌≡◌, refl, sym, ap, ◌∙◌}
use mathlib.Core.Logic.{◌≢◌}
use mathlib.Core.Bool.{Bool, true, false, cond}
use mathlib.Core.List.{List}
use Prim.Native.Nat.{ℕ, zero, suc, ◌+◌, ◌-◌, ◌*◌, ◌≤◌, ◌<◌}
use native.Mathlib.Omega.{arith}
use native.Mathlib.Nat.{add-zero}
use lib.Dec.{eqb}
use lib.ListN.{length, get_or, set, length-set}
use lib.Seq.{get_or-set_same, get_or-set_other}
use lib.IntN.{ℤ, pos, negsuc, neg_ℤ, ◌+ℤ◌, ◌-ℤ◌, +ℤ_assoc, +ℤ_idr, neg_ℤ-+ℤ}
use lib.Signed.{mag}
use borrow.Author.Tests.{eqb-true, eqb-false, lt-ltb}
use Rattle.lists.specs.Sum.{sum, weigh}
use Rattle.fiduccia_mattheyses_choice.specs.inner.Scan.{is_free}
use Rattle.fiduccia_mattheyses_pass.specs.inner.Update.{shift, updated}
use Rattle.lists.proofs.Differences.{mag_up, mag_down}
use Rattle.fiduccia_mattheyses_choice.specs.inner.Bounds.{lock_size}
use Rattle.fiduccia_mattheyses_pass.specs.inner.Bounds.{most_gain}

-- a small gain is no lock
pub free-small : (z : ℤ) → mag z < lock_size - 1 → is_free z ≡ true
free-small (pos a) h = refl
free-small (negsuc a) h = lt-ltb a (lock_size - 1) h

-- two shifts are one
pub shift_none : (t : Bool) (z : ℤ) → shift t z 0 ≡ z
unfolding shift
shift_none true z = +ℤ_idr z
shift_none false z = +ℤ_idr z

pub shift-twice : (t : Bool) (z : ℤ) (m w : ℕ) → shift t (shift t z m) w ≡ shift t z (m + w)
unfolding shift
shift-twice true z m w =
    let r : 2 * m + 2 * w ≡ 2 * (m + w) = omega arith in
    +ℤ_assoc z (pos (2 * m)) (pos (2 * w)) ∙ ap (λ (k : ℕ). z +ℤ pos k) r
shift-twice false z m w =
    let r : 2 * m + 2 * w ≡ 2 * (m + w) = omega arith in
    +ℤ_assoc z (neg_ℤ (pos (2 * m))) (neg_ℤ (pos (2 * w))) ∙ ap (λ (y : ℤ). z +ℤ y) (sym (neg_ℤ-+ℤ (pos (2 * m)) (pos (2 * w)))) ∙ ap (λ (k : ℕ). z -ℤ pos k) r

pub shift_small : (t : Bool) (z : ℤ) (m : ℕ) → mag (shift t z m) ≤ mag z + 2 * m
unfolding shift
shift_small true z m = mag_up z (2 * m)
shift_small false z m = mag_down z (2 * m)

-- a gain that stays free under shifts, or a lock
abbrev pub moved_on : Bool → Bool → ℤ → ℕ → ℤ
moved_on free t z m = cond free (shift t z m) z

module _ (neighbours weights labels : List ℕ) (old a : ℕ) (gs : List ℤ) where
  -- the weight of the first k arcs that go to x
  abbrev pub total : ℕ → ℕ → ℕ
  total k x = sum k (λ i. weigh (eqb (get_or neighbours (a + i) 0) x) (get_or weights (a + i) 0))

  abbrev pub behind : ℕ → Bool
  behind x = eqb (get_or labels x 0) old

  pub length-updated : (k : ℕ) → length (updated neighbours weights labels old a k gs) ≡ length gs
  unfolding updated
  length-updated zero = refl
  length-updated (suc k) = go (updated neighbours weights labels old a k gs) (is_free (get_or (updated neighbours weights labels old a k gs) (get_or neighbours (a + k) 0) (pos 0))) (length-updated k)
    where
      go : (l : List ℤ) (t : Bool) → length l ≡ length gs → length (cond t (set l (get_or neighbours (a + k) 0) (shift (eqb (get_or labels (get_or neighbours (a + k) 0) 0) old) (get_or l (get_or neighbours (a + k) 0) (pos 0)) (get_or weights (a + k) 0))) l) ≡ length gs
      go l true h = simp length-set h
      go l false h = h

  module _ (x : ℕ) (lx : x < length gs) (small : is_free (get_or gs x (pos 0)) ≡ true → mag (get_or gs x (pos 0)) ≤ most_gain) where
    abbrev pub z : ℤ
    z = get_or gs x (pos 0)

    none_yet : (f t : Bool) → z ≡ moved_on f t z 0
    none_yet true t = sym (shift_none t z)
    none_yet false t = refl

    -- one arc more, to y
    module _ (l : List ℤ) (y w m : ℕ) (ll : x < length l) where
      abbrev l' : Bool → List ℤ
      l' t = cond t (set l y (shift (behind y) (get_or l y (pos 0)) w)) l

      elsewhere : (x ≢ y) → (t : Bool) → get_or (l' t) x (pos 0) ≡ get_or l x (pos 0)
      elsewhere ne true = get_or-set_other l y x (shift (behind y) (get_or l y (pos 0)) w) (pos 0) ne
      elsewhere ne false = refl

      here : (f : Bool) → is_free z ≡ f → y ≡ x → get_or l x (pos 0) ≡ moved_on f (behind x) z m → m + w ≤ most_gain → get_or (l' (is_free (get_or l y (pos 0)))) x (pos 0) ≡ moved_on f (behind x) z (m + w)
      here true e q ih h =
          let s1 = shift_small (behind x) z m in
          let s2 = small e in
          let fr : is_free (get_or l x (pos 0)) ≡ true = rw ih (free-small (shift (behind x) z m) (omega arith)) in
          rw (q, fr) (get_or-set_same l x (shift (behind x) (get_or l x (pos 0)) w) (pos 0) ll ∙ rw ih (shift-twice (behind x) z m w))
      here false e q ih h = rw (q, ih, e) ih

      step : (t : Bool) → eqb y x ≡ t → get_or l x (pos 0) ≡ moved_on (is_free z) (behind x) z m → m + weigh t w ≤ most_gain → get_or (l' (is_free (get_or l y (pos 0)))) x (pos 0) ≡ moved_on (is_free z) (behind x) z (m + weigh t w)
      step true e ih h = here (is_free z) refl (eqb-true y x e) ih h
      step false e ih h = rw add-zero (elsewhere (λ q. eqb-false y x e (sym q)) (is_free (get_or l y (pos 0))) ∙ ih)

    pub updated-at : (k : ℕ) → total k x ≤ most_gain → get_or (updated neighbours weights labels old a k gs) x (pos 0) ≡ moved_on (is_free z) (behind x) z (total k x)
    unfolding updated sum
    updated-at zero h = none_yet (is_free z) (behind x)
    updated-at (suc k) h =
        step (updated neighbours weights labels old a k gs) (get_or neighbours (a + k) 0) (get_or weights (a + k) 0) (total k x) (rw length-updated lx) (eqb (get_or neighbours (a + k) 0) x) refl (updated-at k (omega arith)) h

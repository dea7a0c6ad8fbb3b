-- The scan, look by look: what is held is a vertex that may move and that none of those so far goes before. Assumes nothing.
use mathlib.Core.Path.{◌≡◌, refl, sym, ap, ◌∙◌}
use mathlib.Core.Bool.{Bool, true, false, cond, ◌&&◌}
use Prim.Native.Nat.{ℕ, zero, suc, ◌+◌, ◌*◌, ◌≤◌, ◌<◌}
use native.Mathlib.Omega.{arith}
use lib.ListN.{length, get_or}
use lib.Dec.{eqb}
use lib.IntN.{ℤ}
use lib.Signed.{lt_z, le_z}
use borrow.Author.Tests.{lt-ltb, le-ltb, eqb-true, eqb-false}
use Rattle.lists.proofs.Bools.{and-false, and_left, and_right}
use Rattle.lists.proofs.Orders.{clash, le_not}
use Rattle.imbalance.specs.Load.{part}
use Rattle.fiduccia_mattheyses_choice.specs.inner.Scan.{is_free, beats}
use Rattle.fiduccia_mattheyses_choice.specs.inner.Look.{Sight, gain_of, load_of, fits_of, may_of, looked, looks, Holds, Swept}
use Rattle.fiduccia_mattheyses_choice.specs.declared.Held.{Held}
use Rattle.fiduccia_mattheyses_choice.proofs.Beats.{free-beats, lower-not, level-not, beats-on, beats-not, beats-self}

module _ (sight : Sight) where
  abbrev G : ℕ → ℤ
  G = gain_of sight

  abbrev L : ℕ → ℕ
  L = load_of sight

  abbrev F : ℕ → Bool
  F = fits_of sight

  abbrev M : ℕ → Bool
  M = may_of sight

  abbrev look : Held → ℕ → Held
  look = looked sight

  -- what a vertex is held as
  abbrev taken : ℕ → Held
  taken v = record { past = v + 1; gain = G v; load = L v }

  -- the look's ways, as the code reads its gain z, its weight w and its label p: a lower gain; no higher gain and a weight not below the load held; no room; not before what is held; before it
  module _ (held : Held) (v : ℕ) where
    stays : F v && beats (G v) (L v) held.gain held.load ≡ false → held ≡ look held v
    stays e = rw e

    not-before : beats (G v) (L v) held.gain held.load ≡ false → held ≡ look held v
    not-before e = stays (rw e (and-false (F v)))

    pub look-lower : (z h : ℤ) (r : Bool) → z ≡ G v → h ≡ held.gain → r ≡ lt_z z h → r ≡ true → held ≡ look held v
    look-lower z h r a b e t = not-before (lower-not (G v) (L v) held.gain held.load (rw (← a, ← b) (sym e ∙ t)))

    pub look-level : (z h : ℤ) (w : ℕ) → z ≡ G v → h ≡ held.gain → w ≡ get_or sight.weights v 0 → le_z z h ≡ true → held.load ≤ w → held ≡ look held v
    look-level z h w a k b e m = not-before (level-not (G v) (L v) held.gain held.load (le_not (G v) held.gain (rw (← a, ← k) e)) (le-ltb (L v) held.load (omega arith)))

    pub look-heavy : (w p : ℕ) → w ≡ get_or sight.weights v 0 → p ≡ part sight.labels v → get_or sight.rooms p 0 ≤ w → held ≡ look held v
    look-heavy w p b c h = stays (rw (le-ltb (get_or sight.weights v 0) (get_or sight.rooms (part sight.labels v) 0) (rw (← b, ← c) h)))

    pub look-not : (z h : ℤ) (l : ℕ) (r : Bool) → z ≡ G v → h ≡ held.gain → l ≡ L v → r ≡ beats z l h held.load → r ≡ false → held ≡ look held v
    look-not z h l r a k b e t = not-before (rw (← a, ← k, ← b) (sym e ∙ t))

    pub look-takes :
        (z h : ℤ) (w p l : ℕ) (r : Bool)
        → z ≡ G v
        → h ≡ held.gain
        → w ≡ get_or sight.weights v 0
        → p ≡ part sight.labels v
        → l ≡ L v
        → w < get_or sight.rooms p 0
        → r ≡ beats z l h held.load
        → r ≡ true
        → ◌≡◌ {A = Held} (record { past = v + 1; gain = z; load = l }) (look held v)
    look-takes z h w p l r a k b c d m e t =
        rw (a, d)
        (rw (lt-ltb (get_or sight.weights v 0) (get_or sight.rooms (part sight.labels v) 0) (rw (← b, ← c) m), rw (a, k, d) at (sym e ∙ t)))

  module _ (start held : Held) (v : ℕ) (here : v < length sight.labels) where
    abbrev wins : Bool
    wins = F v && beats (G v) (L v) held.gain held.load

    beats-v : wins ≡ true → beats (G v) (L v) held.gain held.load ≡ true
    beats-v e = and_right (F v) (beats (G v) (L v) held.gain held.load) e

    module _ (h : Holds sight start held) where
      free-v : wins ≡ true → is_free (G v) ≡ true
      free-v e = free-beats (G v) (L v) held.gain held.load h.free (beats-v e)

      held_by : (t : Bool) → wins ≡ t → Holds sight start (cond t (taken v) held)
      held_by true e =
          record {
            found = true;
            vertex = v;
            past_is = λ q. refl;
            here = λ q. here;
            may_is = λ q. rw (free-v e, and_left (F v) (beats (G v) (L v) held.gain held.load) e);
            gain_is = λ q. refl;
            load_is = λ q. refl;
            gain_was = λ q. clash true refl q;
            load_was = λ q. clash true refl q;
            free = free-v e;
          }
      held_by false e = h

      -- a look keeps what is held a vertex that may move, or the start
      pub hold-look : (r : Held) → r ≡ look held v → Holds sight start r
      hold-look r e = rw e (held_by wins refl)

    module _ (s : Swept sight start v held) where
      -- where v is held, it goes before all that were looked at
      goes_before : wins ≡ true → (u : ℕ) → u < v → M u ≡ true → beats (G v) (L v) (G u) (L u) ≡ true
      goes_before e u l m = beats-on (G v) (L v) held.gain held.load (G u) (L u) (beats-v e) (s.beaten u l m)

      -- where it is not, it does not go before what is held
      not-goes_before : (t : Bool) → F v ≡ t → M v ≡ true → (b : Bool) → t && b ≡ false → b ≡ false
      not-goes_before true f m true q = clash true refl q
      not-goes_before true f m false q = refl
      not-goes_before false f m b q = clash (F v) (and_right (is_free (G v)) (F v) m) f

      by-look : (t : Bool) → wins ≡ t → Swept sight start (v + 1) (cond t (taken v) held)
      unfolding held_by
      by-look true e =
          record {
            holds = held_by s.holds true e;
            beaten = λ u l m. go u l m (eqb u v) refl;
            ahead = λ q u l m. goes_before e u l m;
          }
        where
          go : (u : ℕ) → u < v + 1 → M u ≡ true → (t : Bool) → eqb u v ≡ t → beats (G u) (L u) (G v) (L v) ≡ false
          go u l m true q = rw (eqb-true u v q) (beats-self (G v) (L v))
          go u l m false q = let ne = eqb-false u v q in beats-not (G v) (L v) (G u) (L u) (goes_before e u (omega (arith, ne)) m)
      by-look false e =
          record {
            holds = s.holds;
            beaten = λ u l m. go u l m (eqb u v) refl;
            ahead = s.ahead;
          }
        where
          go : (u : ℕ) → u < v + 1 → M u ≡ true → (t : Bool) → eqb u v ≡ t → beats (G u) (L u) held.gain held.load ≡ false
          go u l m true q =
              let r = eqb-true u v q in
              rw r (not-goes_before (F v) refl (rw r at m) (beats (G v) (L v) held.gain held.load) e)
          go u l m false q = let ne = eqb-false u v q in s.beaten u (omega (arith, ne)) m

      pub sweep-look : (r : Held) → r ≡ look held v → Swept sight start (v + 1) r
      sweep-look r e = rw e (by-look wins refl)

  -- no look, and one look more
  pub looks-none : (held : Held) (from : ℕ) → held ≡ looks sight held from 0
  unfolding looks
  looks-none held from = refl

  looks-suc : (held : Held) (from k : ℕ) → looks sight held from (suc k) ≡ look (looks sight held from k) (from + k)
  unfolding looks
  looks-suc held from k = refl

  pub looks_on : (held h r : Held) (from k : ℕ) → h ≡ looks sight held from k → r ≡ look h (from + k) → r ≡ looks sight held from (suc k)
  looks_on held h r from k e f = f ∙ ap (λ (x : Held). look x (from + k)) e ∙ sym (looks-suc held from k)

  -- several looks, one after the other
  swept_at : (start held r : Held) (v w : ℕ) → v ≡ w → held ≡ r → Swept sight start v held → Swept sight start w r
  swept_at start held r v w e f s = rw (← e, ← f) s

  sweep-looks : (start held : Held) (from k : ℕ) → from + k ≤ length sight.labels → Swept sight start from held → Swept sight start (from + k) (looks sight held from k)
  sweep-looks start held from zero l s = swept_at start held (looks sight held from 0) from (from + 0) (omega arith) (looks-none held from) s
  sweep-looks start held from (suc k) l s =
      swept_at start (looks sight held from (suc k)) (looks sight held from (suc k)) (from + k + 1) (from + suc k) (omega arith) refl
      (sweep-look start (looks sight held from k) (from + k) (omega arith) (sweep-looks start held from k (omega arith) s) (looks sight held from (suc k)) (looks-suc held from k))

  -- before the first look
  pub hold-none : (start : Held) → is_free start.gain ≡ true → Holds sight start start
  hold-none start st =
      record {
        found = false;
        vertex = 0;
        past_is = λ q. clash false q refl;
        here = λ q. clash false q refl;
        may_is = λ q. clash false q refl;
        gain_is = λ q. clash false q refl;
        load_is = λ q. clash false q refl;
        gain_was = λ q. refl;
        load_was = λ q. refl;
        free = st;
      }

  pub sweep-none : (start : Held) → is_free start.gain ≡ true → Swept sight start 0 start
  unfolding hold-none
  sweep-none start st = record { holds = hold-none start st; beaten = λ u l. absurd (omega arith); ahead = λ q. clash false q refl }

  -- the looks at the block's twenty vertices
  pub sweep-twenty : (start held : Held) (block : ℕ) (r : Held) → block * 20 + 20 ≤ length sight.labels → r ≡ looks sight held (block * 20) 20 → Swept sight start (block * 20) held → Swept sight start ((block + 1) * 20) r
  sweep-twenty start held block r l e s =
      let q : (block + 1) * 20 ≡ block * 20 + 20 = omega arith in
      rw (q, e) (sweep-looks start held (block * 20) 20 l s)

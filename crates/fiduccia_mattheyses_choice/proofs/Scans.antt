-- The scan's answer: with a sample to begin from, what is held once all vertices have been looked at is the pick; and what is done with it. Assumes nothing.
use mathlib.Core.Path.{◌≡◌, refl, sym, ap, ◌∙◌}
use mathlib.Core.Bool.{Bool, true, false, cond, ◌&&◌, ◌||◌}
use mathlib.Core.List.{List}
use mathlib.Core.Option.{some}
use Prim.Native.Nat.{ℕ, zero, suc, ◌+◌, ◌-◌, ◌≤◌, ◌<◌}
use native.Mathlib.Omega.{arith}
use lib.ListN.{length, get_or}
use lib.Dec.{ltb, leb}
use borrow.Author.Tests.{lt-ltb, le-ltb, le-leb, leb-true, leb-false, ltb-true, ltb-false}
use lib.IntN.{ℤ, pos, negsuc}
use lib.Signed.{lt_z, le_z}
use Rattle.lists.specs.Best.{best}
use Rattle.lists.proofs.Bests.{best-is, best_none}
use Rattle.lists.proofs.Bools.{and_left}
use Rattle.lists.proofs.Orders.{clash, lt-self, not-lt-le}
use Rattle.imbalance.specs.Load.{part}
use Rattle.imbalance.specs.Limit.{most_weight}
use Rattle.fiduccia_mattheyses_choice.specs.inner.Bounds.{past_weights, lock_size, far}
use Rattle.fiduccia_mattheyses_choice.specs.Choice.{other}
use Rattle.fiduccia_mattheyses_choice.specs.inner.Scan.{Scannable, is_free, beats, picked, load_after, ceiling_at, pick_below}
use Rattle.fiduccia_mattheyses_choice.specs.inner.Look.{lowest, lesser, room_of, rooms_of, lifts_of, nobody, Sight, sight_of, Sighted, gain_of, load_of, fits_of, may_of, Holds, Swept}
use Rattle.fiduccia_mattheyses_choice.specs.declared.Held.{Held}
use Rattle.fiduccia_mattheyses_choice.specs.declared.Pick.{Pick}
use Rattle.std.proofs.Common.{Option, Some, None}
use Rattle.fiduccia_mattheyses_choice.proofs.Beats.{by-load}

-- a free vertex's gain is not below the lowest
free-low : (g : ℤ) → is_free g ≡ true → le_z lowest g ≡ true
free-low (pos g) p = refl
free-low (negsuc g) p = let x = ltb-true g (lock_size - 1) p in le-leb g (lock_size - 2) (omega arith)

-- the sample's gain, and one above its load
abbrev pub start_of : Held → Held
start_of found = record { past = 0; gain = found.gain; load = found.load + 1 }

-- what the sample found and the sweep left, by loads and ceilings: the code's rooms and lifts are theirs
pub seen :
    (gains : List ℤ) (labels weights rooms lifts loads ceilings : List ℕ) (found held : Held) (g : ℤ) (l v : ℕ)
    → rooms ≡ rooms_of loads ceilings
    → lifts ≡ lifts_of loads
    → Holds (sight_of gains labels weights rooms lifts) nobody found
    → Swept (sight_of gains labels weights rooms lifts) (record { past = 0; gain = g; load = l }) v held
    → g ≡ found.gain
    → l ≡ found.load + 1
    → Holds (sight_of gains labels weights (rooms_of loads ceilings) (lifts_of loads)) nobody found
    × Swept (sight_of gains labels weights (rooms_of loads ceilings) (lifts_of loads)) (start_of found) v held
seen gains labels weights rooms lifts loads ceilings found held g l v a b h s e f = (rw (a, b) at h, rw (← e, ← f) (rw (a, b) at s))

-- neither load is below the lesser
pub lesser-least : (loads : List ℕ) → (lesser loads ≤ get_or loads 0 0) × (lesser loads ≤ get_or loads 1 0)
lesser-least loads = go (ltb (get_or loads 0 0) (get_or loads 1 0)) refl
  where
    go : (t : Bool) → ltb (get_or loads 0 0) (get_or loads 1 0) ≡ t → (cond t (get_or loads 0 0) (get_or loads 1 0) ≤ get_or loads 0 0) × (cond t (get_or loads 0 0) (get_or loads 1 0) ≤ get_or loads 1 0)
    go true e = let l = ltb-true (get_or loads 0 0) (get_or loads 1 0) e in (omega arith, omega arith)
    go false e = let l = ltb-false (get_or loads 0 0) (get_or loads 1 0) e in (omega arith, omega arith)

-- what holds of 0 and of 1 holds of every label
each_label : (P : ℕ → Type 0) → P 0 → P 1 → (p : ℕ) → p < 2 → P p
each_label P a b zero l = a
each_label P a b (suc zero) l = b
each_label P a b (suc (suc p)) l = absurd (omega arith)

-- the weights below the room are those that fit
room-is : (load ceiling w : ℕ) → w < far → ltb w (room_of load ceiling) ≡ leb (load + w) ceiling
room-is load ceiling w l = go (ltb ceiling load) refl (ltb (ceiling - load) far) refl (leb (load + w) ceiling) refl
  where
    go : (a : Bool) → ltb ceiling load ≡ a → (b : Bool) → ltb (ceiling - load) far ≡ b → (c : Bool) → leb (load + w) ceiling ≡ c → ltb w (cond a 0 (cond b (ceiling - load + 1) far)) ≡ c
    go true p b q true r = let x = ltb-true ceiling load p in let y = leb-true (load + w) ceiling r in absurd (omega arith)
    go true p b q false r = le-ltb w 0 (omega arith)
    go false p true q true r = let x = ltb-false ceiling load p in let y = leb-true (load + w) ceiling r in lt-ltb w (ceiling - load + 1) (omega arith)
    go false p true q false r = let x = ltb-false ceiling load p in let y = leb-false (load + w) ceiling r in le-ltb w (ceiling - load + 1) (omega arith)
    go false p false q true r = lt-ltb w far l
    go false p false q false r = let x = ltb-false (ceiling - load) far q in let y = leb-false (load + w) ceiling r in absurd (omega arith)

-- two loads are in the order of what they are above a third
ltb-above : (k l m : ℕ) → ltb l m ≡ ltb (k + l) (k + m)
ltb-above k l m = go (ltb (k + l) (k + m)) refl
  where
    go : (t : Bool) → ltb (k + l) (k + m) ≡ t → ltb l m ≡ t
    go true e = let x = ltb-true (k + l) (k + m) e in lt-ltb l m (omega arith)
    go false e = let x = ltb-false (k + l) (k + m) e in le-ltb l m (omega arith)

-- the scan, with the rooms and lifts that the code has by loads and ceilings
module _ (gains : List ℤ) (labels weights loads ceilings : List ℕ) (q : Scannable gains labels weights loads) (narrow : (v : ℕ) → get_or weights v 0 < past_weights) where
  -- what the scan sees by these loads and ceilings
  abbrev pub sight : Sight
  sight = sight_of gains labels weights (rooms_of loads ceilings) (lifts_of loads)

  abbrev G : ℕ → ℤ
  G = gain_of sight

  abbrev L : ℕ → ℕ
  L = load_of sight

  abbrev M : ℕ → Bool
  M = may_of sight

  abbrev B : ℕ → ℕ → Bool
  B u v = beats (G u) (L u) (G v) (L v)

  abbrev pick : Option Pick
  pick = pick_below gains (load_after loads weights labels) (ceiling_at ceilings labels) (length labels)

  -- what a look asks holds of them
  pub sighted : Sighted sight
  sighted =
      record {
        gained = q.gained;
        weighed = q.weighed;
        two_labels = q.two_labels;
        roomed = refl;
        lifted = refl;
        light = each_label (λ p. get_or sight.lifts p 0 ≤ most_weight) (let l = q.light 1 (omega arith) in omega arith) (let l = q.light 0 (omega arith) in omega arith);
      }

  small : (v : ℕ) → L v + 1 < far
  small v = let m = sighted.light (part labels v) (q.two_labels v) in omega (arith, narrow v)

  -- so that the load, the room and the order are those of the promise
  load_is : (v : ℕ) → lesser loads + L v ≡ load_after loads weights labels v
  load_is v =
      let m = lesser-least loads in
      let e = each_label (λ p. lesser loads + get_or sight.lifts p 0 ≡ get_or loads (other p) 0) (omega (arith, m.1)) (omega (arith, m.0)) (part labels v) (q.two_labels v) in
      omega arith

  fits_is : (v : ℕ) → fits_of sight v ≡ leb (load_after loads weights labels v) (ceiling_at ceilings labels v)
  fits_is v =
      each_label (λ p. ltb (get_or weights v 0) (get_or sight.rooms p 0) ≡ leb (get_or loads (other p) 0 + get_or weights v 0) (get_or ceilings (other p) 0))
      (room-is (get_or loads 1 0) (get_or ceilings 1 0) (get_or weights v 0) (omega (arith, narrow v)))
      (room-is (get_or loads 0 0) (get_or ceilings 0 0) (get_or weights v 0) (omega (arith, narrow v)))
      (part labels v) (q.two_labels v)

  goes_before-is : (u v : ℕ) → B u v ≡ beats (G u) (load_after loads weights labels u) (G v) (load_after loads weights labels v)
  goes_before-is u v = rw (← load_is u, ← load_is v) (ap (λ (b : Bool). lt_z (G v) (G u) || (le_z (G v) (G u) && b)) (ltb-above (lesser loads) (L u) (L v)))

  pick_is : picked G (best M B (length labels)) ≡ pick
  pick_is = λ i. picked G (best (λ v. is_free (G v) && fits_is v i) (λ u v. goes_before-is u v i) (length labels))

  -- what is sampled has a load within the bound
  pub sample-near : (found : Held) → Holds sight nobody found → found.load ≤ far
  sample-near found h = go h.found refl
    where
      go : (t : Bool) → h.found ≡ t → found.load ≤ far
      go true f = let k = h.load_is f in let i = small h.vertex in omega arith
      go false f = let k = h.load_was f in omega arith

  module _ (found held : Held) (h : Holds sight nobody found) (s : Swept sight (start_of found) (length labels) held) where
    -- the vertex sampled goes before the start, so that a vertex comes to be held
    sampled : h.found ≡ true → s.holds.found ≡ false → ⊥
    sampled f n =
        let x = h.vertex in
        let g = s.holds.gain_was n ∙ h.gain_is f in
        let l = s.holds.load_was n in
        let k = h.load_is f in
        clash (beats (G x) (L x) held.gain held.load)
        (by-load (G x) (L x) held.gain held.load (rw g (not-lt-le (G x) (G x) (lt-self (G x)))) (omega arith))
        (s.beaten x (h.here f) (h.may_is f))

    -- with nothing sampled and nothing held, nothing may move
    none-may : h.found ≡ false → s.holds.found ≡ false → (u : ℕ) → u < length labels → (t : Bool) → M u ≡ t → t ≡ false
    none-may f n u l false e = refl
    none-may f n u l true e =
        let g = s.holds.gain_was n ∙ h.gain_was f in
        let k = s.holds.load_was n in
        let j = h.load_was f in
        let i = small u in
        clash (beats (G u) (L u) held.gain held.load)
        (by-load (G u) (L u) held.gain held.load (rw g (free-low (G u) (and_left (is_free (G u)) (fits_of sight u) e))) (omega arith))
        (s.beaten u l e)

    -- a load that is near is that of a vertex
    is_found : held.load < far → (t : Bool) → s.holds.found ≡ t → (u : Bool) → h.found ≡ u → t ≡ true
    is_found l true f u e = refl
    is_found l false n true e = absurd (sampled e n)
    is_found l false n false e = let k = s.holds.load_was n in let j = h.load_was e in absurd (omega arith)

    module _ (l : held.load < far) where
      found-one : s.holds.found ≡ true
      found-one = is_found l s.holds.found refl h.found refl

      pub scan-past : 1 ≤ held.past
      scan-past = let e = s.holds.past_is found-one in omega arith

      -- and that vertex is the pick
      is-best : best M B (length labels) ≡ some s.holds.vertex
      is-best =
          let g = s.holds.gain_is found-one in
          let k = s.holds.load_is found-one in
          best-is M B (length labels) s.holds.vertex (s.holds.here found-one) (s.holds.may_is found-one) (λ u i m. rw (← g, ← k) (s.beaten u i m)) (λ u i m. rw (← g, ← k) (s.ahead found-one u i m))

      pub scan-found : (v : ℕ) (g : ℤ) → v + 1 ≡ held.past → g ≡ held.gain → Some (record { vertex = v; gain = g }) ≡ pick
      scan-found v g e z =
          let p = s.holds.past_is found-one in
          vertex-is v s.holds.vertex g (omega arith) (z ∙ s.holds.gain_is found-one)
          ∙ ap (picked G) (sym is-best)
          ∙ pick_is
        where
          vertex-is : (v a : ℕ) (g : ℤ) → v ≡ a → g ≡ G a → Some (record { vertex = v; gain = g }) ≡ picked G (some a)
          vertex-is v a g x y = rw (y, x)

    pub scan-none : far ≤ held.load → None ≡ pick
    scan-none l = go s.holds.found refl h.found refl ∙ pick_is
      where
        go : (t : Bool) → s.holds.found ≡ t → (u : Bool) → h.found ≡ u → None ≡ picked G (best M B (length labels))
        go true f u e = let k = s.holds.load_is f in let i = small s.holds.vertex in absurd (omega arith)
        go false n true e = absurd (sampled e n)
        go false n false e = rw (best_none M B (length labels) (λ u i. none-may e n u i (M u) refl))

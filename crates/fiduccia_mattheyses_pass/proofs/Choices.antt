-- The scan over the lists of gains and loads finds FM's choice. Assumes nothing.
use mathlib.Core.Path.{◌≡◌, refl, sym, ◌∙◌}
use mathlib.Core.Bool.{Bool, true, false, not, cond}
use mathlib.Core.List.{List}
use mathlib.Core.Option.{Option, none, some}
use Prim.Native.Nat.{ℕ, ◌<◌}
use native.Mathlib.Omega.{arith}
use lib.ListN.{length, get_or}
use lib.IntN.{ℤ, pos}
use Rattle.lists.specs.Best.{best}
use Rattle.imbalance.specs.Load.{part, load}
use Rattle.fiduccia_mattheyses_choice.specs.Choice.{Terms, other, member, worth, after, fits, allowed, better, choice}
use Rattle.fiduccia_mattheyses_choice.specs.inner.Scan.{lock, is_free, picked, may, goes_before, pick_below, load_after, ceiling_at}
use Rattle.fiduccia_mattheyses_pass.specs.inner.Standing.{Gains}
use Rattle.lists.proofs.Bests.{best-ext}
use Rattle.fiduccia_mattheyses_choice.proofs.Chosen.{allowed-is, chosen}
use Rattle.fiduccia_mattheyses_pass.proofs.Follows.{free-small}
use Rattle.fiduccia_mattheyses_pass.proofs.Worths.{Light, worth-small}

module _ (s : Terms) (p locked : List ℕ) (gs : List ℤ) (loads : List ℕ) (all-may : (v : ℕ) → s.movable v ≡ true) (light : Light s.graph) (h : Gains s p locked gs) (ls : (t : ℕ) → t < 2 → get_or loads t 0 ≡ load s.weights p t) where
  abbrev n : ℕ
  n = length p

  abbrev L : ℕ → ℕ
  L = load_after loads s.weights p

  abbrev C : ℕ → ℕ
  C = ceiling_at s.ceilings p

  loads-same : (v : ℕ) → L v ≡ after s p v
  unfolding after
  loads-same v = rw (ls (other (part p v)) (omega arith))

  free-same : (v : ℕ) → v < n → is_free (get_or gs v (pos 0)) ≡ not (member v locked)
  free-same v l = rw (h.each v l) (go (member v locked))
    where
      go : (m : Bool) → is_free (cond m lock (worth s p v)) ≡ not m
      go true = refl
      go false = let q = worth-small s p v light in free-small (worth s p v) (omega arith)

  may-same : (v : ℕ) → v < n → may gs L C v ≡ allowed s p locked v
  unfolding allowed fits
  may-same v l = rw (free-same v l, loads-same v, all-may v)

  worth-same : (v : ℕ) → v < n → allowed s p locked v ≡ true → get_or gs v (pos 0) ≡ worth s p v
  worth-same v l e = h.each v l ∙ rw (allowed-is s p locked v e).1

  goes_before-same : (u v : ℕ) → u < n → v < n → may gs L C u ≡ true → may gs L C v ≡ true → goes_before gs L C u v ≡ better s p u v
  unfolding better
  goes_before-same u v lu lv eu ev = rw (worth-same u lu (sym (may-same u lu) ∙ eu), worth-same v lv (sym (may-same v lv) ∙ ev), loads-same u, loads-same v)

  same-choice : best (may gs L C) (goes_before gs L C) n ≡ choice s p locked
  unfolding choice
  same-choice = best-ext (may gs L C) (allowed s p locked) (goes_before gs L C) (better s p) n may-same goes_before-same

  -- the pick is the choice, with what its move is worth
  pub pick-choice : pick_below gs L C n ≡ picked (worth s p) (choice s p locked)
  pick-choice = rw same-choice (go (choice s p locked) refl)
    where
      go : (o : Option ℕ) → choice s p locked ≡ o → picked (λ v. get_or gs v (pos 0)) o ≡ picked (worth s p) o
      go none e = refl
      go (some v) e = let c = (chosen s p locked v).0 e in rw (worth-same v c.here c.may)

-- What FM chooses, vertex against vertex: the choice is the one vertex that document 01 describes. Assumes nothing.
use mathlib.Core.Path.{◌≡◌, refl}
use mathlib.Core.Logic.{◌↔◌}
use mathlib.Core.Bool.{Bool, true, false, not, ◌&&◌}
use mathlib.Core.List.{List}
use mathlib.Core.Option.{none, some}
use Prim.Native.Nat.{ℕ, ◌<◌}
use native.Mathlib.Omega.{arith}
use lib.Dec.{ltb, eqb}
use lib.ListN.{length}
use borrow.Author.Tests.{ltb-true, ltb-false, eqb-true, eqb-false, not-true}
use Rattle.lists.proofs.Bests.{best-in, best-is, best_none, none_allowed, best-order}
use Rattle.lists.proofs.Bools.{and_left, and_right}
use Rattle.fiduccia_mattheyses_choice.specs.Choice.{Terms, member, worth, after, fits, allowed, better, choice, Chosen}
use Rattle.fiduccia_mattheyses_choice.proofs.Beats.{beats-on, beats-not, beats-self}

module _ (s : Terms) (p moved : List ℕ) where
  -- an allowed vertex may move, has not moved yet, and fits
  pub allowed-is : (v : ℕ) → allowed s p moved v ≡ true → (s.movable v ≡ true) × (member v moved ≡ false) × (fits s p v ≡ true)
  unfolding allowed
  allowed-is v e =
      let free = and_left (s.movable v && not (member v moved)) (fits s p v) e in
      (and_left (s.movable v) (not (member v moved)) free, not-true (member v moved) (and_right (s.movable v) (not (member v moved)) free), and_right (s.movable v && not (member v moved)) (fits s p v) e)

  -- the order of the vertices
  better-on : (x y z : ℕ) → better s p x z ≡ true → better s p y z ≡ false → better s p x y ≡ true
  unfolding better
  better-on x y z = beats-on (worth s p x) (after s p x) (worth s p z) (after s p z) (worth s p y) (after s p y)

  better-not : (x y : ℕ) → better s p x y ≡ true → better s p y x ≡ false
  unfolding better
  better-not x y = beats-not (worth s p x) (after s p x) (worth s p y) (after s p y)

  better-self : (x : ℕ) → better s p x x ≡ false
  unfolding better
  better-self x = beats-self (worth s p x) (after s p x)

  chosen_is : (v : ℕ) → choice s p moved ≡ some v → Chosen s p moved v
  unfolding choice
  chosen_is v e = record { here = i.0; may = i.1; top = λ u l q. top u l q (ltb u v) refl (eqb u v) refl; lowest = o.0 }
    where
      i : (v < length p) × (allowed s p moved v ≡ true)
      i = best-in (allowed s p moved) (better s p) (length p) v e

      o : ((u : ℕ) → u < v → allowed s p moved u ≡ true → better s p v u ≡ true) × ((u : ℕ) → v < u → u < length p → allowed s p moved u ≡ true → better s p u v ≡ false)
      o = best-order (allowed s p moved) (better s p) (λ x y z g h. better-on x z y g (better-not y z h)) better-on (length p) v e

      top : (u : ℕ) → u < length p → allowed s p moved u ≡ true → (a : Bool) → ltb u v ≡ a → (b : Bool) → eqb u v ≡ b → better s p u v ≡ false
      top u l q true a b c = better-not v u (o.0 u (ltb-true u v a) q)
      top u l q false a true c = rw (eqb-true u v c) (better-self v)
      top u l q false a false c = let ge = ltb-false u v a in let ne = eqb-false u v c in o.1 u (omega (arith, ne)) l q

  -- A vertex is the choice exactly if it is what document 01 says of it.
  pub chosen : (v : ℕ) → (choice s p moved ≡ some v) ↔ Chosen s p moved v
  unfolding choice
  chosen v = (chosen_is v, λ c. best-is (allowed s p moved) (better s p) (length p) v c.here c.may c.top c.lowest)

  -- None is chosen exactly if none is allowed.
  pub none-chosen : (choice s p moved ≡ none) ↔ ((v : ℕ) → v < length p → allowed s p moved v ≡ false)
  unfolding choice
  none-chosen = (none_allowed (allowed s p moved) (better s p) (length p), best_none (allowed s p moved) (better s p) (length p))

-- A pass makes at most n moves, so that a move limit above n changes nothing. Assumes nothing.
use mathlib.Core.Path.{◌≡◌, refl, sym, ap, ◌∙◌}
use mathlib.Core.Bool.{false}
use mathlib.Core.List.{List, [], ◌∷◌}
use mathlib.Core.Option.{Option, none, some}
use Prim.Native.Nat.{ℕ, zero, suc, ◌+◌, ◌-◌, ◌≤◌, ◌<◌}
use native.Mathlib.Omega.{arith}
use lib.ListN.{length, take, length-set, length-append}
use Rattle.lists.specs.Sum.{sum, weigh}
use Rattle.lists.proofs.Totals.{sum-zero}
use Rattle.imbalance.specs.Load.{part}
use Rattle.fiduccia_mattheyses_choice.specs.Choice.{Terms, with_move_limit, other, flip, member, worth, after, fits, allowed, better, choice}
use Rattle.fiduccia_mattheyses_pass.specs.Pass.{State, start, move_on, next, walk, flips, pass}
use Rattle.fiduccia_mattheyses_choice.proofs.Chosen.{allowed-is, chosen}
use Rattle.fiduccia_mattheyses_pass.proofs.Moved.{count-few, count-more, count-leaves-one}
use Rattle.fiduccia_mattheyses_pass.proofs.Walks.{walk-stop, walk_step}
use Rattle.fiduccia_mattheyses_pass.proofs.Keeps.{next-moves, walk-keeps}

-- the vertices moved are each another one of the n
record Counted (n : ℕ) (st : State) : Type 0 where
  long : length st.labels ≡ n
  once : sum n (λ x. weigh (member x st.moved) 1) ≡ length st.moved

counted_start : (s : Terms) (p : List ℕ) → Counted (length p) (start s p)
unfolding member
counted_start s p = record { long = refl; once = sum-zero (length p) }

-- what is chosen is one of them that has not moved yet
choice-free : (s : Terms) (n : ℕ) (st : State) (v : ℕ) → choice s st.labels st.moved ≡ some v → Counted n st → (v < n) × (member v st.moved ≡ false)
choice-free s n st v c h =
    let f = (chosen s st.labels st.moved v).0 c in
    let l = h.long in
    (omega (arith, f.here), (allowed-is s st.labels st.moved v f.may).1)

counted-move : (s : Terms) (n : ℕ) (st : State) (v : ℕ) → choice s st.labels st.moved ≡ some v → Counted n st → Counted n (move_on s st v)
unfolding move_on flip
counted-move s n st v c h =
    let f = choice-free s n st v c h in
    record {
      long = length-set st.labels v (other (part st.labels v)) ∙ h.long;
      once = count-more v st.moved n f.0 f.1 h.once ∙ sym (length-append st.moved (v ∷ []));
    }

-- A pass makes at most n moves: "moves in a pass at most n".
pub few-moves : (s : Terms) (p : List ℕ) → (pass s p).made ≤ length p
unfolding pass
few-moves s p =
    let c = walk-keeps s p (Counted (length p)) (counted-move s (length p)) s.move_limit (start s p) (counted_start s p) in
    count-few (length p) (walk s s.move_limit (start s p)).moved c.once

-- the next state has moved one vertex more
pub next-longer : (s : Terms) (st t : State) → next s st ≡ some t → length t.moved ≡ length st.moved + 1
unfolding move_on
next-longer s st t e =
    let m = next-moves s st t e in
    ap (λ (x : State). length x.moved) m.2 ∙ length-append st.moved (m.0 ∷ [])

-- with all vertices moved there is no next state
none_left : (s : Terms) (n : ℕ) (st t : State) → Counted n st → n ≤ length st.moved → next s st ≡ some t → ⊥
none_left s n st t h l e =
    let m = next-moves s st t e in
    let f = choice-free s n st m.0 m.1 h in
    let r = count-leaves-one m.0 st.moved n f.0 f.1 h.once in
    omega arith

-- two walks that may each move all the vertices left end in the same state
walks_same : (s : Terms) (n j k : ℕ) (st : State) → Counted n st → n ≤ j + length st.moved → n ≤ k + length st.moved → walk s j st ≡ walk s k st
walks_same s n zero k st h a b = go (next s st) refl
  where
    go : (o : Option State) → next s st ≡ o → walk s zero st ≡ walk s k st
    go none e = walk-stop s zero st e ∙ sym (walk-stop s k st e)
    go (some t) e = absurd (none_left s n st t h (omega arith) e)
walks_same s n (suc j) k st h a b = go k b (next s st) refl (walks_same s n j)
  where
    go : (k : ℕ) → n ≤ k + length st.moved → (o : Option State) → next s st ≡ o → ((k : ℕ) (t : State) → Counted n t → n ≤ j + length t.moved → n ≤ k + length t.moved → walk s j t ≡ walk s k t) → walk s (suc j) st ≡ walk s k st
    go k b none e ih = walk-stop s (suc j) st e ∙ sym (walk-stop s k st e)
    go zero b (some t) e ih = absurd (none_left s n st t h (omega arith) e)
    go (suc k) b (some t) e ih =
        let m = next-moves s st t e in
        let c : Counted n t = rw m.2 (counted-move s n st m.0 m.1 h) in
        let l = next-longer s st t e in
        walk_step s j st t e ∙ ih k t c (omega arith) (omega arith) ∙ sym (walk_step s k st t e)

-- A move limit above n lets a pass walk no further than n does.
pub walk-limit : (s : Terms) (p : List ℕ) (k : ℕ) → length p ≤ k → walk s k (start s p) ≡ walk s (length p) (start s p)
walk-limit s p k l = walks_same s (length p) k (length p) (start s p) (counted_start s p) (omega arith) (omega arith)

-- the move limit has no say in a step
next-unlimited : (s : Terms) (j k : ℕ) (st : State) → next (with_move_limit s j) st ≡ next (with_move_limit s k) st
unfolding next move_on choice allowed fits better worth after
next-unlimited s j k st = refl

walk-unlimited : (s : Terms) (j k m : ℕ) (st : State) → walk (with_move_limit s j) m st ≡ walk (with_move_limit s k) m st
unfolding walk
walk-unlimited s j k zero st = refl
walk-unlimited s j k (suc m) st = go (next (with_move_limit s j) st) refl (walk-unlimited s j k m)
  where
    go : (o : Option State) → next (with_move_limit s j) st ≡ o → ((t : State) → walk (with_move_limit s j) m t ≡ walk (with_move_limit s k) m t) → walk (with_move_limit s j) (suc m) st ≡ walk (with_move_limit s k) (suc m) st
    go none e ih = walk-stop (with_move_limit s j) (suc m) st e ∙ sym (walk-stop (with_move_limit s k) (suc m) st (next-unlimited s k j st ∙ e))
    go (some t) e ih = walk_step (with_move_limit s j) m st t e ∙ ih t ∙ sym (walk_step (with_move_limit s k) m st t (next-unlimited s k j st ∙ e))

-- "`None` moves equals n": with two move limits of at least n a pass is the same.
pub pass-limit : (s : Terms) (p : List ℕ) (j k : ℕ) → length p ≤ j → length p ≤ k → pass (with_move_limit s j) p ≡ pass (with_move_limit s k) p
unfolding pass
pass-limit s p j k a b =
    ap (λ (e : State). record { made = length e.moved; rewound = length e.moved - e.kept; least = e.least; labels = flips p (take e.kept e.moved) })
    (walk-unlimited s j k j (start s p) ∙ walk-limit (with_move_limit s k) p j a ∙ sym (walk-limit (with_move_limit s k) p k b))

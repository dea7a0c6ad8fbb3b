-- Demand 3, second sentence: after a pass that lowered nothing no single block can go to the other board within the target board's ceiling and lower the cut. Assumes nothing.
use mathlib.Core.Path.{◌≡◌, refl, sym, ap, ◌∙◌}
use mathlib.Core.Bool.{Bool, true, false, cond, ◌&&◌}
use mathlib.Core.List.{List, []}
use mathlib.Core.Option.{Option, none, some}
use Prim.Native.Nat.{ℕ, zero, suc, ◌+◌, ◌-◌, ◌≤◌, ◌<◌}
use native.Mathlib.Omega.{arith}
use lib.Dec.{ltb}
use lib.ListN.{length, take}
use lib.IntN.{pos}
use lib.Signed.{lt_z, le_z}
use borrow.Author.Tests.{ltb-true, ltb-false}
use Rattle.lists.proofs.Bools.{or-false}
use Rattle.lists.proofs.Differences.{order}
use Rattle.lists.proofs.Orders.{clash, lt-then-le, not-lt-le, not-le-lt, lt_not_le}
use Rattle.imbalance.specs.Load.{part}
use Rattle.topology.specs.Graph.{into, gain}
use Rattle.topology.specs.Rule.{Symmetric}
use Rattle.topology.specs.Cut.{cut}
use Rattle.topology.proofs.Moves.{cut-move}
use Rattle.fiduccia_mattheyses_choice.specs.Choice.{Terms, other, flip, member, worth, after, fits, allowed, better, choice, is_bad}
use Rattle.fiduccia_mattheyses_pass.specs.Pass.{State, start, move_on, next, walk, flips, pass}
use Rattle.fiduccia_mattheyses_choice.proofs.Chosen.{chosen, none-chosen}
use Rattle.fiduccia_mattheyses_pass.proofs.Backs.{flips-long}
use Rattle.fiduccia_mattheyses_pass.proofs.Walks.{walk_step}
use Rattle.fiduccia_mattheyses_pass.proofs.Keeps.{walk-keeps}
use Rattle.fiduccia_mattheyses.specs.Run.{Run, run}
use Rattle.fiduccia_mattheyses.specs.Demand.{NoSingleBlock}
use Rattle.fiduccia_mattheyses.proofs.Running.{run-last, run_more}

-- a move never raises the least cut, and lowers it to its own where that is lower
move-least : (s : Terms) (st : State) (v : ℕ) → ((move_on s st v).least ≤ st.least) × ((move_on s st v).least ≤ cut s.graph (flip st.labels v))
unfolding move_on
move-least s st v = go (ltb c st.least) refl
  where
    c : ℕ
    c = cut s.graph (flip st.labels v)

    go : (t : Bool) → ltb c st.least ≡ t → (cond t c st.least ≤ st.least) × (cond t c st.least ≤ c)
    go true e = let l = ltb-true c st.least e in (omega arith, omega arith)
    go false e = let l = ltb-false c st.least e in (omega arith, omega arith)

-- a walk never forgets its least cut
walk-least : (s : Terms) (p : List ℕ) (most : ℕ) (k : ℕ) (st : State) → st.least ≤ most → (walk s k st).least ≤ most
walk-least s p most = walk-keeps s p (λ st. st.least ≤ most) (λ st v c h. (let m = (move-least s st v).0 in omega arith))

-- a pass that has lowered nothing keeps no move
record Idle (s : Terms) (p : List ℕ) (st : State) : Type 0 where
  most : st.least ≤ cut s.graph p
  unkept : cut s.graph p ≤ st.least → st.kept ≡ 0

idle-move : (s : Terms) (p : List ℕ) (st : State) (v : ℕ) → Idle s p st → Idle s p (move_on s st v)
unfolding move_on
idle-move s p st v h = record { most = let m = (move-least s st v).0 in let o = h.most in omega arith; unkept = go (ltb c st.least) refl }
  where
    c : ℕ
    c = cut s.graph (flip st.labels v)

    go : (t : Bool) → ltb c st.least ≡ t → cut s.graph p ≤ cond t c st.least → cond t (length st.moved + 1) st.kept ≡ 0
    go true e l = let x = ltb-true c st.least e in let o = h.most in absurd (omega arith)
    go false e l = h.unkept l

module _ (s : Terms) (p : List ℕ) (idle : ltb (pass s p).least (cut s.graph p) ≡ false) where
  idle-least : cut s.graph p ≤ (walk s s.move_limit (start s p)).least
  unfolding pass
  idle-least = ltb-false (walk s s.move_limit (start s p)).least (cut s.graph p) idle

  -- such a pass leaves the labels as they were
  pub idle-labels : (pass s p).labels ≡ p
  unfolding pass flips
  idle-labels =
      let i = walk-keeps s p (Idle s p) (λ st v c h. idle-move s p st v h) s.move_limit (start s p) (record { most = omega arith; unkept = λ l. refl }) in
      ap (λ (k : ℕ). flips p (take k (walk s s.move_limit (start s p)).moved)) (i.unkept idle-least)

  module _ (ok : Symmetric (length p) s.graph) (some-moves : 0 < s.move_limit) where
    -- a block of positive gain lowers the cut
    lower : (u : ℕ) → u < length p → lt_z (pos 0) (worth s p u) ≡ true → cut s.graph (flip p u) < cut s.graph p
    unfolding worth gain flip
    lower u l e =
        let a = into s.graph p u (other (part p u)) in
        let b = into s.graph p u (part p u) in
        let q = ltb-true (0 + b) (a + 0) (sym (order 0 0 a b) ∙ e) in
        omega (arith, cut-move s.graph p u (other (part p u)) ok l)

    first_step : (u : ℕ) → choice s p [] ≡ some u → is_bad s p u ≡ false → next s (start s p) ≡ some (move_on s (start s p) u)
    unfolding next
    first_step u c e = rw (c, next) (rw e)

    -- so it is not the choice at the pass's start
    not_chosen : (u : ℕ) → u < length p → choice s p [] ≡ some u → lt_z (pos 0) (worth s p u) ≡ true → ⊥
    not_chosen u l c e =
        let k = s.move_limit - 1 in
        let q : s.move_limit ≡ suc k = omega arith in
        let st = move_on s (start s p) u in
        let a : walk s s.move_limit (start s p) ≡ walk s k st =
        ap (λ (n : ℕ). walk s n (start s p)) q ∙ walk_step s k (start s p) st (first_step u c (lt_not_le (worth s p u) (pos 0) e)) in
        let least = ap (λ (x : State). x.least) a in
        let far = walk-least s p st.least k st (omega arith) in
        let near = (move-least s (start s p) u).1 in
        omega (arith, idle-least, least, far, near, lower u l e)

    -- and none that may be chosen has positive gain
    no-gain : (v : ℕ) → v < length p → s.movable v ≡ true → fits s p v ≡ true → le_z (worth s p v) (pos 0) ≡ true
    unfolding allowed member better
    no-gain v l m f = go (le_z (worth s p v) (pos 0)) refl (choice s p []) refl
      where
        may : allowed s p [] v ≡ true
        may = rw (m, f)

        go : (t : Bool) → le_z (worth s p v) (pos 0) ≡ t → (o : Option ℕ) → choice s p [] ≡ o → le_z (worth s p v) (pos 0) ≡ true
        go true e o c = e
        go false e none c = clash (allowed s p [] v) may ((none-chosen s p []).0 c v l)
        go false e (some u) c =
            let i = (chosen s p [] u).0 c in
            let no_more = (or-false (lt_z (worth s p u) (worth s p v)) (le_z (worth s p u) (worth s p v) && ltb (after s p v) (after s p u)) (i.top v l may)).0 in
            absurd (not_chosen u i.here c (lt-then-le (pos 0) (worth s p v) (worth s p u) (not-le-lt (worth s p v) (pos 0) e) (not-lt-le (worth s p u) (worth s p v) no_more)))

    -- a block without gain does not lower the cut
    not_lower : (v : ℕ) → v < length p → le_z (worth s p v) (pos 0) ≡ true → cut s.graph p ≤ cut s.graph (flip p v)
    unfolding worth gain flip
    not_lower v l e = go (lt_z (pos 0) (worth s p v)) refl
      where
        a : ℕ
        a = into s.graph p v (other (part p v))

        b : ℕ
        b = into s.graph p v (part p v)

        go : (t : Bool) → lt_z (pos 0) (worth s p v) ≡ t → cut s.graph p ≤ cut s.graph (flip p v)
        go true q = clash (le_z (worth s p v) (pos 0)) e (lt_not_le (worth s p v) (pos 0) q)
        go false q =
            let r = ltb-false (0 + b) (a + 0) (sym (order 0 0 a b) ∙ q) in
            omega (arith, cut-move s.graph p v (other (part p v)) ok l)

    pub single-block : NoSingleBlock s p
    single-block v l m f = not_lower v l (no-gain v l m f)

pub pass-long : (s : Terms) (p : List ℕ) → length (pass s p).labels ≡ length p
unfolding pass
pass-long s p = flips-long p (take (walk s s.move_limit (start s p)).kept (walk s s.move_limit (start s p)).moved)

-- "If it ended on a gainless pass and each pass was allowed at least one move, no single block can go to the other board within the target board's ceiling and lower the cut."
pub no-single-block : (s : Terms) (k : ℕ) (p : List ℕ) → Symmetric (length p) s.graph → 0 < s.move_limit → (run s k p).end ≡ 1 → NoSingleBlock s (run s k p).labels
unfolding run
no-single-block s zero p ok some-moves e = absurd (omega (arith, e))
no-single-block s (suc k) p ok some-moves e = go (ltb (pass s p).least (cut s.graph p)) refl (no-single-block s k (pass s p).labels (rw (pass-long s p) ok) some-moves)
  where
    go : (b : Bool) → ltb (pass s p).least (cut s.graph p) ≡ b → ((run s k (pass s p).labels).end ≡ 1 → NoSingleBlock s (run s k (pass s p).labels).labels) → NoSingleBlock s (run s (suc k) p).labels
    go true q ih = rw (ap (λ (x : Run). x.labels) (run_more s k p q)) (ih (sym (ap (λ (x : Run). x.end) (run_more s k p q)) ∙ e))
    go false q ih = rw (ap (λ (x : Run). x.labels) (run-last s k p q) ∙ idle-labels s p q) (single-block s p q ok some-moves)

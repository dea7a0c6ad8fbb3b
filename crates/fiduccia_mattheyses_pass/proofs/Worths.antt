-- The worth of a vertex's move, before and after another vertex moves. Assumes nothing.
use mathlib.Core.Path.{◌≡◌, refl, sym, ap, ◌∙◌}
use mathlib.Core.Logic.{◌≢◌}
use mathlib.Core.Bool.{Bool, true, false, cond, ◌||◌}
use mathlib.Core.List.{List, [], ◌∷◌, ◌++◌}
use Prim.Native.Nat.{ℕ, ◌+◌, ◌-◌, ◌*◌, ◌≤◌, ◌<◌}
use native.Mathlib.Omega.{arith}
use lib.Dec.{eqb}
use lib.ListN.{length, get_or, set, length-set}
use lib.Seq.{get_or-set_same, get_or-set_other}
use lib.IntN.{ℤ, pos, sub_ℕ, ◌+ℤ◌, ◌-ℤ◌}
use lib.Signed.{mag}
use borrow.Author.Tests.{eq-eqb, ne_eqb, eqb-true, eqb-false}
use Rattle.lists.specs.Sum.{weigh}
use Rattle.topology.specs.Graph.{Graph, first, past, neighbour, weight, arcs, into, gain}
use Rattle.imbalance.specs.Limit.{most_arcs}
use Rattle.imbalance.specs.Load.{part}
use Rattle.lists.specs.Sum.{between}
use Rattle.fiduccia_mattheyses_choice.specs.Choice.{Terms, other, flip, member, worth}
use Rattle.topology.specs.Graph.{joins}
use Rattle.topology.specs.Rule.{Symmetric}
use Rattle.topology.proofs.Moves.{into-move}
use Rattle.fiduccia_mattheyses_choice.specs.inner.Scan.{lock, is_free}
use Rattle.fiduccia_mattheyses_pass.specs.inner.Standing.{Gains}
use Rattle.fiduccia_mattheyses_pass.proofs.Moved.{member-more}
use Rattle.fiduccia_mattheyses_pass.specs.inner.Update.{shift, updated}
use Rattle.lists.proofs.Totals.{sum-most}
use Rattle.lists.proofs.Differences.{mag-sub, same, plus, take-away}
use Rattle.fiduccia_mattheyses_choice.specs.inner.Bounds.{past_weights}
use Rattle.fiduccia_mattheyses_pass.specs.inner.Bounds.{most_in_row, most_gain}
use Rattle.fiduccia_mattheyses_pass.proofs.Follows.{free-small, updated-at, total, length-updated, moved_on}

weigh-le : (t : Bool) (x m : ℕ) → x ≤ m → weigh t x ≤ m
weigh-le true x m h = h
weigh-le false x m h = omega arith

-- what the limits give: short rows of small weights
pub record Light (g : Graph) : Type 0 where
  pub light : (e : ℕ) → weight g e ≤ past_weights
  pub short : (u : ℕ) → past g u - first g u ≤ most_arcs

pub arcs-small : (g : Graph) (u : ℕ) (t : ℕ → Bool) → Light g → arcs g u t ≤ most_in_row
unfolding arcs between
arcs-small g u t l =
    omega (arith, l.short u, sum-most (past g u - first g u) past_weights (λ i. weigh (t (neighbour g (first g u + i))) (weight g (first g u + i))) (λ i k. weigh-le (t (neighbour g (first g u + i))) (weight g (first g u + i)) past_weights (l.light (first g u + i))))

module _ (s : Terms) (p : List ℕ) where
  abbrev G : Graph
  G = s.graph

  pub worth-small : (x : ℕ) → Light G → mag (worth s p x) ≤ most_gain
  unfolding worth gain into
  worth-small x l =
      omega (arith, mag-sub (into G p x (other (part p x))) (into G p x (part p x)), arcs-small G x (λ v. eqb (part p v) (other (part p x))) l, arcs-small G x (λ v. eqb (part p v) (part p x)) l)

  module _ (ok : Symmetric (length p) G) (two_labels : (x : ℕ) → part p x < 2) (v x : ℕ) (lv : v < length p) (lx : x < length p) (ne : x ≢ v) where
    abbrev t : ℕ
    t = other (part p v)

    abbrev J : ℕ
    J = joins G x v

    unmoved : part (flip p v) x ≡ part p x
    unfolding flip
    unmoved = get_or-set_other p v x t 0 ne

    moved-into : (c : ℕ) → into G (flip p v) x c + weigh (eqb (part p v) c) J ≡ into G p x c + weigh (eqb t c) J
    unfolding flip
    moved-into c = into-move G p v t x c ok lv lx

    pub worth_move : worth s (flip p v) x ≡ shift (eqb (part p x) (part p v)) (worth s p x) J
    unfolding worth gain shift
    worth_move = rw unmoved (go (eqb (part p x) (part p v)) refl)
      where
        A : ℕ
        A = into G p x (other (part p x))

        B : ℕ
        B = into G p x (part p x)

        A' : ℕ
        A' = into G (flip p v) x (other (part p x))

        B' : ℕ
        B' = into G (flip p v) x (part p x)

        go : (b : Bool) → eqb (part p x) (part p v) ≡ b → sub_ℕ A' B' ≡ cond b (sub_ℕ A B +ℤ pos (2 * J)) (sub_ℕ A B -ℤ pos (2 * J))
        go true e =
            let q = eqb-true (part p x) (part p v) e in
            let d = two_labels v in
            let a = rw (ne_eqb (part p v) (other (part p x)) (λ r. omega arith), eq-eqb t (other (part p x)) (omega arith)) at (moved-into (other (part p x))) in
            let b = rw (eq-eqb (part p v) (part p x) (sym q), ne_eqb t (part p x) (λ r. omega arith)) at (moved-into (part p x)) in
            same A' B' (A + 2 * J) B (omega arith) ∙ sym (plus A B (2 * J))
        go false e =
            let q = eqb-false (part p x) (part p v) e in
            let d = two_labels v in
            let c = two_labels x in
            let a = rw (eq-eqb (part p v) (other (part p x)) (omega (arith, q)), ne_eqb t (other (part p x)) (λ r. omega (arith, q))) at (moved-into (other (part p x))) in
            let b = rw (ne_eqb (part p v) (part p x) (λ r. q (sym r)), eq-eqb t (part p x) (omega (arith, q))) at (moved-into (part p x)) in
            same A' B' A (B + 2 * J) (omega arith) ∙ sym (take-away A B (2 * J))

-- v moves: it is locked, and its row's arcs are gone through
module _ (s : Terms) (p locked : List ℕ) (gs : List ℤ) (v : ℕ) (ok : Symmetric (length p) s.graph) (light : Light s.graph) (two_labels : (x : ℕ) → part p x < 2) (lv : v < length p) (h : Gains s p locked gs) where
  abbrev g : Graph
  g = s.graph

  abbrev gs' : List ℤ
  gs' = updated g.neighbours g.weights (flip p v) (part p v) (first g v) (past g v - first g v) (set gs v lock)

  abbrev k : ℕ
  k = past g v - first g v

  arrived : (x : ℕ) → total g.neighbours g.weights (flip p v) (part p v) (first g v) (set gs v lock) k x ≡ joins g v x
  unfolding joins arcs between
  arrived x = refl

  joins-small : (x : ℕ) → joins g v x ≤ most_in_row
  unfolding joins
  joins-small x = arcs-small g v (λ y. eqb y x) light

  module _ (x : ℕ) (lx : x < length p) where
    abbrev w : ℤ
    w = get_or (set gs v lock) x (pos 0)

    follows : (f : Bool) → is_free w ≡ f → (f ≡ true → mag w ≤ most_gain) → get_or gs' x (pos 0) ≡ moved_on f (eqb (part (flip p v) x) (part p v)) w (joins g v x)
    follows f e sm =
        let r = updated-at g.neighbours g.weights (flip p v) (part p v) (first g v) (set gs v lock) x (rw (length-set gs v lock, h.long) lx) (λ q. sm (sym e ∙ q)) k (omega (arith, arrived x, joins-small x)) in
        rw (e, arrived x) at r

    at-lock : w ≡ lock → get_or gs' x (pos 0) ≡ lock
    at-lock q = follows false (ap is_free q) (λ r. let o : ◌≡◌ {A = ℕ} 0 1 = cc in absurd (omega arith)) ∙ q

    off : (x ≢ v) → (c : Bool) → member x locked ≡ c → get_or gs' x (pos 0) ≡ cond c lock (worth s (flip p v) x)
    off ne true e = at-lock (get_or-set_other gs v x lock (pos 0) ne ∙ h.each x lx ∙ rw e)
    off ne false e =
        let q : w ≡ worth s p x = get_or-set_other gs v x lock (pos 0) ne ∙ h.each x lx ∙ rw e in
        let sm = worth-small s p x light in
        follows true (rw q (free-small (worth s p x) (omega arith))) (λ r. rw q sm)
        ∙ rw (q, unmoved s p ok two_labels v x lv lx ne, ok.equal v x lv lx) (sym (worth_move s p ok two_labels v x lv lx ne))

    each-move : (b : Bool) → eqb x v ≡ b → get_or gs' x (pos 0) ≡ cond (member x locked || b) lock (worth s (flip p v) x)
    each-move true e = at-lock (rw (eqb-true x v e) (get_or-set_same gs v lock (pos 0) (rw h.long lv))) ∙ always (member x locked)
      where
        always : (m : Bool) → lock ≡ cond (m || true) lock (worth s (flip p v) x)
        always true = refl
        always false = refl
    each-move false e = off (eqb-false x v e) (member x locked) refl ∙ same (member x locked)
      where
        same : (m : Bool) → cond m lock (worth s (flip p v) x) ≡ cond (m || false) lock (worth s (flip p v) x)
        same true = refl
        same false = refl

  pub gains-move : Gains s (flip p v) (locked ++ (v ∷ [])) gs'
  unfolding flip
  gains-move =
      record {
        long = length-updated g.neighbours g.weights (flip p v) (part p v) (first g v) (set gs v lock) k ∙ length-set gs v lock ∙ h.long ∙ sym (length-set p v (other (part p v)));
        each = λ x l. each-move x (rw length-set at l) (eqb x v) refl ∙ rw (member-more x v locked);
      }

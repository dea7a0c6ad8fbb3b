-- Two vertices moved, to any parts: the same in either order, nothing there and back, and between two parts a fall of the cut by the sum of their gains and twice what joins them (document 02, A9). Assumes nothing.
use mathlib.Core.Path.{◌≡◌, refl, sym, ap, ◌∙◌}
use mathlib.Core.Logic.{inl, inr}
use mathlib.Core.List.{List}
use Prim.Native.Nat.{ℕ, zero, suc, ◌+◌, ◌-◌, ◌*◌, ◌≤◌, ◌<◌}
use native.Mathlib.Omega.{arith}
use lib.Dec.{eqb}
use lib.IntN.{ℤ, pos, sub_ℕ, ◌+ℤ◌, ◌-ℤ◌}
use lib.ListN.{length, set, length-set}
use lib.Seq.{get_or-set_other, set-set, set_comm, set-get_or}
use borrow.Author.Tests.{eq-eqb, ne_eqb}
use Rattle.lists.specs.Sum.{between, weigh}
use Rattle.lists.proofs.Totals.{sum-ext, sum-zero}
use Rattle.lists.proofs.Differences as D
use Rattle.imbalance.specs.Load.{part, load}
use Rattle.topology.specs.Graph.{Graph, first, past, neighbour, weight, arcs, into, gain, joins}
use Rattle.topology.specs.Rule.{Symmetric}
use Rattle.topology.specs.Cut.{cut, fall}
use Rattle.topology.proofs.Moves.{cut-move, into-move}
use Rattle.exchange.specs.Exchange.{two_moves, OneOf, across, both, Alike, gain_sum, both_fall}

alike : (g : Graph) (ws p q : List ℕ) → p ≡ q → Alike g ws p q
alike g ws p q e = record { labels = e; loads = λ t. ap (λ (r : List ℕ). load ws r t) e; cuts = ap (cut g) e }

-- "moving two different vertices in either order gives the same labels, loads and cut": u to part s and v to part t, whatever the parts
pub either_order : (g : Graph) (ws p : List ℕ) (u s v t : ℕ) → (u ≡ v → ⊥) → Alike g ws (two_moves p u s v t) (two_moves p v t u s)
either_order g ws p u s v t ne = alike g ws (two_moves p u s v t) (two_moves p v t u s) (set_comm p u v s t ne)

-- v to part t, and then to the part that it began in: the labels
pub moved_back : (p : List ℕ) (v t : ℕ) → two_moves p v t v (part p v) ≡ p
moved_back p v t = set-set p v t (part p v) ∙ set-get_or p v 0

-- "Moving one there and back changes nothing"
pub there_and_back : (g : Graph) (ws p : List ℕ) (v t : ℕ) → Alike g ws (two_moves p v t v (part p v)) p
there_and_back g ws p v t = alike g ws (two_moves p v t v (part p v)) p (moved_back p v t)

-- "A missing arc counts as weight 0": where no arc of u's row goes to v
pub missing-arc : (g : Graph) (u v : ℕ) → ((e : ℕ) → first g u ≤ e → e < past g u → neighbour g e ≡ v → ⊥) → joins g u v ≡ 0
unfolding joins arcs between
missing-arc g u v none =
    sum-ext (past g u - first g u) (λ i. weigh (eqb (neighbour g (first g u + i)) v) (weight g (first g u + i))) (λ i. 0)
    (λ i l. rw (ne_eqb (neighbour g (first g u + i)) v (none (first g u + i) (omega arith) (omega arith))))
    ∙ sum-zero (past g u - first g u)

-- sums of differences, and twice a number more or less
up : (a b c d j : ℕ) → (sub_ℕ a b +ℤ sub_ℕ c d) +ℤ pos (2 * j) ≡ sub_ℕ (a + c + 2 * j) (b + d)
up a b c d j =
    ap (λ (z : ℤ). z +ℤ pos (2 * j)) (D.add a b c d) ∙ ap (λ (z : ℤ). sub_ℕ (a + c) (b + d) +ℤ z) (D.pos-is (2 * j))
    ∙ D.add (a + c) (b + d) (2 * j) 0 ∙ D.same (a + c + 2 * j) (b + d + 0) (a + c + 2 * j) (b + d) (omega arith)

down : (a b c d j : ℕ) → (sub_ℕ a b +ℤ sub_ℕ c d) -ℤ pos (2 * j) ≡ sub_ℕ (a + c) (b + d + 2 * j)
down a b c d j =
    ap (λ (z : ℤ). z -ℤ pos (2 * j)) (D.add a b c d) ∙ ap (λ (z : ℤ). sub_ℕ (a + c) (b + d) -ℤ z) (D.pos-is (2 * j))
    ∙ D.sub (a + c) (b + d) (2 * j) 0 ∙ D.same (a + c + 0) (b + d + 2 * j) (a + c) (b + d + 2 * j) (omega arith)

one_of_two : (t : ℕ) → t < 2 → OneOf 0 1 t
one_of_two zero h = inl refl
one_of_two (suc zero) h = inr refl
one_of_two (suc (suc t)) h = absurd (omega arith)

across-two : (t : ℕ) → t < 2 → across 0 1 t ≡ 1 - t
across-two zero h = refl
across-two (suc zero) h = refl
across-two (suc (suc t)) h = absurd (omega arith)

module _ (g : Graph) (p : List ℕ) (u v : ℕ) (ok : Symmetric (length p) g) (lu : u < length p) (lv : v < length p) (ne : u ≡ v → ⊥) where
  -- whatever the parts: the cut after both moves, in numbers without a sign
  cut-moves : (s t : ℕ)
      → cut g (two_moves p u s v t) + (into g p u s + into g p v t) + (weigh (eqb s t) (joins g u v) + weigh (eqb (part p u) (part p v)) (joins g u v))
      ≡ cut g p + (into g p u (part p u) + into g p v (part p v)) + (weigh (eqb (part p u) t) (joins g u v) + weigh (eqb s (part p v)) (joins g u v))
  cut-moves s t =
      let q = set p u s in
      let long = length-set p u s in
      let here : part q v ≡ part p v = get_or-set_other p u v s 0 (λ e. ne (sym e)) in
      let one = cut-move g p u s ok lu in
      let two : cut g (set q v t) + into g q v t ≡ cut g q + into g q v (part p v) = rw here at (cut-move g q v t (rw long ok) (rw long lv)) in
      let a : into g q v t + weigh (eqb (part p u) t) (joins g u v) ≡ into g p v t + weigh (eqb s t) (joins g u v) =
      rw (ok.equal v u lv lu) at (into-move g p u s v t ok lu lv) in
      let b : into g q v (part p v) + weigh (eqb (part p u) (part p v)) (joins g u v) ≡ into g p v (part p v) + weigh (eqb s (part p v)) (joins g u v) =
      rw (ok.equal v u lv lu) at (into-move g p u s v (part p v) ok lu lv) in
      omega arith

  -- "less twice their shared arc weight if they began in different parts": each goes to the other's part
  pub apart-fall : (part p u ≡ part p v → ⊥) → fall g p (two_moves p u (part p v) v (part p u)) ≡ gain_sum g p u (part p v) v (part p u) -ℤ pos (2 * joins g u v)
  unfolding gain
  apart-fall d =
      let pu = part p u in
      let pv = part p v in
      let j = joins g u v in
      let q = two_moves p u pv v pu in
      let m : cut g q + (into g p u pv + into g p v pu) + (0 + 0) ≡ cut g p + (into g p u pu + into g p v pv) + (j + j) =
      rw (ne_eqb pv pu (λ e. d (sym e)), ne_eqb pu pv d, eq-eqb pu pu refl, eq-eqb pv pv refl) at (cut-moves pv pu) in
      D.same (cut g p) (cut g q) (into g p u pv + into g p v pu) (into g p u pu + into g p v pv + 2 * j) (omega arith)
      ∙ sym (down (into g p u pv) (into g p u pu) (into g p v pu) (into g p v pv) j)

  -- "plus twice it if in the same part": both go to part t
  pub same-fall : (t : ℕ) → part p u ≡ part p v → (part p u ≡ t → ⊥) → fall g p (two_moves p u t v t) ≡ gain_sum g p u t v t +ℤ pos (2 * joins g u v)
  unfolding gain
  same-fall t e d =
      let pu = part p u in
      let pv = part p v in
      let j = joins g u v in
      let q = two_moves p u t v t in
      let m : cut g q + (into g p u t + into g p v t) + (j + j) ≡ cut g p + (into g p u pu + into g p v pv) + (0 + 0) =
      rw (eq-eqb t t refl, eq-eqb pu pv e, ne_eqb pu t d, ne_eqb t pv (λ r. d (e ∙ sym r))) at (cut-moves t t) in
      D.same (cut g p) (cut g q) (into g p u t + into g p v t + 2 * j) (into g p u pu + into g p v pv) (omega arith)
      ∙ sym (up (into g p u t) (into g p u pu) (into g p v t) (into g p v pv) j)

  -- "For two parts, moving both lowers the cut by the sum of their gains, less twice their shared arc weight if they began in different parts, plus twice it if in the same part": any two parts a and b
  pub both-fall : (a b : ℕ) → (a ≡ b → ⊥) → OneOf a b (part p u) → OneOf a b (part p v) → fall g p (both a b p u v) ≡ both_fall g a b p u v
  unfolding both both_fall
  both-fall a b d (inl eu) (inl ev) =
      let s = eu ∙ sym ev in
      rw (eq-eqb (part p u) (part p v) s, eq-eqb (part p u) a eu, eq-eqb (part p v) a ev) (same-fall b s (λ r. d (sym eu ∙ r)))
  both-fall a b d (inr eu) (inr ev) =
      let s = eu ∙ sym ev in
      rw (eq-eqb (part p u) (part p v) s, ne_eqb (part p u) a (λ r. d (sym r ∙ eu)), ne_eqb (part p v) a (λ r. d (sym r ∙ ev))) (same-fall a s (λ r. d (sym r ∙ eu)))
  both-fall a b d (inl eu) (inr ev) =
      let s : part p u ≡ part p v → ⊥ = λ r. d (sym eu ∙ r ∙ ev) in
      rw (ne_eqb (part p u) (part p v) s, eq-eqb (part p u) a eu, ne_eqb (part p v) a (λ r. d (sym r ∙ ev)), ← eu, ← ev) (apart-fall s)
  both-fall a b d (inr eu) (inl ev) =
      let s : part p u ≡ part p v → ⊥ = λ r. d (sym ev ∙ sym r ∙ eu) in
      rw (ne_eqb (part p u) (part p v) s, ne_eqb (part p u) a (λ r. d (sym r ∙ eu)), eq-eqb (part p v) a ev, ← eu, ← ev) (apart-fall s)

  -- the same of labels 0 and 1, as FM has them
  pub two-parts-fall : part p u < 2 → part p v < 2 → fall g p (two_moves p u (1 - part p u) v (1 - part p v)) ≡ both_fall g 0 1 p u v
  unfolding both
  two-parts-fall bu bv = rw (← across-two (part p u) bu, ← across-two (part p v) bv) (both-fall 0 1 (λ e. omega arith) (one_of_two (part p u) bu) (one_of_two (part p v) bv))

-- One law for each way in which the Rust panics (document 01, "KL"): other than two labels, a pass without a swap, and a part with no unlocked vertex left. Assumes nothing.
use mathlib.Core.Path.{◌≡◌, refl, sym, ap, ◌∙◌}
use mathlib.Core.Bool.{true, false, not, ◌||◌}
use mathlib.Core.List.{List}
use mathlib.Core.Logic.{◌⊎◌, inl, inr, ⊎_elim}
use mathlib.Core.Option.{Option, none, some}
use Prim.Native.Nat.{ℕ, zero, suc, ◌+◌, ◌-◌, ◌<◌}
use native.Mathlib.Omega.{arith}
use lib.ListN.{length}
use lib.Dec.{eqb}
use borrow.Author.Tests.{eq-eqb, ne_eqb}
use Rattle.lists.proofs.Bools.{or-true}
use Rattle.imbalance.specs.Limit.{label_above}
use Rattle.topology.specs.Rule.{graph_number}
use Rattle.topology.specs.Cut.{cut}
use Rattle.kernighan_lin_pass.specs.Gain.{added, updated, largest}
use Rattle.kernighan_lin_pass.specs.Pass.{Terms, Swap, State, start, pair, after, walk, most, pass}
use Rattle.kernighan_lin_pass.proofs.Pairs.{pair-one-out, pair-two-out}
use Rattle.kernighan_lin_pass.proofs.Walks.{walk_none, walk-stop, walk_step}
use Rattle.kernighan_lin.specs.Run.{run}
use Rattle.topology.specs.Given.{graph_of}
use Rattle.kernighan_lin.specs.Entry.{Given, Lent, different, mislabelled, number_of, number, terms_of, run_of, report_of, refused, left_by, answer, left, Refined}
use Rattle.kernighan_lin.specs.declared.Report.{Report}
use Rattle.kernighan_lin.proofs.Running.{run_ends}
use Rattle.kernighan_lin.proofs.Entering.{same-lent}

-- other than two labels: number 6, and nothing is changed
pub other-labels-refused : (p : Given) (l : Lent) (r : Report) (k : Lent) → Refined p l r k → graph_number (length l.labels) p.weights (graph_of p) ≡ 0 → (different l.labels ≡ 2 → ⊥) → (r ≡ refused 6) × (k ≡ l)
unfolding answer left number_of mislabelled
other-labels-refused p l r k d z ne =
    let t : label_above 15 l.labels || not (eqb (different l.labels) 2) ≡ true = rw (ne_eqb (different l.labels) 2 ne) (or-true (label_above 15 l.labels)) in
    let n : number p l ≡ 6 = rw (z, t) in
    (d.answered ∙ rw n, same-lent (d.labels ∙ rw n) (d.gains ∙ rw n) (d.locks ∙ rw n) (d.swaps ∙ rw n))

module _ (s : Terms) where
  -- a part with no unlocked vertex left: the pass ends in the state that it is in
  pub first-part-out : (k : ℕ) (st : State) → largest s.movable s.first true st.labels (added s.graph st.labels st.gains) st.locks ≡ none → walk s k st ≡ st
  first-part-out k st e = walk-stop s k st (pair-one-out s st.labels st.gains st.locks e)

  pub second-part-out : (k v : ℕ) (st : State)
      → largest s.movable s.first true st.labels (added s.graph st.labels st.gains) st.locks ≡ some v
      → largest s.movable s.first false st.labels (updated s.graph st.labels v (added s.graph st.labels st.gains)) st.locks ≡ none
      → walk s k st ≡ st
  second-part-out k v st e f = walk-stop s k st (pair-two-out s st.labels st.gains st.locks v e f)

  -- however a pass ends, the swaps that it made only add up
  pub made-grows : (k : ℕ) (st : State) → (walk s k st ≡ st) ⊎ (st.made < (walk s k st).made)
  unfolding after
  made-grows zero st = inl (walk_none s 0 st refl)
  made-grows (suc k) st = go (pair s st.labels st.gains st.locks) refl (made-grows k)
    where
      go : (o : Option Swap) → pair s st.labels st.gains st.locks ≡ o → ((u : State) → (walk s k u ≡ u) ⊎ (u.made < (walk s k u).made)) → (walk s (suc k) st ≡ st) ⊎ (st.made < (walk s (suc k) st).made)
      go none e ih = inl (walk-stop s (suc k) st e)
      go (some t) e ih =
          ⊎_elim
          (λ (q : walk s k (after s st t) ≡ after s st t). inr (rw (walk_step s k st t e, q) (omega arith)))
          (λ (q : st.made + 1 < (walk s k (after s st t)).made). inr (rw (walk_step s k st t e) (omega arith)))
          (ih (after s st t))

  -- a pass without a swap: the labels stay, and the run ends with 1
  pub swapless-pass : (w : ℕ) (p : List ℕ) → (walk s (most s w p) (start s p)).made ≡ 0 → pass s w p ≡ p
  unfolding pass start
  swapless-pass w p z =
      ⊎_elim
      (λ (q : walk s (most s w p) (start s p) ≡ start s p). ap (λ (x : State). x.kept) q)
      (λ (q : 0 < (walk s (most s w p) (start s p)).made). absurd (omega arith))
      (made-grows (most s w p) (start s p))

  pub swapless-run : (w k i : ℕ) (p : List ℕ) → (walk s (most s w p) (start s p)).made ≡ 0 → run s w (suc k) i p ≡ record { end = 1; passes = i + 1; labels = p }
  swapless-run w k i p z =
      let q = swapless-pass w p z in
      run_ends s w k i p (rw q (omega arith)) ∙ ap (λ (x : List ℕ). record { end = 1; passes = i + 1; labels = x }) q

-- the call whose first pass makes no swap: number 0, end 1, one pass, and the labels as they were
pub swapless-call : (p : Given) (l : Lent) (r : Report) (k : Lent) → Refined p l r k → number p l ≡ 0 → 0 < p.settings.passes → (walk (terms_of p l) (most (terms_of p l) p.settings.swaps l.labels) (start (terms_of p l) l.labels)).made ≡ 0
    → (r.number ≡ 0) × (r.end ≡ 1) × (r.passes ≡ 1) × (r.last ≡ r.first) × (k.labels ≡ l.labels)
unfolding answer left report_of left_by run_of
swapless-call p l r k d n few z =
    let v = eq-eqb (number p l) 0 n in
    let more : p.settings.passes ≡ suc (p.settings.passes - 1) = omega arith in
    let e : run (terms_of p l) p.settings.swaps p.settings.passes 0 l.labels ≡ record { end = 1; passes = 0 + 1; labels = l.labels } =
    ap (λ (m : ℕ). run (terms_of p l) p.settings.swaps m 0 l.labels) more ∙ swapless-run (terms_of p l) p.settings.swaps (p.settings.passes - 1) 0 l.labels z in
    let a : r ≡ record { number = 0; end = 1; passes = 1; first = cut (graph_of p) l.labels; last = cut (graph_of p) l.labels } = d.answered ∙ rw v (rw e) in
    (ap (λ (x : Report). x.number) a, ap (λ (x : Report). x.end) a, ap (λ (x : Report). x.passes) a, ap (λ (x : Report). x.last) a ∙ sym (ap (λ (x : Report). x.first) a), d.labels ∙ rw v (rw e))

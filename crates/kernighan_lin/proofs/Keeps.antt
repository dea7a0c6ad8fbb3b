-- Each swap keeps the count of blocks in each part, and with equal weights the loads; so do a pass and the run. Assumes nothing.
use mathlib.Core.Path.{◌≡◌, refl, sym, ap, ◌∙◌}
use mathlib.Core.Bool.{Bool, true, false, cond, ◌||◌}
use mathlib.Core.List.{List}
use mathlib.Core.Option.{Option, none, some}
use Prim.Native.Nat.{ℕ, zero, suc, ◌+◌, ◌<◌}
use native.Mathlib.Omega.{arith}
use lib.ListN.{length, get_or, set, length-set}
use lib.Seq.{get_or-set_same, get_or-set_other}
use lib.Dec.{ltb, eqb}
use borrow.Author.Tests.{eqb-true, eqb-false, ltb-true, ltb-false}
use Rattle.lists.specs.Sum.{sum, weigh}
use Rattle.lists.proofs.Totals.{sum-change}
use Rattle.imbalance.specs.Load.{part, load}
use Rattle.topology.specs.Cut.{cut}
use Rattle.kernighan_lin_pass.specs.Pass.{Terms, Swap, State, swapped, start, pair, after, walk, pass}
use Rattle.kernighan_lin_pass.proofs.Swaps.{length-swapped}
use Rattle.kernighan_lin_pass.proofs.Walks.{walk_none, walk-stop, walk_step, pair-below}
use Rattle.kernighan_lin.specs.Run.{run}
use Rattle.kernighan_lin.proofs.Running.{run_on, run_ends, run_out}

-- the weights f of the vertices in part c, summed
abbrev pub part_sum : (ℕ → ℕ) → ℕ → List ℕ → ℕ
part_sum f c p = sum (length p) (λ v. weigh (eqb (part p v) c) (f v))

-- how many blocks are in part c
abbrev pub blocks : ℕ → List ℕ → ℕ
blocks c p = part_sum (λ v. 1) c p

-- two vertices of equal weight
pub swap_holds : (f : ℕ → ℕ) (c : ℕ) (p : List ℕ) (t : Swap) → t.one < length p → t.two < length p → f t.one ≡ f t.two → part_sum f c (swapped p t) ≡ part_sum f c p
unfolding swapped
swap_holds f c p t one two e =
    let n = length p in
    let long : length (set (set p t.one (part p t.two)) t.two (part p t.one)) ≡ n = length-set (set p t.one (part p t.two)) t.two (part p t.one) ∙ length-set p t.one (part p t.two) in
    let a = sum-change n t.one (counted middle) (counted p) one (λ x ne. rw (get_or-set_other p t.one x (part p t.two) 0 (λ q. ne (sym q)))) in
    let b = sum-change n t.two (counted last) (counted middle) two (λ x ne. rw (get_or-set_other middle t.two x (part p t.one) 0 (λ q. ne (sym q)))) in
    rw long (omega (arith, rw at_one at a, rw (at-two, still) at b, e₁, e₂))
  where
    middle : List ℕ
    middle = set p t.one (part p t.two)

    last : List ℕ
    last = set middle t.two (part p t.one)

    counted : List ℕ → ℕ → ℕ
    counted q v = weigh (eqb (part q v) c) (f v)

    at_one : part middle t.one ≡ part p t.two
    at_one = get_or-set_same p t.one (part p t.two) 0 one

    at-two : part last t.two ≡ part p t.one
    at-two = get_or-set_same middle t.two (part p t.one) 0 (rw (length-set p t.one (part p t.two)) two)

    still : part middle t.two ≡ part p t.two
    still = go (eqb t.two t.one) refl
      where
        go : (b : Bool) → eqb t.two t.one ≡ b → part middle t.two ≡ part p t.two
        go true q = ap (part middle) (eqb-true t.two t.one q) ∙ at_one
        go false q = get_or-set_other p t.one t.two (part p t.two) 0 (eqb-false t.two t.one q)

    e₁ : weigh (eqb (part p t.two) c) (f t.one) ≡ weigh (eqb (part p t.two) c) (f t.two)
    e₁ = ap (weigh (eqb (part p t.two) c)) e

    e₂ : weigh (eqb (part p t.one) c) (f t.one) ≡ weigh (eqb (part p t.one) c) (f t.two)
    e₂ = ap (weigh (eqb (part p t.one) c)) e

-- what every swap keeps
module _ (P : List ℕ → Type 0) (keep : (p : List ℕ) (t : Swap) → t.one < length p → t.two < length p → P p → P (swapped p t)) (s : Terms) where
  choose : (b : Bool) (p q : List ℕ) → P p → P q → P (cond b p q)
  choose true p q x y = x
  choose false p q x y = y

  walk-keeps : (k : ℕ) (st : State) → P st.labels → P st.kept → P (walk s k st).kept
  unfolding after
  walk-keeps zero st x y = rw (walk_none s 0 st refl) y
  walk-keeps (suc k) st x y = go (pair s st.labels st.gains st.locks) refl (walk-keeps k)
    where
      go : (o : Option Swap) → pair s st.labels st.gains st.locks ≡ o → ((u : State) → P u.labels → P u.kept → P (walk s k u).kept) → P (walk s (suc k) st).kept
      go none e ih = rw (walk-stop s (suc k) st e) y
      go (some t) e ih =
          let b = pair-below s st.labels st.gains st.locks t e in
          let l = keep st.labels t b.0 b.1 x in
          rw (walk_step s k st t e)
          (ih (after s st t) l (choose (eqb st.made 0 || ltb (cut s.graph (swapped st.labels t)) (cut s.graph st.kept)) (swapped st.labels t) st.kept l y))

  pub pass-keeps : (w : ℕ) (p : List ℕ) → P p → P (pass s w p)
  unfolding pass start
  pass-keeps w p x = walk-keeps _ (start s p) x x

  pub run-keeps : (w k i : ℕ) (p : List ℕ) → P p → P (run s w k i p).labels
  run-keeps w zero i p x = rw (run_out s w 0 i p refl) x
  run-keeps w (suc k) i p x = go (ltb (cut s.graph (pass s w p)) (cut s.graph p)) refl (run-keeps w k (i + 1) (pass s w p) (pass-keeps w p x))
    where
      go : (b : Bool) → ltb (cut s.graph (pass s w p)) (cut s.graph p) ≡ b → P (run s w k (i + 1) (pass s w p)).labels → P (run s w (suc k) i p).labels
      go true e ih = rw (run_on s w k i p (ltb-true (cut s.graph (pass s w p)) (cut s.graph p) e)) ih
      go false e ih = rw (run_ends s w k i p (ltb-false (cut s.graph (pass s w p)) (cut s.graph p) e)) (pass-keeps w p x)

module _ (s : Terms) (w k i : ℕ) (p : List ℕ) (c : ℕ) where
  -- "each swap keeps the count of blocks in each part"
  pub run-keeps-blocks : blocks c (run s w k i p).labels ≡ blocks c p
  run-keeps-blocks = run-keeps (λ q. blocks c q ≡ blocks c p) (λ q t one two e. swap_holds (λ v. 1) c q t one two refl ∙ e) s w k i p refl

  -- "and with equal weights the loads"
  pub run-keeps-loads : (ws : List ℕ) (x : ℕ) → ((v : ℕ) → v < length p → get_or ws v 0 ≡ x) → load ws (run s w k i p).labels c ≡ load ws p c
  unfolding load
  run-keeps-loads ws x same =
      (run-keeps (λ q. (length q ≡ length p) × (part_sum (λ v. get_or ws v 0) c q ≡ part_sum (λ v. get_or ws v 0) c p))
      (λ q t one two e. (let l = e.0 in (length-swapped q t ∙ l, swap_holds (λ v. get_or ws v 0) c q t one two (same t.one (omega arith) ∙ sym (same t.two (omega arith))) ∙ e.1)))
      s w k i p (refl, refl)).1

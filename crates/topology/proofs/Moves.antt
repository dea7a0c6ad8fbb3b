-- The laws of a move: a vertex's gain is the exact fall of the cut (document 01, "Gain of a vertex to a target part"). Assumes nothing.
use mathlib.Core.Path.{◌≡◌, refl, sym, ap, ap₂, ◌∙◌}
use mathlib.Core.Bool.{Bool, true, false, not, cond, ◌&&◌}
use mathlib.Core.List.{List}
use Prim.Native.Nat.{ℕ, ◌+◌, ◌-◌, ◌≤◌, ◌<◌}
use native.Mathlib.Omega.{arith}
use lib.Dec.{ltb, eqb}
use lib.IntN.{sub_ℕ}
use lib.ListN.{length, get_or, set, length-set}
use lib.Seq.{get_or-set_same, get_or-set_other}
use borrow.Author.Tests.{eq-eqb, ne_eqb, eqb-true, eqb-false}
use Rattle.lists.specs.Fill.{table}
use Rattle.lists.specs.Sum.{sum, between, weigh}
use Rattle.lists.proofs.Bools.{weigh-weigh}
use Rattle.lists.proofs.Totals.{sum-ext, sum-swap, sum-weigh, sum-only, sum-change}
use Rattle.lists.proofs.Differences as D
use Rattle.lists.proofs.Tables.{table_at, table-set}
use Rattle.imbalance.specs.Load.{part, load}
use Rattle.imbalance.specs.inner.Moved.{loads_moved}
use Rattle.topology.specs.Graph.{Graph, first, past, neighbour, weight, arcs, into, gain, joins}
use Rattle.topology.specs.Rule.{Symmetric}
use Rattle.topology.specs.Cut.{row_cut, cut, fall}
use Rattle.topology.proofs.Pairs.{pair_row, pair_cut, pair-move}

module _ (n : ℕ) (g : Graph) (u : ℕ) (below : (e : ℕ) → first g u ≤ e → e < past g u → neighbour g e < n) where
  -- a row's arcs, counted vertex by vertex
  pub arcs-by : (t : ℕ → Bool) → arcs g u t ≡ sum n (λ x. weigh (t x) (joins g u x))
  unfolding arcs between joins
  arcs-by t =
      let m = past g u - first g u in
      let to : ℕ → ℕ = λ i. neighbour g (first g u + i) in
      let wt : ℕ → ℕ = λ i. weight g (first g u + i) in
      sym
      (sum-ext n (λ x. weigh (t x) (sum m (λ i. weigh (eqb (to i) x) (wt i)))) (λ x. sum m (λ i. weigh (t x) (weigh (eqb (to i) x) (wt i)))) (λ x l. sym (sum-weigh m (t x) (λ i. weigh (eqb (to i) x) (wt i))))
      ∙ sum-swap n m (λ x i. weigh (t x) (weigh (eqb (to i) x) (wt i)))
      ∙ sum-ext m (λ i. sum n (λ x. weigh (t x) (weigh (eqb (to i) x) (wt i)))) (λ i. weigh (t (to i)) (wt i))
      (λ i l.
      sum-ext n (λ x. weigh (t x) (weigh (eqb (to i) x) (wt i))) (λ x. weigh (eqb (to i) x) (weigh (t x) (wt i))) (λ x k. weigh-weigh (t x) (eqb (to i) x) (wt i))
      ∙ sum-only n (to i) (λ x. weigh (t x) (wt i)) (below (first g u + i) (omega arith) (omega arith))))

module _ (g : Graph) (p : List ℕ) where
  pub cut_by : Symmetric (length p) g → cut g p ≡ pair_cut (length p) (joins g) (part p)
  unfolding cut arcs
  cut_by ok = sum-ext (length p) (row_cut g p) (λ u. sum (length p) (pair_row (length p) (joins g) (part p) u)) (λ u l. row u l)
    where
      row : (u : ℕ) → u < length p → row_cut g p u ≡ sum (length p) (pair_row (length p) (joins g) (part p) u)
      row u l = arcs-by (length p) g u (λ e a b. ok.below u e l a b) (λ x. ltb x u && not (eqb (part p x) (part p u)))

  pub into-by : Symmetric (length p) g → (u t : ℕ) → u < length p → into g p u t ≡ sum (length p) (λ x. weigh (eqb (part p x) t) (joins g u x))
  unfolding into
  into-by ok u t l = arcs-by (length p) g u (λ e a b. ok.below u e l a b) (λ x. eqb (part p x) t)

-- v goes to part t
pub cut-move :
    (g : Graph) (p : List ℕ) (v t : ℕ)
    → Symmetric (length p) g
    → v < length p
    → cut g (set p v t) + into g p v t ≡ cut g p + into g p v (part p v)
cut-move g p v t ok l =
    let n = length p in
    let long = length-set p v t in
    let a : cut g (set p v t) ≡ pair_cut n (joins g) (part (set p v t)) = rw long at (cut_by g (set p v t) (rw long ok)) in
    let here : part (set p v t) v ≡ t = get_or-set_same p v t 0 l in
    let m = pair-move n (joins g) (part p) (part (set p v t)) v l (λ u k. ok.equal u v k l) (ok.loopless v l) (λ x ne. get_or-set_other p v x t 0 (λ e. ne (sym e))) in
    let b : pair_cut n (joins g) (part (set p v t)) + sum n (λ x. weigh (eqb (part p x) t) (joins g v x)) ≡ pair_cut n (joins g) (part p) + sum n (λ x. weigh (eqb (part p x) (part p v)) (joins g v x)) = rw here at m in
    omega (arith, a, b, cut_by g p ok, into-by g p ok v t l, into-by g p ok v (part p v) l)

-- v goes to part t: what x has into part c
pub into-move :
    (g : Graph) (p : List ℕ) (v t x c : ℕ)
    → Symmetric (length p) g
    → v < length p
    → x < length p
    → into g (set p v t) x c + weigh (eqb (part p v) c) (joins g x v) ≡ into g p x c + weigh (eqb t c) (joins g x v)
into-move g p v t x c ok lv lx =
    let n = length p in
    let long = length-set p v t in
    let here : part (set p v t) v ≡ t = get_or-set_same p v t 0 lv in
    let a : into g (set p v t) x c ≡ sum n (λ y. weigh (eqb (part (set p v t) y) c) (joins g x y)) = rw long at (into-by g (set p v t) (rw long ok) x c (rw long lx)) in
    let m = sum-change n v (λ y. weigh (eqb (part (set p v t) y) c) (joins g x y)) (λ y. weigh (eqb (part p y) c) (joins g x y)) lv (λ y ne. rw (get_or-set_other p v y t 0 (λ e. ne (sym e)))) in
    omega (arith, a, into-by g p ok x c lx, rw here at m)

-- v goes to part t: the load of part c
pub load-move :
    (ws p : List ℕ) (v t c : ℕ)
    → v < length p
    → load ws (set p v t) c + weigh (eqb (part p v) c) (get_or ws v 0) ≡ load ws p c + weigh (eqb t c) (get_or ws v 0)
unfolding load
load-move ws p v t c lv =
    let n = length p in
    let here : part (set p v t) v ≡ t = get_or-set_same p v t 0 lv in
    let m = sum-change n v (λ y. weigh (eqb (part (set p v t) y) c) (get_or ws y 0)) (λ y. weigh (eqb (part p y) c) (get_or ws y 0)) lv (λ y ne. rw (get_or-set_other p v y t 0 (λ e. ne (sym e)))) in
    rw (length-set p v t) (rw here at m)

-- a vertex's weight stands in its part's load
pub load-holds : (ws p : List ℕ) (v : ℕ) → v < length p → get_or ws v 0 ≤ load ws p (part p v)
load-holds ws p v lv =
    let m = rw (eq-eqb (part p v) (part p v) refl, ne_eqb (part p v + 1) (part p v) (λ r. omega arith)) at (load-move ws p v (part p v + 1) (part p v) lv) in
    omega arith

-- v goes to another part t: the loads of the sixteen parts
pub loads-move :
    (ws p : List ℕ) (v t : ℕ)
    → v < length p
    → part p v < 16
    → t < 16
    → (part p v ≡ t → ⊥)
    → loads_moved (table 16 (load ws p)) (part p v) t (get_or ws v 0) ≡ table 16 (load ws (set p v t))
loads-move ws p v t here lo lt apart =
    ap₂ (λ (l : List ℕ) (x : ℕ). set l t x) down (ap (λ (x : ℕ). x + w) (table_at 16 t 0 F lt)) ∙ table-set 16 t (F t + w) M H lt up rest
  where
    old : ℕ
    old = part p v

    w : ℕ
    w = get_or ws v 0

    F : ℕ → ℕ
    F = load ws p

    H : ℕ → ℕ
    H = load ws (set p v t)

    M : ℕ → ℕ
    M x = cond (eqb x old) (F old - w) (F x)

    down : set (table 16 F) old (get_or (table 16 F) old 0 - w) ≡ table 16 M
    down =
        table-set 16 old (get_or (table 16 F) old 0 - w) F M lo (rw (table_at 16 old 0 F lo, eq-eqb old old refl))
        (λ j ne. rw (ne_eqb j old ne))

    up : F t + w ≡ H t
    up = let m = rw (ne_eqb old t apart, eq-eqb t t refl) at (load-move ws p v t t here) in omega arith

    rest : (j : ℕ) → (j ≡ t → ⊥) → M j ≡ H j
    rest j ne = go (eqb j old) refl
      where
        go : (b : Bool) → eqb j old ≡ b → cond b (F old - w) (F j) ≡ H j
        go true e =
            let q = eqb-true j old e in
            let m = rw (eq-eqb old old refl, ne_eqb t old (λ r. apart (sym r))) at (load-move ws p v t old here) in
            rw q (omega arith)
        go false e =
            let q = eqb-false j old e in
            let m = rw (ne_eqb old j (λ r. q (sym r)), ne_eqb t j (λ r. ne (sym r))) at (load-move ws p v t j here) in
            omega arith

-- v goes to part t: the gain of another vertex x to part c rises by what joins x and v where t is c and where v was in x's part, and falls by it where v was in c and where t is x's part
pub gain-move :
    (g : Graph) (p : List ℕ) (v t x c : ℕ)
    → Symmetric (length p) g
    → v < length p
    → x < length p
    → (x ≡ v → ⊥)
    → gain g (set p v t) x c
    ≡ sub_ℕ
    (into g p x c + weigh (eqb t c) (joins g x v) + weigh (eqb (part p v) (part p x)) (joins g x v))
    (into g p x (part p x) + weigh (eqb (part p v) c) (joins g x v) + weigh (eqb t (part p x)) (joins g x v))
unfolding gain
gain-move g p v t x c ok lv lx ne =
    let a = into-move g p v t x c ok lv lx in
    let b = into-move g p v t x (part p x) ok lv lx in
    let j = joins g x v in
    rw (get_or-set_other p v x t 0 ne)
    (D.same (into g (set p v t) x c) (into g (set p v t) x (part p x))
    (into g p x c + weigh (eqb t c) j + weigh (eqb (part p v) (part p x)) j)
    (into g p x (part p x) + weigh (eqb (part p v) c) j + weigh (eqb t (part p x)) j)
    (omega arith))

-- "It is the exact fall of the cut, negative, zero or positive": the gain of v to part t is the cut before v goes there less the cut after.
pub gain-is-the-fall-of-the-cut :
    (g : Graph) (p : List ℕ) (v t : ℕ)
    → Symmetric (length p) g
    → v < length p
    → gain g p v t ≡ fall g p (set p v t)
unfolding gain
gain-is-the-fall-of-the-cut g p v t ok l =
    let m = cut-move g p v t ok l in
    D.same (into g p v t) (into g p v (part p v)) (cut g p) (cut g (set p v t)) (omega arith)

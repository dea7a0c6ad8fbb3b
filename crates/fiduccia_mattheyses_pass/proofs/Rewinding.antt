-- The rewind: each record puts its vertex back into the part that it was in before the move, and the loads follow. Assumes nothing.
use mathlib.Core.Path.{◌≡◌, refl, sym, ap, ap₂, ◌∙◌}
use mathlib.Core.List.{List, [], ◌∷◌, ◌++◌}
use Prim.Native.Nat.{ℕ, zero, suc, ◌+◌, ◌-◌, ◌≤◌, ◌<◌}
use native.Mathlib.Omega.{arith}
use lib.ListN.{length, get_or, set, take, drop, length-set, length-drop, get_or-append}
use lib.Seq.{split_at, take_all, take-suc, get_or-take, get_or-drop, get_or-set_same}
use Rattle.lists.specs.Fill.{table}
use Rattle.lists.proofs.Tables.{table_at, length-table}
use Rattle.imbalance.specs.Load.{part, load}
use Rattle.imbalance.specs.inner.Moved.{loads_moved}
use Rattle.imbalance.proofs.PartLoads.{load-within}
use Rattle.fiduccia_mattheyses_choice.specs.Choice.{other, flip}
use Rattle.fiduccia_mattheyses_pass.specs.Pass.{flips}
use Rattle.fiduccia_mattheyses_pass.specs.inner.Standing.{Apart}
use Rattle.fiduccia_mattheyses_pass.proofs.Backs.{two-flips, flips-append, flips-other, flips-long, flips-more, rewound}
use Rattle.topology.proofs.Moves.{load-holds, loads-move}
use Rattle.fiduccia_mattheyses_pass.specs.declared.Move.{Move}
use Rattle.fiduccia_mattheyses_pass.specs.Pass.{no_move}
use Rattle.fiduccia_mattheyses_pass.specs.inner.Steps.{records, undone, UndoAsked, UndoDone, RewindAsked}
use Rattle.fiduccia_mattheyses_pass.proofs.Walking.{length-records, recorded-long}

-- the record of the move at place i
records-at : (p vs : List ℕ) (i : ℕ) → i < length vs → get_or (records p vs) i no_move ≡ record { vertex = get_or vs i 0; part = part (flips p (take i vs)) (get_or vs i 0) }
unfolding records flips
records-at p [] i l = absurd (omega arith)
records-at p (v ∷ vs) zero l = refl
records-at p (v ∷ vs) (suc i) l = records-at (flip p v) vs i (omega arith)

flips-one : (x : List ℕ) (u : ℕ) (us : List ℕ) → flips x (u ∷ us) ≡ flips (flip x u) us
unfolding flips
flips-one x u us = refl

-- a place within a list's first k is below k
take_less : {A : Type 0} (k : ℕ) (l : List A) (i : ℕ) → i < length (take k l) → i < k
take_less zero l i h = h
take_less (suc k) [] i h = absurd (omega arith)
take_less (suc k) (x ∷ l) zero h = omega arith
take_less (suc k) (x ∷ l) (suc i) h = let r = take_less k l i (omega arith) in omega arith

-- a vertex moved once is in the other part afterwards
moved-once : (p vs : List ℕ) (i : ℕ) → Apart vs → i < length vs → get_or vs i 0 < length p → part (flips p vs) (get_or vs i 0) ≡ other (part (flips p (take i vs)) (get_or vs i 0))
unfolding flip
moved-once p vs i apart l inside =
    let v = get_or vs i 0 in
    let q = flips p (take i vs) in
    let a : flips p vs ≡ flips (flip q v) (drop (suc i) vs) = ap (flips p) (split_at vs i 0 l) ∙ flips-append p (take i vs) (v ∷ drop (suc i) vs) ∙ flips-one q v (drop (suc i) vs) in
    ap (λ (x : List ℕ). part x v) a
    ∙ flips-other (flip q v) (drop (suc i) vs) v
    (λ j k e. (let d = length-drop (suc i) vs in apart i (suc i + j) (omega arith) (omega arith) (sym (sym (get_or-drop (suc i) vs j 0) ∙ e))))
    ∙ get_or-set_same q v (other (part q v)) 0 (let f = flips-long p (take i vs) in omega arith)

pub undone-none : (moves : List Move) (kept : ℕ) (labels : List ℕ) → labels ≡ undone moves kept (kept - kept) labels
unfolding undone
undone-none moves kept labels = let r : kept - kept ≡ 0 = omega arith in rw r

pub undone-long : (moves : List Move) (kept k : ℕ) (labels : List ℕ) → length (undone moves kept k labels) ≡ length labels
unfolding undone
undone-long moves kept zero labels = refl
undone-long moves kept (suc k) labels = length-set (undone moves kept k labels) _ _ ∙ undone-long moves kept k labels

other-twice : (q : ℕ) → q < 2 → other (other q) ≡ q
other-twice q l = omega arith

module _ (weights labels : List ℕ) (moves : List Move) (loads : List ℕ) (kept made : ℕ) (a : RewindAsked weights labels moves loads kept made) where
  abbrev vs : List ℕ
  vs = a.vs

  -- the labels put back by k records
  abbrev back_by : ℕ → List ℕ
  back_by k = flips labels (take k (drop kept vs))

  module _ (k : ℕ) (lt : k < made - kept) where
    abbrev v : ℕ
    v = get_or vs (kept + k) 0

    abbrev q : ℕ
    q = part (flips a.p (take (kept + k) vs)) v

    in-vs : kept + k < length vs
    in-vs = let m = a.made_is in omega arith

    record_is : get_or moves (kept + k) no_move ≡ record { vertex = v; part = q }
    record_is =
        ap (λ (l : List Move). get_or l (kept + k) no_move) a.recorded_are
        ∙ get_or-append (records a.p vs) (drop (length vs) a.before) no_move (kept + k) (let e = length-records a.p vs in let h = in-vs in omega arith)
        ∙ records-at a.p vs (kept + k) in-vs

    q-two : q < 2
    q-two = two-flips a.p (take (kept + k) vs) a.two_labels v

    v-inside : v < length a.p
    v-inside = a.inside (kept + k) in-vs

    now-other : part (back_by k) v ≡ other q
    now-other =
        flips-other labels (take k (drop kept vs)) v
        (λ i l e. (a.apart (kept + i) (kept + k) (below i l) in-vs (sym (get_or-drop kept vs i 0) ∙ sym (get_or-take k (drop kept vs) i 0 (less i l)) ∙ e)))
        ∙ ap (λ (l : List ℕ). part l v) a.labelled
        ∙ moved-once a.p vs (kept + k) a.apart in-vs v-inside
      where
        less : (i : ℕ) → i < length (take k (drop kept vs)) → i < k
        less i l = take_less k (drop kept vs) i l

        below : (i : ℕ) → i < length (take k (drop kept vs)) → kept + i < kept + k
        below i l = let h = less i l in omega arith

    -- what the record says is the other part of where the vertex is
    put_back : set (back_by k) v q ≡ flip (back_by k) v
    unfolding flip
    put_back = ap (set (back_by k) v) (sym (ap other now-other ∙ other-twice q q-two))

    one_more : flip (back_by k) v ≡ back_by (suc k)
    one_more =
        sym (ap (flips labels) (take-suc (drop kept vs) k 0 (let d = length-drop kept vs in let h = in-vs in omega arith) ∙ ap (λ (x : ℕ). take k (drop kept vs) ++ (x ∷ [])) (get_or-drop kept vs k 0))
        ∙ flips-more labels (take k (drop kept vs)) v)

  -- a record below `made` is in the list
  pub at-inside : (at : ℕ) → at < made → at < length moves
  at-inside at l =
      let m = a.made_is in
      let r = ap length a.recorded_are ∙ recorded-long a.p vs a.before a.places in
      let h = a.places in
      omega arith

  undone-back : (k : ℕ) → k ≤ made - kept → undone moves kept k labels ≡ back_by k
  unfolding undone flips
  undone-back zero h = refl
  undone-back (suc k) h =
      let ih = undone-back k (omega arith) in
      let lt : k < made - kept = omega arith in
      ap₂ (λ (l : List ℕ) (m : Move). set l m.vertex m.part) ih (record_is k lt) ∙ put_back k lt ∙ one_more k lt

  -- the labels that the rewind leaves: those after the kept moves
  pub undone-kept : undone moves kept (made - kept) labels ≡ flips a.p (take kept vs)
  undone-kept =
      undone-back (made - kept) (omega arith)
      ∙ ap (flips labels) (take_all (made - kept) (drop kept vs) (let d = length-drop kept vs in let m = a.made_is in omega arith))
      ∙ ap (λ (l : List ℕ). flips l (drop kept vs)) a.labelled
      ∙ rewound a.p vs kept a.two_labels

  -- one turn at place `at`: the record read, the labels and the loads after it
  module _ (labels' : List ℕ) (back : List ℕ) (at : ℕ) (from : kept ≤ at) (upto : at < made) (so : labels' ≡ undone moves kept (at - kept) labels) (loaded : back ≡ table 16 (load weights labels')) (m : Move) (read : m ≡ get_or moves at no_move) where
    abbrev k' : ℕ
    k' = at - kept

    lt' : at - kept < made - kept
    lt' = omega arith

    at-is : kept + (at - kept) ≡ at
    at-is = omega arith

    m-is : m ≡ record { vertex = v k' lt'; part = q k' lt' }
    m-is = read ∙ ap (λ (i : ℕ). get_or moves i no_move) (sym at-is) ∙ record_is k' lt'

    now : labels' ≡ back_by k'
    now = so ∙ undone-back k' (omega arith)

    long-now : length labels' ≡ length a.p
    long-now = ap length now ∙ flips-long labels (take k' (drop kept vs)) ∙ ap length a.labelled ∙ flips-long a.p vs

    two-now : (x : ℕ) → part labels' x < 2
    two-now x = rw now (two-flips labels (take k' (drop kept vs)) (λ y. rw a.labelled (two-flips a.p vs a.two_labels y)) x)

    abbrev i : ℕ
    i = m.vertex

    inside : (i < length labels') × (i < length weights)
    inside =
        let f = ap (λ (x : Move). x.vertex) m-is in
        let g = v-inside k' lt' in
        let l = long-now in
        let w = a.weighed in
        (omega arith, omega arith)

    -- the vertex goes back to the other part
    back_is : m.part ≡ other (part labels' i)
    back_is =
        let f = ap (λ (x : Move). x.vertex) m-is in
        let g = ap (λ (x : Move). x.part) m-is in
        let o : part labels' i ≡ other (q k' lt') = ap₂ part now f ∙ now-other k' lt' in
        let h = q-two k' lt' in
        omega arith

    -- what taking this move back asks
    pub turn-asked : UndoAsked weights labels' back m
    turn-asked =
        let t = two-now i in
        let s = inside in
        let at_own = ap (λ (l : List ℕ). get_or l (part labels' i) 0) loaded ∙ table_at 16 (part labels' i) 0 (load weights labels') (omega arith) in
        let b = back_is in
        let at_before = ap (λ (l : List ℕ). get_or l m.part 0) loaded ∙ table_at 16 m.part 0 (load weights labels') (omega arith) in
        let w = load-within weights labels' (a.weighed ∙ sym long-now) m.part in
        let lim = a.light in
        let h = load-holds weights labels' i s.0 in
        record {
          in_labels = s.0;
          in_weights = s.1;
          two_labels = t;
          before = b;
          sixteen = ap length loaded ∙ length-table 16 (load weights labels');
          weight_within = omega arith;
          within = omega arith;
        }

    one-label-more : set labels' i m.part ≡ undone moves kept (at + 1 - kept) labels
    unfolding undone
    one-label-more =
        let r : at + 1 - kept ≡ suc (at - kept) = omega arith in
        ap₂ (λ (l : List ℕ) (x : Move). set l x.vertex x.part) so (read ∙ ap (λ (j : ℕ). get_or moves j no_move) (sym at-is))
        ∙ sym (rw r refl)

    -- the labels and the loads once it is taken back
    pub turn-done : (labels'' next : List ℕ) → UndoDone weights labels' back m labels'' next → (labels'' ≡ undone moves kept (at + 1 - kept) labels) × (next ≡ table 16 (load weights labels''))
    turn-done labels'' next d =
        let b = back_is in
        let t = two-now i in (
          d.labelled ∙ one-label-more,
          d.loaded
              ∙ ap (λ (l : List ℕ). loads_moved l (part labels' i) m.part (get_or weights i 0)) loaded
              ∙ loads-move weights labels' i m.part inside.0 (omega arith) (omega arith) (λ e. omega arith)
              ∙ ap (λ (l : List ℕ). table 16 (load weights l)) (sym d.labelled),
        )

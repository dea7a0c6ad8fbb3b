-- The cuts held against coupe's own words: the edge cut is what its comment says, and the lambda cut is what its code counts, which its comment exceeds by the own part of a vertex. Assumes nothing.
use mathlib.Core.Path.{◌≡◌, refl, sym, ap, ◌∙◌}
use mathlib.Core.Bool.{Bool, true, false, not, ◌&&◌, ◌||◌}
use mathlib.Core.List.{List}
use Prim.Native.Nat.{ℕ, ◌+◌, ◌-◌, ◌*◌, ◌<◌}
use native.Mathlib.Omega.{arith}
use native.Mathlib.Nat.{add-zero, zero-add, add-mul, one-mul}
use lib.ListN.{length, get_or}
use lib.Dec.{ltb, eqb}
use borrow.Author.Tests.{eq-eqb, ne_eqb, ltb-true, ltb-false}
use Rattle.lists.specs.Sum.{sum, weigh}
use Rattle.lists.proofs.Bools.{eqb-sym}
use Rattle.lists.proofs.Totals.{sum-ext, sum-add, sum-zero, sum-swap, sum-apart}
use Rattle.lists.proofs.Alls.{any-from-none}
use Rattle.imbalance.specs.Load.{part}
use Rattle.imbalance.specs.Rules.{NoneAbove}
use Rattle.topology.specs.Graph.{Graph, first, past, neighbour, joins}
use Rattle.topology.specs.Rules.{InRow, RowRules, Opposites}
use Rattle.topology.specs.Cut.{cut, touches, parts_around, lambda}
use Rattle.topology.specs.Coupe.{linking, parts_near, lambda_near, own_near, parts_with_own, lambda_counted}
use Rattle.topology.specs.Number.{edge_cut_number, lambda_cut_number, edge_cut_answer, lambda_cut_answer}
use Rattle.topology.specs.declared.CutAnswer.{CutAnswer}
use Rattle.topology.proofs.Rules.{symmetric}
use Rattle.topology.proofs.EqualOpposites.{opposites}
use Rattle.topology.proofs.Refusals.{row-rules, done-is, edge-cut-refusal, lambda-cut-refusal}
use Rattle.topology.proofs.Pairs.{pair_row, pair_cut}
use Rattle.topology.proofs.Moves.{arcs-by, cut_by}

-- a table of weights that is the same both ways: what joins different parts, counted both ways, is twice the cut
both_ways :
    (n : ℕ) (w : ℕ → ℕ → ℕ) (p : ℕ → ℕ)
    → ((u x : ℕ) → u < n → x < n → w u x ≡ w x u)
    → sum n (λ u. sum n (λ x. weigh (not (eqb (p x) (p u))) (w u x))) ≡ 2 * pair_cut n w p
both_ways n w p same =
    let a = sum-ext n _ _ (λ u l. sum-ext n _ _ (λ x k. each u x l k (ltb x u) refl (ltb u x) refl) ∙ sum-add n (λ x. pair_row n w p u x) (λ x. pair_row n w p x u)) in
    let b = sum-add n (λ u. sum n (λ x. pair_row n w p u x)) (λ u. sum n (λ x. pair_row n w p x u)) in
    let c = sum-swap n n (λ u x. pair_row n w p x u) in
    a ∙ b ∙ omega arith
  where
    each : (u x : ℕ) → u < n → x < n → (s : Bool) → ltb x u ≡ s → (t : Bool) → ltb u x ≡ t → weigh (not (eqb (p x) (p u))) (w u x) ≡ pair_row n w p u x + pair_row n w p x u
    each u x l k true e true f = let a = ltb-true x u e in let b = ltb-true u x f in absurd (omega arith)
    each u x l k true e false f = rw (e, f) (sym (add-zero (weigh (not (eqb (p x) (p u))) (w u x))))
    each u x l k false e true f = rw (e, f, same u x l k, eqb-sym (p x) (p u)) (sym (zero-add (weigh (not (eqb (p u) (p x))) (w x u))))
    each u x l k false e false f =
        let a = ltb-false x u e in
        let b = ltb-false u x f in
        let q : x ≡ u = omega arith in
        rw (e, f, q, eq-eqb (p u) (p u) refl)

-- "the edge cut of a partition is defined as the total weight of the edges that link graph nodes of different parts": on a graph that keeps rules 3 and 4 the arcs that do, two for each edge, weigh twice the cut.
pub links-twice-the-cut : (g : Graph) (p : List ℕ) → RowRules (length p) g → Opposites (length p) g → linking g p ≡ 2 * cut g p
unfolding linking
links-twice-the-cut g p rows evens =
    let n = length p in
    let ok = symmetric n g ((row-rules n g).1 rows) ((opposites n g).1 evens) in
    sum-ext n _ _ (λ u l. arcs-by n g u (λ e a b. ok.below u e l a b) (λ v. not (eqb (part p v) (part p u))))
    ∙ both_ways n (joins g) (part p) ok.equal
    ∙ ap (λ (k : ℕ). 2 * k) (sym (cut_by g p ok))

module _ (g : Graph) (p : List ℕ) (u : ℕ) (named : part p u < 16) where
  -- the parts near u are those around it, and its own where a neighbour has it
  near-around : parts_near g p u ≡ parts_around g p u + weigh (touches g p u (part p u)) 1
  unfolding parts_near parts_around
  near-around =
      sum-apart 16 (part p u) (λ t. weigh (touches g p u t) 1) named
      ∙ ap (λ (k : ℕ). k + weigh (touches g p u (part p u)) 1) (sum-ext 16 _ _ (λ t l. each t (eqb (part p u) t) refl))
    where
      each : (t : ℕ) (s : Bool) → eqb (part p u) t ≡ s → weigh (not s) (weigh (touches g p u t) 1) ≡ weigh (not (eqb t (part p u)) && touches g p u t) 1
      each t true e = rw (eqb-sym t (part p u), e)
      each t false e = rw (eqb-sym t (part p u), e)

  -- with its own part put in they are one more than those around it
  with-own : parts_with_own g p u ≡ parts_around g p u + 1
  unfolding parts_with_own parts_around
  with-own =
      sum-apart 16 (part p u) (λ t. weigh (eqb t (part p u) || touches g p u t) 1) named
      ∙ rw (eq-eqb (part p u) (part p u) refl) (ap (λ (k : ℕ). k + 1) (sum-ext 16 _ _ (λ t l. each t (eqb (part p u) t) refl)))
    where
      each : (t : ℕ) (s : Bool) → eqb (part p u) t ≡ s → weigh (not s) (weigh (eqb t (part p u) || touches g p u t) 1) ≡ weigh (not (eqb t (part p u)) && touches g p u t) 1
      each t true e = rw (eqb-sym t (part p u), e)
      each t false e = rw (eqb-sym t (part p u), e)

module _ (g : Graph) (weights p : List ℕ) (named : NoneAbove 15 p) where
  below : (u : ℕ) → u < length p → part p u < 16
  below u l = let a = named u l in omega arith

  -- The lambda cut is what coupe's code counts: the own part is put in and taken off again.
  pub lambda-as-counted : lambda_counted g weights p ≡ lambda g weights p
  unfolding lambda_counted lambda
  lambda-as-counted =
      sum-ext (length p) _ _ (λ u l. (let e = with-own g p u (below u l) in let k : parts_with_own g p u - 1 ≡ parts_around g p u = omega arith in ap (λ (k : ℕ). k * get_or weights u 0) k))

  -- What coupe's comment says is more than the lambda cut by the weight of the vertices that have a neighbour in their own part.
  pub lambda-and-own : lambda_near g weights p ≡ lambda g weights p + own_near g weights p
  unfolding lambda_near lambda own_near
  lambda-and-own =
      sum-ext (length p) _ _ (λ u l. ap (λ (k : ℕ). k * get_or weights u 0) (near-around g p u (below u l)) ∙ each (parts_around g p u) (get_or weights u 0) (touches g p u (part p u)))
      ∙ sum-add (length p) (λ u. parts_around g p u * get_or weights u 0) (λ u. weigh (touches g p u (part p u)) (get_or weights u 0))
    where
      each : (a w : ℕ) (b : Bool) → (a + weigh b 1) * w ≡ a * w + weigh b w
      each a w true = add-mul a 1 w ∙ ap (λ (k : ℕ). a * w + k) (one-mul w)
      each a w false = ap (λ (k : ℕ). k * w) (add-zero a) ∙ sym (add-zero (a * w))

  -- So the two are equal where no vertex has a neighbour in its own part.
  pub lambda-as-said :
      ((u e : ℕ) → u < length p → InRow g u e → part p (neighbour g e) ≡ part p u → ⊥)
      → lambda_near g weights p ≡ lambda g weights p
  unfolding own_near touches
  lambda-as-said none =
      let z = sum-ext (length p) (λ u. weigh (touches g p u (part p u)) (get_or weights u 0)) (λ u. 0) (λ u l. rw (any-from-none (first g u) (past g u) (λ e. eqb (part p (neighbour g e)) (part p u)) (λ e a b. ne_eqb (part p (neighbour g e)) (part p u) (none u e l (a, b))))) ∙ sum-zero (length p) in
      let q : own_near g weights p ≡ 0 = z in
      omega (arith, lambda-and-own)

-- The stand-alone edge cut that is done answers half the weight of all arcs that link vertices of different parts.
pub edge-cut-in-words : (g : Graph) (labels : List ℕ) (r : CutAnswer) → r ≡ edge_cut_answer g labels → r.number ≡ 0 → linking g labels ≡ 2 * r.cut
unfolding edge_cut_answer
edge-cut-in-words g labels r e z =
    let d = done-is (edge_cut_number g labels) (cut g labels) (rw e at z) in
    let kept = (edge-cut-refusal g labels r e).kept z in
    let c : r.cut ≡ cut g labels = ap (λ (x : CutAnswer). x.cut) e ∙ d in
    rw c (links-twice-the-cut g labels (kept 3) (kept 4))

-- The stand-alone lambda cut that is done answers what coupe's code counts, which its comment exceeds by the own parts.
pub lambda-cut-in-words :
    (g : Graph) (weights labels : List ℕ) (r : CutAnswer) → r ≡ lambda_cut_answer g weights labels → r.number ≡ 0
    → (lambda_counted g weights labels ≡ r.cut) × (lambda_near g weights labels ≡ r.cut + own_near g weights labels)
unfolding lambda_cut_answer
lambda-cut-in-words g weights labels r e z =
    let d = done-is (lambda_cut_number g weights labels) (lambda g weights labels) (rw e at z) in
    let named = (lambda-cut-refusal g weights labels r e).kept z 6 in
    let c : r.cut ≡ lambda g weights labels = ap (λ (x : CutAnswer). x.cut) e ∙ d in
    (lambda-as-counted g weights labels named ∙ sym c, rw c (lambda-and-own g weights labels named))

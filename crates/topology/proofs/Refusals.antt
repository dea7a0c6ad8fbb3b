-- The tests of numbers 1 to 5 fail exactly where the graph's rules are kept, and the numbers of a graph and of the stand-alone cuts are the smallest that apply. Assumes nothing.
use mathlib.Core.Path.{◌≡◌, refl, sym, ◌∙◌}
use mathlib.Core.Bool.{Bool, true, false, not, cond, ◌||◌}
use mathlib.Core.List.{List, [], ◌∷◌}
use mathlib.Core.Logic.{◌↔◌}
use Prim.Native.Nat.{ℕ, ◌+◌, ◌-◌, ◌≤◌, ◌<◌}
use native.Mathlib.Omega.{arith}
use lib.ListN.{length}
use lib.Dec.{ltb, eqb}
use borrow.Author.Tests.{eq-eqb, ne_eqb, eqb-true, eqb-false, lt-ltb}
use Rattle.lists.specs.Sum.{total}
use Rattle.lists.specs.All.{all}
use Rattle.lists.specs.Number.{or_else}
use Rattle.lists.specs.Smallest.{NoRule, Smallest}
use Rattle.lists.proofs.Bools.{and_left}
use Rattle.lists.proofs.Alls.{all-every, from-every}
use Rattle.lists.proofs.Smallests.{at_most, equal, either-fails, contrary, First, passed, tested, thence, with-more, smallest}
use Rattle.imbalance.specs.Limit.{most_vertices, most_arcs, most_weight, heavy, label_above}
use Rattle.imbalance.specs.Rules.{NoneAbove}
use Rattle.imbalance.proofs.Refusals.{light, labelled}
use Rattle.topology.specs.Graph.{Graph, first, past, neighbour}
use Rattle.topology.specs.Rule.{misfit, oversize, starts_ok, arc_ok, row_ok, rows_ok, answered, rows_number, graph_number}
use Rattle.topology.specs.Rules.{Lengths, Limits, RowRules, Opposites, rows_rules, graph_rules, edge_cut_rules, lambda_cut_rules}
use Rattle.topology.specs.Cut.{cut, lambda}
use Rattle.topology.specs.Number.{edge_cut_number, lambda_cut_number, answer_of, edge_cut_answer, lambda_cut_answer}
use Rattle.topology.specs.declared.CutAnswer.{CutAnswer}
use Rattle.topology.proofs.Starts.{start_first, start-last, start-rises, starts-hold}
use Rattle.topology.proofs.Rises.{chain, step-rises}
use Rattle.topology.proofs.Rules.{arc-below, arc-other}
use Rattle.topology.proofs.EqualOpposites.{opposites}

module _ (n : ℕ) (g : Graph) where
  lengths : (misfit n g ≡ false) ↔ Lengths n g
  unfolding misfit
  lengths =
      let b = either-fails (not (eqb (length g.starts) (n + 1))) (not (eqb (length g.neighbours) (length g.weights)))
      (contrary (eqb (length g.starts) (n + 1)) (equal (length g.starts) (n + 1)))
      (contrary (eqb (length g.neighbours) (length g.weights)) (equal (length g.neighbours) (length g.weights))) in
      ((λ h. let k = b.0 h in record { started = k.0; paired = k.1 }), λ k. b.1 (k.started, k.paired))

  limits : (oversize n (length g.neighbours) ≡ false) ↔ Limits n g
  unfolding oversize
  limits =
      let b = either-fails (ltb most_vertices n) (ltb most_arcs (length g.neighbours)) (at_most most_vertices n) (at_most most_arcs (length g.neighbours)) in
      ((λ h. let k = b.0 h in record { few = k.0; few_arcs = k.1 }), λ k. b.1 (k.few, k.few_arcs))

  -- what each arc's test asks
  module _ (k : RowRules n g) (u e : ℕ) (l : u < n) (a : first g u ≤ e) (b : e < past g u) where
    above-last : (t : Bool) → eqb e (first g u) ≡ t → t || ltb (neighbour g (e - 1)) (neighbour g e) ≡ true
    above-last true q = refl
    above-last false q =
        let ne = eqb-false e (first g u) q in
        lt-ltb (neighbour g (e - 1)) (neighbour g e) (k.rise u (e - 1) e l (omega (arith, ne), omega arith) (a, b) (omega (arith, ne)))

    arc-kept : arc_ok n g u (first g u) e ≡ true
    unfolding arc_ok
    arc-kept = rw (lt-ltb (neighbour g e) n (k.below u e l (a, b)), ne_eqb (neighbour g e) u (k.other u e l (a, b))) (above-last (eqb e (first g u)) refl)

  pub row-rules : (rows_ok n g ≡ true) ↔ RowRules n g
  unfolding rows_ok
  row-rules = (there, back)
    where
      there : rows_ok n g ≡ true → RowRules n g
      there r =
          let s = and_left (starts_ok n g) (all n (row_ok n g)) r in
          record {
            begin = start_first n g s;
            climb = start-rises n g s;
            end = start-last n g s;
            rise = λ u d e l a b k. chain (first g u) (past g u) (neighbour g) (step-rises n g r u l) d e a.0 k b.1;
            below = λ u e l a. arc-below n g r u e l a.0 a.1;
            other = λ u e l a. eqb-false (neighbour g e) u (arc-other n g r u e l a.0 a.1);
          }

      back : RowRules n g → rows_ok n g ≡ true
      back k =
          let s = starts-hold n g k.begin k.end k.climb in
          let a = all-every n (row_ok n g) (λ u l. from-every (first g u) (past g u) (arc_ok n g u (first g u)) (λ e p q. arc-kept k u e l p q)) in
          rw (s, a)

  -- the numbers from 2 on
  abbrev from_two : ℕ
  from_two = cond (oversize n (length g.neighbours)) 2 (cond (not (rows_ok n g)) 3 (cond (not (answered n g)) 4 0))

  -- 2 to 4, whatever 1 asks and whatever comes after 4
  two-to-four : (one : Type 0) (more : List (Type 0)) → First (NoRule ∷ one ∷ Limits n g ∷ RowRules n g ∷ Opposites n g ∷ more) 2 5 from_two
  two-to-four one more =
      let rules = NoRule ∷ one ∷ Limits n g ∷ RowRules n g ∷ Opposites n g ∷ more in
      tested rules 2 5 _ (oversize n (length g.neighbours)) (omega arith) (omega arith) limits
      (tested rules 3 5 _ (not (rows_ok n g)) (omega arith) (omega arith) (contrary (rows_ok n g) row-rules)
      (tested rules 4 5 0 (not (answered n g)) (omega arith) (omega arith) (contrary (answered n g) (opposites n g))
      (passed rules 5)))

  rows-first : First (rows_rules n g) 1 5 (rows_number n g)
  unfolding rows_number
  rows-first = tested (rows_rules n g) 1 5 from_two (misfit n g) (omega arith) (omega arith) lengths (two-to-four (Lengths n g) [])

-- 1 is given by either of two tests
two-tests : (s t : Bool) (k m : ℕ) → cond s 1 (or_else (cond t 1 k) m) ≡ cond (s || t) 1 (or_else k m)
two-tests true t k m = refl
two-tests false true k m = refl
two-tests false false k m = refl

-- The number of a graph with its vertex weights is the smallest of 1 to 5 whose rule is broken, and 0 if none is.
pub graph-first : (n : ℕ) (weights : List ℕ) (g : Graph) → First (graph_rules n weights g) 1 6 (graph_number n weights g)
unfolding graph_number rows_number
graph-first n weights g =
    let rules = graph_rules n weights g in
    let unweighed = not (eqb (length weights) n) in
    let five = heavy weights || heavy g.weights in
    rw (two-tests unweighed (misfit n g) (from_two n g) (cond five 5 0))
    (tested rules 1 6 _ (unweighed || misfit n g) (omega arith) (omega arith)
    (either-fails unweighed (misfit n g) (contrary (eqb (length weights) n) (equal (length weights) n)) (lengths n g))
    (thence rules 2 5 6 (from_two n g) (cond five 5 0) (omega arith) (two-to-four n g ((length weights ≡ n) × Lengths n g) (((total weights ≤ most_weight) × (total g.weights ≤ most_weight)) ∷ []))
    (tested rules 5 6 0 five (omega arith) (omega arith) (either-fails (heavy weights) (heavy g.weights) (light weights) (light g.weights))
    (passed rules 6))))

-- the number in an answer
number_is : (k c : ℕ) → (answer_of k c).number ≡ k
number_is k c = go (eqb k 0) refl
  where
    go : (b : Bool) → eqb k 0 ≡ b → (cond {A = CutAnswer} b (record { number = 0; cut = c }) (record { number = k; cut = 0 })).number ≡ k
    go true e = sym (eqb-true k 0 e)
    go false e = refl

-- the cut in an answer that is done
pub done-is : (k c : ℕ) → (answer_of k c).number ≡ 0 → (answer_of k c).cut ≡ c
done-is k c z = rw (eq-eqb k 0 (sym (number_is k c) ∙ z))

-- "The smallest number that applies is given; 0 only if none does": of any answer that meets the promise of `topology::edge_cut`.
pub edge-cut-refusal : (g : Graph) (labels : List ℕ) (r : CutAnswer) → r ≡ edge_cut_answer g labels → Smallest (edge_cut_rules g labels) r.number
unfolding edge_cut_answer edge_cut_number
edge-cut-refusal g labels r e =
    let n = length labels in
    let rules = edge_cut_rules g labels in
    let more = (total g.weights ≤ most_weight) ∷ NoneAbove 15 labels ∷ [] in
    let k = edge_cut_number g labels in
    rw (e, number_is k (cut g labels))
    (smallest rules k tt
    (thence rules 1 5 7 (rows_number n g) _ (omega arith) (with-more (rows_rules n g) more 1 5 (rows_number n g) (omega arith) (rows-first n g))
    (tested rules 5 7 _ (heavy g.weights) (omega arith) (omega arith) (light g.weights)
    (tested rules 6 7 0 (label_above 15 labels) (omega arith) (omega arith) (labelled 15 labels)
    (passed rules 7)))))

-- The same of any answer that meets the promise of `topology::lambda_cut`.
pub lambda-cut-refusal : (g : Graph) (weights labels : List ℕ) (r : CutAnswer) → r ≡ lambda_cut_answer g weights labels → Smallest (lambda_cut_rules g weights labels) r.number
unfolding lambda_cut_answer lambda_cut_number
lambda-cut-refusal g weights labels r e =
    let n = length labels in
    let rules = lambda_cut_rules g weights labels in
    let k = lambda_cut_number g weights labels in
    rw (e, number_is k (lambda g weights labels))
    (smallest rules k tt
    (thence rules 1 6 7 (graph_number n weights g) _ (omega arith) (with-more (graph_rules n weights g) (NoneAbove 15 labels ∷ []) 1 6 (graph_number n weights g) (omega arith) (graph-first n weights g))
    (tested rules 6 7 0 (label_above 15 labels) (omega arith) (omega arith) (labelled 15 labels)
    (passed rules 7))))

-- The writer's number by its tests: what each tells of what is given, and the number that they lead to. Assumes nothing.
use Rattle.std.proofs.Common.{◌≡◌, ℕ, ◌+◌, ◌-◌, ◌<◌, ◌≤◌, Bool, true, false, not, ◌||◌, eqb, ltb, List, length, get_or, sym, refl, ap, ◌∙◌, arith, ltb-false, ltb-true, le-ltb, lt-ltb, eqb-true}
use borrow.Author.Tests.{not-false}
use Rattle.lists.proofs.Bools.{or-false}
use Rattle.lists.proofs.Alls.{any-contrary}
use Rattle.imbalance.specs.Ceiling.{unfit_choice}
use Rattle.imbalance.specs.declared.Ceiling.{Ceiling}
use Rattle.imbalance.specs.Limit.{label_above}
use Rattle.topology.specs.Graph.{Graph, in_rows}
use Rattle.topology.specs.Rule.{starts_ok}
use Rattle.plan_blocks.specs.Plan.{out_of_range}
use Rattle.plan_blocks.proofs.Accepts.{InRange, in-range}
use Rattle.plan_writer.specs.Write.{Given, vertices, arcs, unfit, miscounted, bad_starts, bad_labels, size_of, write_number}

-- 12: where it does not apply, the numbers are in their ranges
pub counts-ranged : (n a k : ℕ) (asked : Ceiling) → (out_of_range n a k || unfit_choice asked) ≡ false → InRange n a k
counts-ranged n a k asked h = in-range n a k (or-false (out_of_range n a k) (unfit_choice asked) h).0

-- 12's test of the rows inside the graph that is lent
pub lent-judged : (n k : ℕ) (asked : Ceiling) (inside lent : Graph) (r t : Bool) → inside ≡ lent → r ≡ (out_of_range n (length inside.neighbours) k || unfit_choice asked) → r ≡ t → (out_of_range n (length lent.neighbours) k || unfit_choice asked) ≡ t
lent-judged n k asked inside lent r t e h q = rw (← e) (sym h ∙ q)

-- 1: where it does not apply, there are n + 1 starts
pub counted : (n a weights starts arc_weights : ℕ) → (not (eqb weights n) || (not (eqb starts (n + 1)) || not (eqb a arc_weights))) ≡ false → starts ≡ n + 1
counted n a weights starts arc_weights h =
    let p = or-false (not (eqb weights n)) (not (eqb starts (n + 1)) || not (eqb a arc_weights)) h in
    eqb-true starts (n + 1) (not-false _ (or-false (not (eqb starts (n + 1))) (not (eqb a arc_weights)) p.1).0)

-- 3: the test of the starts, turned
pub starts-judged : (g : Given) (ok : Bool) → ok ≡ starts_ok (vertices g) (in_rows g.starts g.neighbours g.arc_weights) → bad_starts g ≡ not ok
unfolding bad_starts
starts-judged g ok e = ap not (sym e)

-- 14: a label is not below k where it is above k - 1
pub labels-below : (k : ℕ) (labels : List ℕ) → 1 ≤ k → label_above (k - 1) labels ≡ bad_labels k labels
unfolding label_above bad_labels
labels-below k labels l =
    any-contrary (length labels) (λ v. ltb (k - 1) (get_or labels v 0)) (λ v. ltb (get_or labels v 0) k) (λ v _. either (get_or labels v 0) (ltb (get_or labels v 0) k) refl)
  where
    either : (x : ℕ) (t : Bool) → ltb x k ≡ t → ltb (k - 1) x ≡ not t
    either x true e = let m = ltb-true x k e in le-ltb (k - 1) x (omega arith)
    either x false e = let m = ltb-false x k e in lt-ltb (k - 1) x (omega arith)

-- each way out, by the tests that led there
module _ (g : Given) (places : ℕ) where
  pub by-twelve : unfit g ≡ true → 12 ≡ write_number g places
  unfolding write_number
  by-twelve u = rw u

  module _ (u : unfit g ≡ false) where
    pub by_one : miscounted g ≡ true → 1 ≡ write_number g places
    unfolding write_number
    by_one m = rw (u, m)

    module _ (m : miscounted g ≡ false) where
      pub by_three : bad_starts g ≡ true → 3 ≡ write_number g places
      unfolding write_number
      by_three s = rw (u, m, s)

      module _ (s : bad_starts g ≡ false) where
        pub by-fourteen : bad_labels g.k g.labels ≡ true → 14 ≡ write_number g places
        unfolding write_number
        by-fourteen l = rw (u, m, s, l)

        module _ (l : bad_labels g.k g.labels ≡ false) (size : ℕ) (e : size ≡ size_of (vertices g) (arcs g)) where
          pub by-fifteen : places < size → 15 ≡ write_number g places
          unfolding write_number
          by-fifteen r = rw (u, m, s, l, lt-ltb places (size_of (vertices g) (arcs g)) (rw e at r))

          pub by-none : size ≤ places → 0 ≡ write_number g places
          unfolding write_number
          by-none r = rw (u, m, s, l, le-ltb places (size_of (vertices g) (arcs g)) (rw e at r))

-- What number 0 tells of a graph: no number from 1 to 5 applies, so its rows are in order, it is symmetric without loops, and its weights are within their limits. Assumes nothing.
use mathlib.Core.Path.{◌≡◌, refl, sym, ◌∙◌}
use mathlib.Core.Bool.{Bool, true, false, not, cond, ◌||◌}
use mathlib.Core.List.{List}
use Prim.Native.Nat.{ℕ, zero, suc, ◌+◌, ◌≤◌, ◌<◌}
use native.Mathlib.Omega.{arith}
use native.Mathlib.Numerals.{add-one}
use lib.ListN.{length}
use lib.Dec.{ltb, eqb}
use borrow.Author.Tests.{eq-eqb, ne_eqb, eqb-true, ltb-true, ltb-false, not-false}
use Rattle.lists.specs.All.{all}
use Rattle.lists.specs.Number.{or_else}
use Rattle.lists.proofs.Bools.{and_left, or-false}
use Rattle.lists.proofs.Numbers.{or-else-zero, not-given}
use Rattle.imbalance.specs.Limit.{most_vertices, most_arcs, heavy, label_above}
use Rattle.imbalance.specs.Load.{Loadable}
use Rattle.imbalance.proofs.Limits.{light-total}
use Rattle.topology.specs.Graph.{Graph, first, past}
use Rattle.topology.specs.Rule.{misfit, oversize, starts_ok, rows_ok, row_ok, answered, rows_number, graph_number, Rows, Symmetric, Sound}
use Rattle.topology.specs.Number.{edge_cut_number, lambda_cut_number}
use Rattle.topology.specs.inner.Row.{RowsAlone}
use Rattle.topology.proofs.Starts.{start_first, start-last, start-rises, start-inside}
use Rattle.topology.proofs.RowWalks.{each_row}
use Rattle.topology.proofs.Rules.{arc-below, symmetric}

-- every place below the last start is in some row
in_row : (n e : ℕ) (g : Graph) → first g 0 ≡ 0 → e < first g n → (u : ℕ) × (u < n) × (first g u ≤ e) × (e < past g u)
in_row zero e g z l = absurd (omega arith)
in_row (suc n) e g z l = go (ltb e (first g n)) refl (in_row n e g z)
  where
    go : (b : Bool) → ltb e (first g n) ≡ b → (e < first g n → (u : ℕ) × (u < n) × (first g u ≤ e) × (e < past g u)) → (u : ℕ) × (u < suc n) × (first g u ≤ e) × (e < past g u)
    go true t ih = let r = ih (ltb-true e (first g n) t) in let k = r.1 in (r.0, omega arith, r.2, r.3)
    go false t ih = (n, omega arith, ltb-false e (first g n) t, rw (add-one n) l)

module _ (n : ℕ) (g : Graph) where
  rows-hold : misfit n g ≡ false → oversize n (length g.neighbours) ≡ false → rows_ok n g ≡ true → Rows n g
  unfolding misfit oversize rows_ok
  rows-hold m o r =
      let fit = or-false (not (eqb (length g.starts) (n + 1))) (not (eqb (length g.neighbours) (length g.weights))) m in
      let size = or-false (ltb most_vertices n) (ltb most_arcs (length g.neighbours)) o in
      let s = and_left (starts_ok n g) (all n (row_ok n g)) r in
      let last = start-last n g s in
      record {
        few = ltb-false most_vertices n size.0;
        counted = eqb-true (length g.starts) (n + 1) (not-false (eqb (length g.starts) (n + 1)) fit.0);
        paired = sym (eqb-true (length g.neighbours) (length g.weights) (not-false (eqb (length g.neighbours) (length g.weights)) fit.1));
        small = ltb-false most_arcs (length g.neighbours) size.1;
        rise = start-rises n g s;
        inside = start-inside n g s;
        below = λ e l. (let u = in_row n e g (start_first n g s) (omega arith) in arc-below n g r u.0 e u.1 u.2 u.3);
      }

  pub rows-number-zero : rows_number n g ≡ 0 → Rows n g × Symmetric n g
  unfolding rows_number
  rows-number-zero e =
      let one = not-given (misfit n g) 0 (cond (oversize n (length g.neighbours)) 2 (cond (not (rows_ok n g)) 3 (cond (not (answered n g)) 4 0))) e in
      let two = not-given (oversize n (length g.neighbours)) 1 (cond (not (rows_ok n g)) 3 (cond (not (answered n g)) 4 0)) one.1 in
      let three = not-given (not (rows_ok n g)) 2 (cond (not (answered n g)) 4 0) two.1 in
      let four = not-given (not (answered n g)) 3 0 three.1 in
      let r = not-false (rows_ok n g) three.0 in
      (rows-hold one.0 two.0 r, symmetric n g r (not-false (answered n g) four.0))

-- what number 0 gives to the refiners; that it is given exactly where every rule is kept is in Refusals.antt
pub sound : (n : ℕ) (weights : List ℕ) (g : Graph) → graph_number n weights g ≡ 0 → Sound n weights g
unfolding graph_number
sound n ws g e =
    let one = not-given (not (eqb (length ws) n)) 0 (or_else (rows_number n g) (cond (heavy ws || heavy g.weights) 5 0)) e in
    let rest = or-else-zero (rows_number n g) (cond (heavy ws || heavy g.weights) 5 0) one.1 in
    let both = rows-number-zero n g rest.0 in
    let five = or-false (heavy ws) (heavy g.weights) (not-given (heavy ws || heavy g.weights) 4 0 rest.1).0 in
    record {
      rows = both.0;
      symmetric = both.1;
      weighed = eqb-true (length ws) n (not-false (eqb (length ws) n) one.0);
      light = light-total ws five.0;
      light_arcs = light-total g.weights five.1;
    }

-- the code's test of 1: a list of starts that does not fit, or else the other two lists
module _ (n : ℕ) (g : Graph) where
  pub miscounted : (length g.starts ≡ n + 1 → ⊥) → true ≡ misfit n g
  unfolding misfit
  miscounted ne = rw (ne_eqb (length g.starts) (n + 1) ne)

  pub counted-by : length g.starts ≡ n + 1 → (b : Bool) → b ≡ not (eqb (length g.neighbours) (length g.weights)) → b ≡ misfit n g
  unfolding misfit
  counted-by e b q = q ∙ rw (eq-eqb (length g.starts) (n + 1) e)

-- the code's tests of 1, 2 and 3, which did not hold: a list of starts that fits
pub starts_fit : (n : ℕ) (g : Graph) (unfit : Bool) → unfit ≡ misfit n g → unfit ≡ false → length g.starts ≡ n + 1
unfolding misfit
starts_fit n g unfit e f =
    let fit = or-false (not (eqb (length g.starts) (n + 1))) (not (eqb (length g.neighbours) (length g.weights))) (sym e ∙ f) in
    eqb-true (length g.starts) (n + 1) (not-false (eqb (length g.starts) (n + 1)) fit.0)

-- and rows that are in order
pub rows-ready :
    (n : ℕ) (g : Graph) (unfit large ok : Bool)
    → unfit ≡ misfit n g → unfit ≡ false
    → large ≡ oversize n (length g.neighbours) → large ≡ false
    → ok ≡ rows_ok n g → not ok ≡ false
    → Rows n g × (rows_ok n g ≡ true)
rows-ready n g unfit large ok unfit-is fits large_is small ok-is in_order =
    let r = sym ok-is ∙ not-false ok in_order in
    (rows-hold n g (sym unfit-is ∙ fits) (sym large_is ∙ small) r, r)

-- number 0 of the stand-alone edge cut
pub edge-cut-asked : (g : Graph) (labels : List ℕ) → edge_cut_number g labels ≡ 0 → Rows (length labels) g
unfolding edge_cut_number
edge-cut-asked g labels z =
    (rows-number-zero (length labels) g (or-else-zero (rows_number (length labels) g) (cond (heavy g.weights) 5 (cond (label_above 15 labels) 6 0)) z).0).0

-- number 0 of the stand-alone lambda cut
pub lambda-cut-asked : (g : Graph) (weights labels : List ℕ) → lambda_cut_number g weights labels ≡ 0 → RowsAlone (length labels) g.starts g.neighbours × Loadable weights labels
unfolding lambda_cut_number
lambda-cut-asked g weights labels z =
    let both = or-else-zero (graph_number (length labels) weights g) (cond (label_above 15 labels) 6 0) z in
    let s = sound (length labels) weights g both.0 in
    (each_row s.rows, record { paired = s.weighed; few = s.rows.few; light = s.light; named = (not-given (label_above 15 labels) 5 0 both.1).0 })

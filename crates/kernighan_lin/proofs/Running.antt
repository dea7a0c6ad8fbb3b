-- The passes of a run, one after another. Assumes nothing.
use mathlib.Core.Path.{◌≡◌, refl, sym, ap, ◌∙◌}
use mathlib.Core.List.{List}
use Prim.Native.Nat.{ℕ, suc, ◌+◌, ◌-◌, ◌/◌, ◌≤◌, ◌<◌, min}
use native.Mathlib.Omega.{arith}
use lib.ListN.{length}
use lib.IntN.{ℤ}
use borrow.Author.Tests.{lt-ltb, le-ltb}
use Rattle.imbalance.specs.Limit.{most_vertices}
use Rattle.topology.specs.Cut.{cut}
use Rattle.kernighan_lin_pass.specs.Pass.{Terms, start, walk, pass}
use Rattle.kernighan_lin_pass.specs.inner.Steps.{LentLong}
use Rattle.kernighan_lin.specs.Run.{Run, run}
use Rattle.kernighan_lin.specs.inner.Steps.{PassesDone}

module _ (s : Terms) (w : ℕ) where
  -- a pass that lowers the cut goes on to the next
  pub run_on : (k i : ℕ) (p : List ℕ) → cut s.graph (pass s w p) < cut s.graph p → run s w (suc k) i p ≡ run s w k (i + 1) (pass s w p)
  unfolding run
  run_on k i p l = rw (run, lt-ltb (cut s.graph (pass s w p)) (cut s.graph p) l)

  -- and any other ends the run
  pub run_ends : (k i : ℕ) (p : List ℕ) → cut s.graph p ≤ cut s.graph (pass s w p) → run s w (suc k) i p ≡ record { end = 1; passes = i + 1; labels = pass s w p }
  unfolding run
  run_ends k i p l = rw (run, le-ltb (cut s.graph (pass s w p)) (cut s.graph p) l)

  -- the pass limit
  pub run_out : (k i : ℕ) (p : List ℕ) → k ≡ 0 → run s w k i p ≡ record { end = 0; passes = i; labels = p }
  unfolding run
  run_out k i p e = rw e

-- Where the code stands after i passes.
pub record Passing (s : Terms) (most passes : ℕ) (p₀ : List ℕ) (i last : ℕ) (labels : List ℕ) (gains : List ℤ) (locks swaps : List ℕ) : Type 0 where
  pub upto : i ≤ passes
  pub long : length labels ≡ length p₀
  pub gains_long : length gains ≡ length p₀
  pub locks_long : length locks ≡ length p₀
  pub swaps_long : length swaps ≡ length p₀ / 2
  pub last_is : last ≡ cut s.graph labels
  pub rest : run s most (passes - i) i labels ≡ run s most passes 0 p₀

module _ (s : Terms) (most passes : ℕ) (p₀ : List ℕ) where
  module _ (i last : ℕ) (labels : List ℕ) (gains : List ℤ) (locks swaps : List ℕ) (on : Passing s most passes p₀ i last labels gains locks swaps) where
    pub lent-long : (limit : ℕ) → limit ≡ min most (length p₀ / 2) → length p₀ ≤ most_vertices → LentLong labels gains locks (length swaps) limit
    lent-long limit e few =
        let q = on.swaps_long in
        record { gains_long = on.gains_long ∙ sym on.long; locks_long = on.locks_long ∙ sym on.long; places_for = omega arith; few = omega arith }

    -- the labels that the walk leaves are those of the pass
    pass-is : (limit : ℕ) (after : List ℕ) → limit ≡ min most (length p₀ / 2) → after ≡ (walk s limit (start s labels)).kept → after ≡ pass s most labels
    unfolding pass
    pass-is limit after e f = f ∙ ap (λ (m : ℕ). (walk s m (start s labels)).kept) (e ∙ ap (λ (m : ℕ). min most (m / 2)) (sym on.long))

    module _ (l : i < passes) (limit : ℕ) (e : limit ≡ min most (length p₀ / 2)) (after : List ℕ) (f : after ≡ (walk s limit (start s labels)).kept) (c : ℕ) (now : c ≡ cut s.graph after) where
      more : passes - i ≡ suc (passes - (i + 1))
      more = omega arith

      pub pass_on : (gains' : List ℤ) (locks' swaps' : List ℕ) → length after ≡ length labels → length gains' ≡ length gains → length locks' ≡ length locks → length swaps' ≡ length swaps → c < last → Passing s most passes p₀ (i + 1) c after gains' locks' swaps'
      pass_on gains' locks' swaps' a b d g h =
          let q = pass-is limit after e f in
          let n = on.last_is in
          let lower : cut s.graph (pass s most labels) < cut s.graph labels = rw (← q) (omega arith) in
          record {
            upto = omega arith;
            long = a ∙ on.long;
            gains_long = b ∙ on.gains_long;
            locks_long = d ∙ on.locks_long;
            swaps_long = g ∙ on.swaps_long;
            last_is = now;
            rest =
                ap (run s most (passes - (i + 1)) (i + 1)) q
                ∙ sym (run_on s most (passes - (i + 1)) i labels lower)
                ∙ ap (λ (m : ℕ). run s most m i labels) (sym more)
                ∙ on.rest;
          }

      pub pass-ends : (before : ℕ) → before ≡ cut s.graph p₀ → last ≤ c → PassesDone s most passes p₀ (record { number = 0; end = 1; passes = i + 1; first = before; last = c }) after
      pass-ends before b h =
          let q = pass-is limit after e f in
          let n = on.last_is in
          let higher : cut s.graph labels ≤ cut s.graph (pass s most labels) = rw (← q) (omega arith) in
          let r : record { end = 1; passes = i + 1; labels = pass s most labels } ≡ run s most passes 0 p₀ =
          sym (run_ends s most (passes - (i + 1)) i labels higher)
          ∙ ap (λ (m : ℕ). run s most m i labels) (sym more)
          ∙ on.rest in
          record {
            number_is = refl;
            end_is = ap (λ (x : Run). x.end) r;
            passes_are = ap (λ (x : Run). x.passes) r;
            first_is = b;
            last_is = now ∙ ap (cut s.graph) (q ∙ ap (λ (x : Run). x.labels) r);
            labels_are = q ∙ ap (λ (x : Run). x.labels) r;
          }

    pub limit-ends : (before : ℕ) → before ≡ cut s.graph p₀ → passes ≤ i → PassesDone s most passes p₀ (record { number = 0; end = 0; passes = i; first = before; last = last }) labels
    limit-ends before b h =
        let z : passes - i ≡ 0 = omega arith in
        let r : record { end = 0; passes = i; labels = labels } ≡ run s most passes 0 p₀ = sym (run_out s most (passes - i) i labels z) ∙ on.rest in
        record {
          number_is = refl;
          end_is = ap (λ (x : Run). x.end) r;
          passes_are = ap (λ (x : Run). x.passes) r;
          first_is = b;
          last_is = on.last_is ∙ ap (cut s.graph) (ap (λ (x : Run). x.labels) r);
          labels_are = ap (λ (x : Run). x.labels) r;
        }

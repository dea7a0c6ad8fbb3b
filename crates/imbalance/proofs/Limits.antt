-- What the tests of numbers 5 and 6 tell of a list, and how the loops that make them end. Assumes nothing.
use Rattle.std.proofs.Common.{◌≡◌, ℕ, ◌+◌, ◌-◌, ◌<◌, ◌≤◌, Bool, true, false, ltb, List, length, get_or, sym, arith, ltb-false, le-ltb, lt-ltb}
use Rattle.lists.specs.Sum.{sum, total}
use Rattle.lists.specs.All.{any}
use Rattle.lists.proofs.Sums.{sum-none, sum_more}
use Rattle.lists.proofs.Totals.{sum-grows}
use Rattle.lists.proofs.Alls.{any-holds, any_at}
use Rattle.imbalance.specs.Limit.{most_weight, heavy, label_above}

-- the first n weights, summed
abbrev pub total_to : ℕ → List ℕ → ℕ
total_to n weights = sum n (λ i. get_or weights i 0)

-- one of the first n labels is above `most`
abbrev pub above_to : ℕ → ℕ → List ℕ → Bool
above_to n most labels = any n (λ v. ltb most (get_or labels v 0))

-- no part of the list weighs more than the whole
pub total-holds : (weights : List ℕ) (n : ℕ) → n ≤ length weights → total_to n weights ≤ total weights
unfolding total
total-holds weights n h = sum-grows n (length weights) (λ i. get_or weights i 0) h

-- where number 5's test fails, the weights are within their limit
pub light-total : (weights : List ℕ) → heavy weights ≡ false → total weights ≤ most_weight
unfolding heavy
light-total weights h = ltb-false most_weight (total weights) h

-- what remains of the limit once the first n weights are taken off it
pub record Remains (weights : List ℕ) (n rest : ℕ) : Type 0 where
  pub upto : n ≤ length weights
  pub made_up : total_to n weights + rest ≡ most_weight

pub nothing-off : (weights : List ℕ) → Remains weights 0 most_weight
nothing-off weights = let z = sum-none (λ i. get_or weights i 0) in record { upto = omega arith; made_up = omega arith }

module _ (weights : List ℕ) (n rest : ℕ) (here : Remains weights n rest) where
  -- the next weight, w
  module _ (l : n < length weights) (w : ℕ) (w-is : w ≡ get_or weights n 0) where
    pub one-off : w ≤ rest → Remains weights (n + 1) (rest - w)
    one-off h =
        let m = sum_more n (λ i. get_or weights i 0) in
        let k = here.made_up in
        record { upto = omega arith; made_up = omega arith }

    -- it does not fit, which decides the test
    pub too-heavy : rest < w → true ≡ heavy weights
    unfolding heavy
    too-heavy h =
        let m = sum_more n (λ i. get_or weights i 0) in
        let g = total-holds weights (n + 1) (omega arith) in
        let k = here.made_up in
        sym (lt-ltb most_weight (total weights) (omega arith))

  -- all weights taken off decide it too
  pub all-off : length weights ≤ n → false ≡ heavy weights
  unfolding heavy total
  all-off h =
      let u = here.upto in
      let q : n ≡ length weights = omega arith in
      let k = rw q at here.made_up in
      sym (le-ltb most_weight (total weights) (omega arith))

-- where number 6's test fails, every label is at most `most`
pub label-most : (most : ℕ) (labels : List ℕ) → label_above most labels ≡ false → (v : ℕ) → v < length labels → get_or labels v 0 ≤ most
unfolding label_above
label-most most labels h v l = ltb-false most (get_or labels v 0) (any_at (length labels) v (λ u. ltb most (get_or labels u 0)) h l)

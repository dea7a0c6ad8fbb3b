-- `largest`, one step further: what a turn of the loop over the loads asks. Assumes nothing.
use Rattle.std.proofs.Common.{◌≡◌, ℕ, ◌+◌, ◌<◌, ◌≤◌, Bool, true, false, nat_lt, nat_cmp, refl, ◌∙◌, add-one, arith, le-ltb, lt-ltb, ltb-true, ltb-false}
use Rattle.std.specs.Ordering.{ord_max}
use Rattle.imbalance.specs.Ceiling.{largest}

module _ (f : ℕ → ℕ) (n m : ℕ) (e : m ≡ largest n f) where
  pub largest-rises : m < f n → f n ≡ largest (n + 1) f
  unfolding largest
  largest-rises h = rw (add-one, ← e, lt-ltb m (f n) h)

  pub largest-stays : f n ≤ m → m ≡ largest (n + 1) f
  unfolding largest
  largest-stays h = rw (add-one, ← e, le-ltb m (f n) h)

larger : (m k : ℕ) → m < k → ord_max nat_cmp m k ≡ k
larger m k h = grind arith

not-smaller : (m k : ℕ) → k ≤ m → ord_max nat_cmp m k ≡ m
not-smaller m k h = grind arith

pub largest-next : (f : ℕ → ℕ) (n m : ℕ) → m ≡ largest n f → ord_max nat_cmp m (f n) ≡ largest (n + 1) f
largest-next f n m e = go (nat_lt m (f n)) refl
  where
    go : (b : Bool) → nat_lt m (f n) ≡ b → ord_max nat_cmp m (f n) ≡ largest (n + 1) f
    go true t = let h = ltb-true m (f n) t in larger m (f n) h ∙ largest-rises f n m e h
    go false t = let h = ltb-false m (f n) t in not-smaller m (f n) h ∙ largest-stays f n m e h

-- Swaps undone. Assumes nothing.
use mathlib.Core.Path.{◌≡◌, refl, ap, ◌∙◌}
use mathlib.Core.List.{List}
use Prim.Native.Nat.{ℕ, zero, suc, ◌+◌, ◌-◌, ◌≤◌, ◌<◌}
use native.Mathlib.Omega.{arith}
use lib.ListN.{length, get_or}
use Rattle.exchange.proofs.Exchanges.{exchange-twice}
use Rattle.kernighan_lin_pass.specs.Pass.{Swap, swapped}
use Rattle.kernighan_lin_pass.specs.inner.Steps.{code_base, code_of, swap_of, back}

-- a swap made twice changes nothing
pub swap-twice : (p : List ℕ) (t : Swap) → t.one < length p → t.two < length p → swapped (swapped p t) t ≡ p
unfolding swapped
swap-twice p t one two = exchange-twice p t.one t.two one two

-- the numbers of a noted swap read back
pub read_back : (v w : ℕ) → w < code_base → ((swap_of (code_of (record { one = v; two = w }))).one ≡ v) × ((swap_of (code_of (record { one = v; two = w }))).two ≡ w)
read_back v w l = (omega arith, omega arith)

pub back-same : (codes codes' : List ℕ) (m j : ℕ) (p : List ℕ) → j ≤ m → ((i : ℕ) → i < m → get_or codes i 0 ≡ get_or codes' i 0) → back codes m j p ≡ back codes' m j p
unfolding back
back-same codes codes' m zero p l h = refl
back-same codes codes' m (suc j) p l h =
    back-same codes codes' (m - 1) j (swapped p (swap_of (get_or codes (m - 1) 0))) (omega arith) (λ i k. h i (omega arith))
    ∙ ap (λ (x : ℕ). back codes' (m - 1) j (swapped p (swap_of x))) (h (m - 1) (omega arith))

pub back_none : (codes : List ℕ) (m j : ℕ) (p : List ℕ) → j ≡ 0 → back codes m j p ≡ p
unfolding back
back_none codes m j p e = rw e

-- one swap more
pub back_more : (codes : List ℕ) (k j i : ℕ) (p : List ℕ) → i ≡ suc j → back codes (k + 1) i p ≡ back codes k j (swapped p (swap_of (get_or codes k 0)))
unfolding back
back_more codes k j i p e = let q : k + 1 - 1 ≡ k = omega arith in rw (e, back) (rw q)

-- one swap less
pub back-less : (codes : List ℕ) (k j i : ℕ) (p q : List ℕ) → i ≡ suc j → q ≡ swapped p (swap_of (get_or codes (k - 1) 0)) → back codes (k - 1) j q ≡ back codes k i p
unfolding back
back-less codes k j i p q e f = rw (e, f, back)

-- The header's numbers, where they are decoded and where they are judged. Assumes nothing.
use Rattle.std.proofs.Common.{◌≡◌, ℕ, ◌+◌, ◌*◌, false, List}
use Rattle.lists.proofs.Bools.{or-false}
use Rattle.plan_blocks.specs.declared.header.Header.{Header}
use Rattle.plan_blocks.specs.Word.{wrap, word}
use Rattle.plan_blocks.specs.Plan.{out_of_range, unfit_value}
use Rattle.plan_blocks.specs.Decode.{each_at, header_at, bad_numbers}
use Rattle.plan_blocks.proofs.Accepts.{InRange, in-range}

-- the record of the words that were read
pub header_is : (s : List ℕ) {n n' a a' k choice value low high : ℕ} {each : List ℕ} → n ≡ n' → n' ≡ word s 1 → a ≡ a' → a' ≡ word s 2 → k ≡ word s 3 → choice ≡ word s 4
    → value ≡ low + wrap * high → low ≡ word s 5 → high ≡ word s 6 → each ≡ each_at s
    → ◌≡◌ {A = Header} (record { n = n; a = a; k = k; choice = choice; value = value; each = each }) (header_at s)
header_is s e n f a k choice v low high each = rw (e, n, f, a, k, choice, v, low, high, each)

-- what it is for number 12 not to apply
module _ (h : Header) (fine : bad_numbers h ≡ false) where
  pub numbers-ranged : out_of_range h.n h.a h.k ≡ false
  unfolding bad_numbers
  numbers-ranged = (or-false (out_of_range h.n h.a h.k) (unfit_value h.choice h.value) fine).0

  pub numbers-in : InRange h.n h.a h.k
  numbers-in = in-range h.n h.a h.k numbers-ranged

  pub value-fits : unfit_value h.choice h.value ≡ false
  unfolding bad_numbers
  value-fits = (or-false (out_of_range h.n h.a h.k) (unfit_value h.choice h.value) fine).1

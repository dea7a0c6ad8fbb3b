-- What a block's kind says of where the block stands. Assumes nothing.
use Rattle.std.proofs.Common.{◌≡◌, ℕ, ◌<◌, ◌≤◌, arith}
use Rattle.std.proofs.lemmas.Bool.Decides.{nat_tests}
use Rattle.plan_blocks.specs.Block.{blocks_for, kind_at}

pub header-stands : (n b : ℕ) → 1 ≡ kind_at n b → b ≡ 0
unfolding kind_at
header-stands n b e = grind (arith, nat_tests)

pub vertices-stand : (n b : ℕ) → 2 ≡ kind_at n b → (0 < b) × (b ≤ blocks_for n)
unfolding kind_at
vertices-stand n b e = (grind (arith, nat_tests), grind (arith, nat_tests))

pub arcs-stand : (n b : ℕ) → 3 ≡ kind_at n b → (0 < b) × (blocks_for n < b)
unfolding kind_at
arcs-stand n b e = (grind (arith, nat_tests), grind (arith, nat_tests))

-- `imbalance::legal_bits` meets its contract: a legal e is told by its pattern. Assumes nothing.
use Rattle.std.proofs.Common.{◌^◌, ◌<◌, sym, refl, ◌∙◌, arith, le-leb}
use borrow.Author.Tests.{lt-leb}
use Rattle.imbalance.proofs.Patterns.{most, legal-by-bits}
use Rattle.imbalance.proofs.legal_bits.Goals as goal

pub returns-then-bits-le-MOST_BITS : goal.returns-then-bits-le-MOST_BITS
returns-then-bits-le-MOST_BITS c =
    let b = c.args.bits in
    let small : b < 2 ^ 64 = omega arith in
    sym (legal-by-bits b small ∙ rw (le-leb b most c.if-bits-le-MOST_BITS.true) refl)

pub returns-else-bits-le-MOST_BITS : goal.returns-else-bits-le-MOST_BITS
returns-else-bits-le-MOST_BITS c =
    let b = c.args.bits in
    let small : b < 2 ^ 64 = omega arith in
    sym (legal-by-bits b small ∙ rw (lt-leb b most c.if-bits-le-MOST_BITS.false) refl)

-- `imbalance::legal_e` meets its contract: a NaN is not legal, and every other e is the float of its own bits. Assumes nothing.
use Rattle.std.proofs.Common.{sym, ◌∙◌}
use Rattle.imbalance.proofs.Patterns.{nan-illegal, legal-by-own-bits}
use Rattle.imbalance.proofs.legal_e.Goals as goal

pub returns-then-not-is_nan : goal.returns-then-not-is_nan
returns-then-not-is_nan c = c.legal_bits.ensures ∙ legal-by-own-bits c.args.e c.well_formed.0.1

pub returns-else-not-is_nan : goal.returns-else-not-is_nan
returns-else-not-is_nan c = rw c.if-not-is_nan.false (sym (nan-illegal c.args.e (sym c.is_nan.ensures.value ∙ c.if-not-is_nan.false)))

-- `plan_blocks::ceiling::unfit_value` meets its contract: each way out rewrites with the choice that led there. Assumes nothing.
use Rattle.plan_blocks.specs.Plan.{unfit_value}
use Rattle.std.proofs.Common.{◌≡◌, not, ap, arith}
use mathlib.Core.Logic.{⊎_elim}
use Rattle.std.proofs.lemmas.Bool.Decides.{nat_tests}
use Rattle.plan_blocks.proofs.ceiling.unfit_value.Goals as goal

pub returns-in-0 : goal.returns-in-0
unfolding unfit_value
returns-in-0 c = ⊎_elim (λ (e : c.args.choice ≡ 0). rw e) (λ (e : c.args.choice ≡ 3). rw e) c.in-0.is

pub returns-in-1 : goal.returns-in-1
unfolding unfit_value
returns-in-1 c = let e = c.from.ensures in rw c.in-1.is (grind (arith, nat_tests))

pub returns-in-2 : goal.returns-in-2
unfolding unfit_value
returns-in-2 c = rw c.in-2.is (ap not c.legal_bits.ensures)

pub returns-in_default : goal.returns-in_default
unfolding unfit_value
returns-in_default c = grind (arith, nat_tests)

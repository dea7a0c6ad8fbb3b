-- `imbalance::unfit_choice` meets its contract: each way out rewrites with the tests that led there. Assumes nothing.
use Rattle.std.proofs.Common.{le-ltb, lt-ltb, eq-eqb, ne_eqb, ap, not}
use Rattle.imbalance.specs.Ceiling.{unfit_choice}
use Rattle.imbalance.proofs.unfit_choice.Goals as goal

pub returns-then-asked-gt-LAST_CHOICE : goal.returns-then-asked-gt-LAST_CHOICE
unfolding unfit_choice
returns-then-asked-gt-LAST_CHOICE c = simp (lt-ltb _ _ c.if-asked-gt-LAST_CHOICE.true)

pub returns-then-asked-eq2 : goal.returns-then-asked-eq2
unfolding unfit_choice
returns-then-asked-eq2 c = rw (le-ltb _ _ c.if-asked-gt-LAST_CHOICE.false, eq-eqb _ _ c.if-asked-eq2.true) (ap not c.legal_e.ensures)

pub returns-else-asked-eq2 : goal.returns-else-asked-eq2
unfolding unfit_choice
returns-else-asked-eq2 c = rw (le-ltb _ _ c.if-asked-gt-LAST_CHOICE.false, ne_eqb _ _ c.if-asked-eq2.false)

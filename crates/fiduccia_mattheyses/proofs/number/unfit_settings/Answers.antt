-- `fiduccia_mattheyses::number::unfit_settings` meets its contract. Assumes nothing.
use Rattle.std.proofs.Common.{lt-ltb, le-ltb}
use Rattle.fiduccia_mattheyses.specs.Entry.{unfit}
use Rattle.fiduccia_mattheyses.proofs.number.unfit_settings.Goals as goal

pub returns-then-settings-gt-MOST_PASSES : goal.returns-then-settings-gt-MOST_PASSES
unfolding unfit
returns-then-settings-gt-MOST_PASSES c = rw (lt-ltb _ _ c.if-settings-gt-MOST_PASSES.true)

pub returns-else-settings-gt-MOST_PASSES : goal.returns-else-settings-gt-MOST_PASSES
unfolding unfit
returns-else-settings-gt-MOST_PASSES c = rw (le-ltb _ _ c.if-settings-gt-MOST_PASSES.false) c.unfit_choice.ensures

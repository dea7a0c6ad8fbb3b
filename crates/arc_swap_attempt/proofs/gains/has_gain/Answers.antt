-- `arc_swap_attempt::gains::has_gain` meets its contract: the largest gain is positive where the best sum is above the own. Assumes nothing.
use mathlib.Core.Path.{refl}
use Rattle.arc_swap_attempt.proofs.Tried.{has-gain-by}
use Rattle.arc_swap_attempt.proofs.gains.has_gain.Goals as goal

pub returns : goal.returns
returns c = has-gain-by _ _ _ _ c.requires.0 c.requires.1 _ _ _ refl c.sums_of-sums.ensures c.best_part.ensures

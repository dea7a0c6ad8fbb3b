-- `fiduccia_mattheyses_pass::gains::fresh_gains` meets its contract, by what its loop keeps. Assumes nothing.
use Rattle.std.proofs.Common.{ap, ◌∙◌, set, rules}
use mir.Syntax.{w64}
use mir.ValLaws.{to_z-of_z}
use Rattle.lists.proofs.Fills.{written_none, written-more}
use Rattle.fiduccia_mattheyses_pass.proofs.gains.fresh_gains.Goals as goal

pub loop-v-init : goal.loop-v-init
loop-v-init c = written_none _ _

pub loop-v-preserved : goal.loop-v-preserved
loop-v-preserved c =
    written-more _ c.loop-v.v _ _ _ (ap (set c.loop-v.gains c.loop-v.v)
    (to_z-of_z w64 _ (search rules) ∙ c.gain_of.ensures)) c.loop-v.invariant

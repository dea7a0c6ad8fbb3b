-- `fiduccia_mattheyses_pass::gains::shifted` meets its contract: what the arc changes is the gain's shift. Assumes nothing.
use lib.Dec.{eqb}
use Rattle.fiduccia_mattheyses_pass.proofs.Updates.{sum-shifts}
use Rattle.fiduccia_mattheyses_pass.proofs.gains.shifted.Goals as goal

pub returns : goal.returns
returns c =
    sum-shifts c.args.g c.args.w c.requires c.ranges.w.fits (eqb c.args.p c.args.old) c.twice.result c.twice.ensures

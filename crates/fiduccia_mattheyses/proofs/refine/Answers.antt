-- `fiduccia_mattheyses::refine` meets its contract: where the run begins, the passes and the report are laws of `Entering`. Assumes nothing.
use lib.ListN.{length}
use lib.Seq.{length-take-le}
use Rattle.fiduccia_mattheyses.proofs.Entering.{joined-long, joined-past, passes-asked, ran}
use Rattle.fiduccia_mattheyses.proofs.refine.Goals as goal

pub make_passes-ended-requires : goal.make_passes-ended-requires
make_passes-ended-requires c =
    passes-asked _ _ c.requires _ c.begin_run-begun.ensures _ (length-take-le _ c.args.gains.now c.requires.in_gains)

pub returns : goal.returns
returns c =
    let n = length c.args.labels.now in
    let gains = c.args.gains.now in
    let front = c.make_passes-ended.new.gains in
    let same = c.make_passes-ended.auto.gains in
    let places = c.requires.in_gains in
    ran _ _ c.requires _ c.begin_run-begun.ensures _ _ _ _ _ c.make_passes-ended.ensures _ _ (joined-long n gains front same places)
    (joined-past n gains front same places) c.finish.ensures.0 _ c.fill.ensures _ c.finish.ensures.1

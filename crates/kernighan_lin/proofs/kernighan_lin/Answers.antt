-- `kernighan_lin::kernighan_lin` meets its contract: refused or run. Assumes nothing.
use Rattle.std.proofs.Common.{sym}
use Rattle.kernighan_lin.proofs.Entering.{ready, at-refusal, at-run}
use Rattle.kernighan_lin.proofs.kernighan_lin.Goals as goal

pub returns-in-Err : goal.returns-in-Err
returns-in-Err c =
    at-refusal _ _ _ c.in-Err.refusal (rw c.lengths_of-lengths.ensures at c.in-Err.ensures) c.refused_report.ensures

pub refine-requires : goal.refine-requires
refine-requires c = let done = c.in_default.ensures in ready _ _ (sym (rw c.lengths_of-lengths.ensures at done))

pub returns : goal.returns
returns c = let done = c.in_default.ensures in at-run _ _ _ _ (sym (rw c.lengths_of-lengths.ensures at done)) c.refine.ensures

-- `plan_reader::reader::accept` meets its contract: what refuses the frame or the plan refuses the file. Assumes nothing.
use Rattle.std.proofs.Common.{sym}
use borrow.Author.Tests.{eqb-false}
use Rattle.std.proofs.lemmas.Result.{err_from_is_err_and}
use Rattle.lists.proofs.Refusals.{not-done}
use Rattle.plan_reader.proofs.ReadLaws.{long-enough, whole-blocks, by-frame, by-plan}
use Rattle.plan_reader.proofs.reader.accept.Goals as goal

pub returns-in_err-check_frame : goal.returns-in_err-check_frame
returns-in_err-check_frame c =
    let p = err_from_is_err_and c.from_residual.result c.from_residual.ensures.1 in
    rw (p.1, p.2) (by-frame _ _ _ _ _ _ _ c.in_err-check_frame.ensures (eqb-false _ 0 (not-done _)))

pub header_of-header-requires : goal.header_of-header-requires
header_of-header-requires c = long-enough _ (whole-blocks _ (sym c.in_ok-check_frame.ensures))

pub check_plan-requires : goal.check_plan-requires
check_plan-requires c = whole-blocks _ (sym c.in_ok-check_frame.ensures)

pub returns-in_err-check_plan : goal.returns-in_err-check_plan
returns-in_err-check_plan c =
    let p = err_from_is_err_and c.from_residual-in_err-check_plan.result c.from_residual-in_err-check_plan.ensures.1 in
    rw (p.1, p.2) (by-plan _ _ _ _ _ _ _ _ (sym c.in_ok-check_frame.ensures) c.header_of-header.ensures c.in_err-check_plan.ensures)

pub returns : goal.returns
returns c = (sym (by-plan _ _ _ _ _ _ _ _ (sym c.in_ok-check_frame.ensures) c.header_of-header.ensures c.in_ok-check_plan.ensures), c.header_of-header.ensures)

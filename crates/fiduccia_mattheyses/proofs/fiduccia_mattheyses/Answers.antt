-- `fiduccia_mattheyses::fiduccia_mattheyses` meets its promise: it is answered at once, or runs. Assumes nothing.
use Rattle.std.proofs.Common.{sym, ap, ◌∙◌}
use borrow.Author.Tests.{eqb-false}
use Rattle.lists.proofs.Refusals.{not-done}
use Rattle.fiduccia_mattheyses.specs.Entry.{refused}
use Rattle.fiduccia_mattheyses.proofs.Entering.{ready-to-run, at-empty, at-refusal, at-run}
use Rattle.fiduccia_mattheyses.proofs.fiduccia_mattheyses.Goals as goal

pub returns-then-labels-eq0 : goal.returns-then-labels-eq0
returns-then-labels-eq0 c = at-empty _ _ _ c.if-labels-eq0.true c.empty_report.ensures

pub returns-in-Err : goal.returns-in-Err
returns-in-Err c =
    let number = c.in-Err.ensures in
    at-refusal _ _ _ c.if-labels-eq0.false (λ z. eqb-false _ 0 (not-done c.in-Err.refusal) (number ∙ z))
    (c.refused_report.ensures ∙ ap refused number)

pub refine-requires : goal.refine-requires
refine-requires c = let done = c.in_default.ensures in ready-to-run _ _ c.if-labels-eq0.false (sym done)

pub returns : goal.returns
returns c = let done = c.in_default.ensures in at-run _ _ _ _ c.if-labels-eq0.false (sym done) c.refine.ensures

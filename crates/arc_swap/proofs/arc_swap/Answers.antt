-- `arc_swap::arc_swap` meets its promise: no vertex, a refusal, or the run. Assumes nothing.
use Rattle.std.proofs.Common.{sym, refl, ◌∙◌, eqb-true}
use borrow.Author.Tests.{eqb-false}
use Rattle.arc_swap.proofs.Entering.{ready, at-empty, at-refusal, at-run}
use Rattle.arc_swap.proofs.arc_swap.Goals as goal

pub returns-then-is_empty : goal.returns-then-is_empty
returns-then-is_empty c = at-empty _ _ _ _ (eqb-true _ 0 (sym c.is_empty.ensures ∙ c.if-is_empty.true)) c.empty_report.ensures refl

pub returns-in-Err : goal.returns-in-Err
returns-in-Err c = at-refusal _ _ (eqb-false _ 0 (sym c.is_empty.ensures ∙ c.if-is_empty.false)) _ c.in-Err.refusal c.in-Err.ensures c.refused_report.ensures

pub refine-requires : goal.refine-requires
refine-requires c = let done = c.in_default.ensures in ready _ _ (sym done)

pub returns : goal.returns
returns c = let done = c.in_default.ensures in at-run _ _ (eqb-false _ 0 (sym c.is_empty.ensures ∙ c.if-is_empty.false)) _ _ (sym done) c.refine.ensures

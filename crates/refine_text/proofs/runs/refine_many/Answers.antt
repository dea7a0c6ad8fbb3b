-- `refine_text::runs::refine_many` meets its contract: arc-swap, and its lines or its refusal. Assumes nothing.
use native.Mathlib.Omega.{arith}
use Rattle.arc_swap.proofs.Parts.{parts-few}
use Rattle.refine_words.proofs.Texts.{put_as}
use Rattle.refine_text.proofs.Shown.{many-loads, many-refused, many-done}
use Rattle.refine_text.proofs.runs.refine_many.Goals as goal

pub returns-then-report-ne0 : goal.returns-then-report-ne0
returns-then-report-ne0 c =
    put_as (many-refused c.arc_swap_counted-answered.ensures c.if-report-ne0.true) (omega arith)
    c.put_refusal.ensures

pub put_many-requires : goal.put_many-requires
put_many-requires c =
    let few = (parts-few c.args.labels.now c.requires.1).1 in (
      omega (arith, c.requires.0, c.arc_swap_counted-answered.auto.labels),
      omega (arith, c.parts_of-parts.ensures),
      many-loads c.arc_swap_counted-answered.ensures,
    )

pub returns : goal.returns
returns c =
    put_as (many-done c.arc_swap_counted-answered.ensures _
    c.parts_of-parts.ensures c.if-report-ne0.false) (omega arith)
    c.put_many.ensures

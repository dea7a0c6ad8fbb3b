-- `refine_text::runs::refine_two` meets its contract: FM, and its lines or its refusal. Assumes nothing.
use native.Mathlib.Omega.{arith}
use Rattle.refine_words.proofs.Texts.{put_as}
use Rattle.refine_text.proofs.Shown.{two-few, two-loads, two-refused, two-done}
use Rattle.refine_text.proofs.runs.refine_two.Goals as goal

pub returns-then-report-ne0 : goal.returns-then-report-ne0
returns-then-report-ne0 c =
    put_as (two-refused c.with_moves-report.ensures c.if-report-ne0.true) (omega arith) c.put_refusal.ensures

pub put_two-requires : goal.put_two-requires
put_two-requires c =
    let f = two-few c.with_moves-report.ensures c.requires.1 in (
      omega (arith, c.requires.0, c.with_moves-report.auto.labels),
      f,
      omega (arith, c.with_moves-report.auto.rows_made),
      omega (arith, c.with_moves-report.auto.rows_rewound),
      two-loads c.with_moves-report.ensures,
    )

pub returns : goal.returns
returns c =
    put_as (two-done c.with_moves-report.ensures c.if-report-ne0.false) (omega arith) c.put_two.ensures

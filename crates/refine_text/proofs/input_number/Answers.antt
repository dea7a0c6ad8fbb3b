-- `refine_text::input_number` meets its contract: each way out is one law of the number. Assumes nothing.
use mathlib.Core.Path.{◌∙◌}
use native.Mathlib.Omega.{arith}
use Rattle.refine_text.proofs.Judged.{judged-low, whole-header, judged-beyond, judged-within, many-vertices, many-arcs}
use Rattle.refine_text.proofs.input_number.Goals as goal

pub returns-then-number-le12 : goal.returns-then-number-le12
returns-then-number-le12 c =
    judged-low _ _ c.requires.0 c.requires.1 (omega (arith, c.if-number-le12.true)) c.requires.2

pub word_at-requires : goal.word_at-requires
word_at-requires c =
    omega (arith, whole-header _ _ c.requires.0 c.requires.1 c.if-number-le12.false)

pub returns-then-word_at-gt-PLAN_VERTICES : goal.returns-then-word_at-gt-PLAN_VERTICES
returns-then-word_at-gt-PLAN_VERTICES c =
    c.from.ensures ∙ judged-beyond _ _ c.requires.0 c.requires.1 c.if-number-le12.false
    (many-vertices _ _ c.word_at.ensures c.if-word_at-gt-PLAN_VERTICES.true)

pub word_at-requires-2 : goal.word_at-requires-2
word_at-requires-2 c =
    omega (arith, whole-header _ _ c.requires.0 c.requires.1 c.if-number-le12.false)

pub returns-then-word_at-gt-PLAN_ARCS : goal.returns-then-word_at-gt-PLAN_ARCS
returns-then-word_at-gt-PLAN_ARCS c =
    c.from-then-word_at-gt-PLAN_ARCS.ensures ∙ judged-beyond _ _ c.requires.0 c.requires.1 c.if-number-le12.false
    (many-arcs _ _ c.word_at-2.ensures c.if-word_at-gt-PLAN_ARCS.true)

pub returns : goal.returns
returns c =
    judged-within _ _ c.requires.0 c.requires.1 c.if-number-le12.false _ _ c.word_at.ensures
    c.if-word_at-gt-PLAN_VERTICES.false c.word_at-2.ensures c.if-word_at-gt-PLAN_ARCS.false

-- `refine_text::refine_text` meets its contract: an input unread, one that the reader refuses, and a plan. `had` and `number_read` are the lemmas that the answers share. Assumes nothing.
use mathlib.Core.Path.{sym, ◌∙◌}
use native.Mathlib.Omega.{arith}
use Rattle.refine_text.proofs.Judged.{unread, judged-zero, judged-refused}
use Rattle.refine_text.proofs.Handed.{zeros, number_read, had, labels-ready, printed-refusal, printed-plan}
use Rattle.refine_text.proofs.refine_text.Goals as goal

pub returns-then-input-gt-INPUT_BYTES : goal.returns-then-input-gt-INPUT_BYTES
returns-then-input-gt-INPUT_BYTES c =
    printed-refusal _ _ _ _ _ (c.from.ensures ∙ unread _ (omega (arith, c.if-input-gt-INPUT_BYTES.true))) (λ z. omega (arith, c.from.ensures)) c.put_refusal.ensures

pub input_number-requires : goal.input_number-requires
input_number-requires c =
    (omega (arith, c.if-input-gt-INPUT_BYTES.false), number_read zeros c.read_plan-read.ensures, c.if-read-ne0.true)

pub returns-then-read-ne0 : goal.returns-then-read-ne0
returns-then-read-ne0 c =
    let e = c.input_number.ensures in
    printed-refusal _ _ _ _ _ e
    (λ z. judged-refused _ _ (omega (arith, c.if-input-gt-INPUT_BYTES.false)) (number_read zeros c.read_plan-read.ensures) c.if-read-ne0.true
    (sym e ∙ z))
    c.put_refusal-then-read-ne0.ensures

pub prove-unreachable-requires : goal.prove-unreachable-requires
prove-unreachable-requires c =
    let few = (had zeros c.read_plan-read.ensures c.if-read-ne0.false).few in
    omega (arith, few, c.if-prove.true)

pub prove-unreachable-requires-2 : goal.prove-unreachable-requires-2
prove-unreachable-requires-2 c =
    let few = (had zeros c.read_plan-read.ensures c.if-read-ne0.false).few_arcs in
    omega (arith, few, c.if-prove-2.true)

pub refine_lists-requires : goal.refine_lists-requires
refine_lists-requires c = labels-ready (had zeros c.read_plan-read.ensures c.if-read-ne0.false)

pub returns : goal.returns
returns c =
    printed-plan _ _ _ _ _ _
    (judged-zero _ _ (omega (arith, c.if-input-gt-INPUT_BYTES.false)) (number_read zeros c.read_plan-read.ensures) c.if-read-ne0.false)
    (had zeros c.read_plan-read.ensures c.if-read-ne0.false)
    c.refine_lists.ensures

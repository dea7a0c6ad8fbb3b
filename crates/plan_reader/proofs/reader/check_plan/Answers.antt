-- `plan_reader::reader::check_plan` meets its contract: each return rewrites with the tests that led there. A lemma for what they share would ask for the same tests, and be no shorter. Assumes nothing.
use Rattle.plan_reader.proofs.ReadLaws.{sized-by}
use Rattle.plan_reader.specs.inner.Reading.{plan_number}
use Rattle.plan_blocks.proofs.Headers.{numbers-in}
use native.Mathlib.Omega.{arith}
use mathlib.Core.Path.{sym, ◌∙◌}
use Rattle.plan_reader.proofs.reader.check_plan.Goals as goal

pub returns-then-bad_numbers : goal.returns-then-bad_numbers
unfolding plan_number
returns-then-bad_numbers c = simp (sym c.bad_numbers.ensures ∙ c.if-bad_numbers.true)

pub returns-then-bad_later : goal.returns-then-bad_later
unfolding plan_number
returns-then-bad_later c =
    simp (sym c.bad_numbers.ensures ∙ c.if-bad_numbers.false, sym c.bad_later.ensures ∙ c.if-bad_later.true)

pub bad_records-requires : goal.bad_records-requires
bad_records-requires c =
    let z = sized-by _ _ _ c.requires (sym c.bad_later.ensures ∙ c.if-bad_later.false) in
    (sym c.bad_numbers.ensures ∙ c.if-bad_numbers.false, omega arith)

pub returns-then-bad_records : goal.returns-then-bad_records
unfolding plan_number
returns-then-bad_records c =
    simp (sym c.bad_numbers.ensures ∙ c.if-bad_numbers.false, sym c.bad_later.ensures ∙ c.if-bad_later.false, sym c.bad_records.ensures ∙ c.if-bad_records.true)

pub short_of-requires : goal.short_of-requires
short_of-requires c =
    (numbers-in _ (sym c.bad_numbers.ensures ∙ c.if-bad_numbers.false)).few

pub returns-then-short_of : goal.returns-then-short_of
unfolding plan_number
returns-then-short_of c =
    simp (sym c.bad_numbers.ensures ∙ c.if-bad_numbers.false, sym c.bad_later.ensures ∙ c.if-bad_later.false, sym c.bad_records.ensures ∙ c.if-bad_records.false, sym c.short_of.ensures ∙ c.if-short_of.true)

pub returns : goal.returns
unfolding plan_number
returns c =
    simp (sym c.bad_numbers.ensures ∙ c.if-bad_numbers.false, sym c.bad_later.ensures ∙ c.if-bad_later.false, sym c.bad_records.ensures ∙ c.if-bad_records.false, sym c.short_of.ensures ∙ c.if-short_of.false)

-- `plan_reader::reader::check_frame` meets its contract: each return rewrites with the tests that led there. A lemma for what they share would ask for the same tests, and be no shorter. Assumes nothing.
use Rattle.plan_reader.proofs.ReadLaws.{long-enough}
use Rattle.plan_reader.specs.inner.Reading.{frame_number}
use Rattle.plan_blocks.specs.Block.{header_count}
use Rattle.plan_blocks.specs.Decode.{bad_kind, bad_header}
use Rattle.plan_blocks.proofs.Places.{header-most}
use native.Mathlib.Omega.{arith}
use borrow.Author.Tests.{lt-ltb, le-ltb}
use mathlib.Core.Path.{sym, ap, ◌∙◌}
use Rattle.plan_reader.proofs.reader.check_frame.Goals as goal

pub returns-then-bad_length : goal.returns-then-bad_length
unfolding frame_number
returns-then-bad_length c = simp (sym c.bad_length.ensures ∙ c.if-bad_length.true)

pub kind_of-file-requires : goal.kind_of-file-requires
kind_of-file-requires c =
    let l = long-enough _ (sym c.bad_length.ensures ∙ c.if-bad_length.false) in
    omega arith

pub returns-then-file-gt1 : goal.returns-then-file-gt1
unfolding frame_number bad_kind
returns-then-file-gt1 c =
    let above = c.if-file-gt1.true in
    simp (sym c.bad_length.ensures ∙ c.if-bad_length.false, sym c.kind_of-file.ensures.0, lt-ltb 1 c.kind_of-file.result (omega arith))

pub returns-then-bad_check : goal.returns-then-bad_check
unfolding frame_number bad_kind
returns-then-bad_check c =
    simp (sym c.bad_length.ensures ∙ c.if-bad_length.false, sym c.kind_of-file.ensures.0, le-ltb 1 _ c.if-file-gt1.false, sym c.bad_check.ensures ∙ c.if-bad_check.true)

pub word_at-requires : goal.word_at-requires
word_at-requires c =
    let l = long-enough _ (sym c.bad_length.ensures ∙ c.if-bad_length.false) in
    omega arith

pub laid_out-requires : goal.laid_out-requires
laid_out-requires c =
    let k = c.if-file-gt1.false in
    let h = c.from-kind.ensures in
    let l = long-enough _ (sym c.bad_length.ensures ∙ c.if-bad_length.false) in
    let e = c.header_count-count.ensures in
    let m = header-most c.word_at.result in
    omega arith

pub returns-then-not-laid_out : goal.returns-then-not-laid_out
unfolding frame_number bad_kind bad_header
returns-then-not-laid_out c =
    let asked = ap header_count (sym c.word_at.ensures) ∙ sym c.header_count-count.ensures in
    simp (sym c.bad_length.ensures ∙ c.if-bad_length.false, sym c.kind_of-file.ensures.0, le-ltb 1 _ c.if-file-gt1.false, sym c.bad_check.ensures ∙ c.if-bad_check.false, asked, sym (rw c.from-kind.ensures at c.laid_out.ensures) ∙ c.if-not-laid_out.true)

pub returns : goal.returns
unfolding frame_number bad_kind bad_header
returns c =
    let asked = ap header_count (sym c.word_at.ensures) ∙ sym c.header_count-count.ensures in
    simp (sym c.bad_length.ensures ∙ c.if-bad_length.false, sym c.kind_of-file.ensures.0, le-ltb 1 _ c.if-file-gt1.false, sym c.bad_check.ensures ∙ c.if-bad_check.false, asked, sym (rw c.from-kind.ensures at c.laid_out.ensures) ∙ c.if-not-laid_out.false)

-- `plan_blocks::header::bad_numbers` meets its contract: each way out rewrites with the test that led there. Assumes nothing.
use Rattle.plan_blocks.specs.Decode.{bad_numbers}
use Rattle.std.proofs.Common.{sym, ◌∙◌}
use Rattle.plan_blocks.proofs.header.bad_numbers.Goals as goal

pub returns-then-out_of_range : goal.returns-then-out_of_range
unfolding bad_numbers
returns-then-out_of_range c = rw (sym c.out_of_range.ensures ∙ c.if-out_of_range.true) c.if-out_of_range.true

pub returns-else-out_of_range : goal.returns-else-out_of_range
unfolding bad_numbers
returns-else-out_of_range c =
    simp (sym c.out_of_range.ensures ∙ c.if-out_of_range.false) c.unfit_value.ensures

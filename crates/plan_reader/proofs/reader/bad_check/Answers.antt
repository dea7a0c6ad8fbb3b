-- `plan_reader::reader::bad_check` meets its contract: the library asks of each block what the definition asks. Assumes nothing.
use Rattle.std.proofs.Common.{not, ap, refl, ◌∙◌, ◌/◌, length, arith, rules, tests}
use Rattle.std.proofs.lemmas.Iterator.{YieldsList-from_range}
use Rattle.std.proofs.lemmas.Iterator.Search.{all_from_yields_List}
use Rattle.lists.proofs.Alls.{all-below}
use Rattle.plan_blocks.specs.Block.{sum_at, checks}
use Rattle.plan_blocks.specs.Decode.{in_block, bad_check}
use Rattle.plan_reader.proofs.reader.bad_check.Goals as goal

pub returns : goal.returns
unfolding bad_check
returns c =
    let a = c.args in
    ap not
    (all_from_yields_List (λ b. checks (sum_at a.file b) (in_block a.bytes.now b)) _ _ _ c.all.ensures.ran
    (YieldsList-from_range 0 (length a.bytes.now / 512) (length a.bytes.now / 512) refl (omega arith)) (λ x b q k. search (rules, tests))
    ∙ all-below _ (length a.bytes.now / 512))

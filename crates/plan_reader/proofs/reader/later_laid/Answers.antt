-- `plan_reader::reader::later_laid` meets its contract: the library asks of each later block what the definition asks. Assumes nothing.
use Rattle.std.proofs.Common.{refl, ◌∙◌, ◌/◌, length, rules, tests}
use Rattle.std.proofs.lemmas.Iterator.{YieldsList-from_range}
use Rattle.std.proofs.lemmas.Iterator.Search.{all_from_yields_List}
use Rattle.lists.proofs.Alls.{all-from-range}
use Rattle.plan_blocks.specs.Block.{laid_out, kind_at, count_at}
use Rattle.plan_blocks.specs.Decode.{in_block, later_laid}
use Rattle.plan_reader.proofs.reader.later_laid.Goals as goal

pub returns : goal.returns
unfolding later_laid
returns c =
    let a = c.args in
    let h = a.header in
    all_from_yields_List (λ b. laid_out a.file (kind_at h.n b) (count_at h.choice h.n h.a b) (in_block a.bytes.now b)) _ _ _ c.all.ensures.ran
    (YieldsList-from_range 1 (length a.bytes.now / 512) _ refl refl) (λ x b q k. search (rules, tests))
    ∙ all-from-range _ 1 (length a.bytes.now / 512)

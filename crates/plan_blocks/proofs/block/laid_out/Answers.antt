-- `plan_blocks::block::laid_out` meets its contract: the first word is compared, and the library asks of each unused word what the definition asks. Assumes nothing.
use Rattle.std.proofs.Common.{◌≡◌, ◌+◌, ◌*◌, eqb, refl, ◌∙◌, arith, rules, tests, eq-eqb, ne_eqb}
use Rattle.std.proofs.lemmas.Iterator.{YieldsList-from_range}
use Rattle.std.proofs.lemmas.Iterator.Search.{all_from_yields_List}
use Rattle.lists.proofs.Alls.{all-from-range}
use Rattle.plan_blocks.specs.Word.{word}
use Rattle.plan_blocks.specs.Block.{opening, laid_out}
use Rattle.plan_blocks.proofs.block.laid_out.Goals as goal

pub returns-then-word_at-kind : goal.returns-then-word_at-kind
unfolding laid_out
returns-then-word_at-kind c =
    let a = c.args in
    let z : 128 * a.b + 0 ≡ 128 * a.b = omega arith in
    rw (z, ← c.word_at.ensures, eq-eqb _ (opening a.file a.kind a.count) c.if-word_at-kind.true)
    (all_from_yields_List (λ j. eqb (word a.bytes.now (128 * a.b + j)) 0) _ _ _ c.all.ensures.ran
    (YieldsList-from_range (1 + 2 * a.count) 127 _ refl refl) (λ x b q k. search (rules, tests))
    ∙ all-from-range _ (1 + 2 * a.count) 127)

pub returns-else-word_at-kind : goal.returns-else-word_at-kind
unfolding laid_out
returns-else-word_at-kind c =
    let a = c.args in
    let z : 128 * a.b + 0 ≡ 128 * a.b = omega arith in
    rw (z, ← c.word_at.ensures, ne_eqb _ (opening a.file a.kind a.count) c.if-word_at-kind.false) refl

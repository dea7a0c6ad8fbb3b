-- `plan_blocks::layout::kind_at` meets its contract: each way out rewrites with the tests that led there. Assumes nothing.
use Rattle.plan_blocks.specs.Block.{kind_at}
use Rattle.std.proofs.Common.{eq-eqb, ne_eqb, le-leb}
use borrow.Author.Tests.{lt-leb}
use Rattle.plan_blocks.proofs.layout.kind_at.Goals as goal

pub returns-then-b-eq0 : goal.returns-then-b-eq0
unfolding kind_at
returns-then-b-eq0 c = simp (eq-eqb _ _ c.if-b-eq0.true)

pub returns-then-b-blocks_for : goal.returns-then-b-blocks_for
unfolding kind_at
returns-then-b-blocks_for c =
    simp (ne_eqb _ _ c.if-b-eq0.false, le-leb _ _ (rw c.blocks_for.ensures at c.if-b-blocks_for.true))

pub returns-else-b-blocks_for : goal.returns-else-b-blocks_for
unfolding kind_at
returns-else-b-blocks_for c =
    simp (ne_eqb _ _ c.if-b-eq0.false, lt-leb _ _ (rw c.blocks_for.ensures at c.if-b-blocks_for.false))

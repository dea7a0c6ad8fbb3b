-- `plan_blocks::layout::count_at` meets its contract: a block's kind says where the block stands. Assumes nothing.
use Rattle.std.proofs.Common.{ℕ, ◌-◌, ap, ◌∙◌, arith, eq-eqb, ne_eqb, le-leb}
use Rattle.plan_blocks.specs.Block.{blocks_for, blocks_of, held_by, count_at}
use Rattle.plan_blocks.proofs.BlockKinds.{header-stands, vertices-stand, arcs-stand}
use borrow.Author.Tests.{lt-leb}
use Rattle.plan_blocks.proofs.layout.count_at.Goals as goal

pub returns-in-Header : goal.returns-in-Header
unfolding count_at
returns-in-Header c = simp (eq-eqb _ _ (header-stands _ _ c.in-Header.ensures)) c.header_count.ensures

pub overflow_sub-b : goal.overflow_sub-b
overflow_sub-b c = (vertices-stand _ _ c.in-Vertices.ensures).0

pub held_by-requires : goal.held_by-requires
unfolding blocks_for
held_by-requires c = let at = vertices-stand _ _ c.in-Vertices.ensures in (omega arith, omega arith)

pub returns-in-Vertices : goal.returns-in-Vertices
unfolding count_at
returns-in-Vertices c =
    let at = vertices-stand _ _ c.in-Vertices.ensures in
    simp (ne_eqb c.args.b 0 (λ e. omega arith), le-leb _ _ at.1) c.held_by.ensures

pub overflow_sub-b-in-Arcs : goal.overflow_sub-b-in-Arcs
overflow_sub-b-in-Arcs c = (arcs-stand _ _ c.in-Arcs.ensures).0

pub overflow_sub-b-in-Arcs-2 : goal.overflow_sub-b-in-Arcs-2
overflow_sub-b-in-Arcs-2 c = let at = arcs-stand _ _ c.in-Arcs.ensures in omega (arith, c.blocks_for.ensures)

pub held_by-requires-in-Arcs : goal.held_by-requires-in-Arcs
unfolding blocks_for blocks_of
held_by-requires-in-Arcs c =
    let at = arcs-stand _ _ c.in-Arcs.ensures in
    (omega (arith, c.blocks_for.ensures), omega (arith, c.blocks_for.ensures))

pub returns-in-Arcs : goal.returns-in-Arcs
unfolding count_at
returns-in-Arcs c =
    let a = c.args in
    let at = arcs-stand _ _ c.in-Arcs.ensures in
    simp (ne_eqb a.b 0 (λ e. omega arith), lt-leb _ _ at.1)
    (c.held_by-in-Arcs.ensures ∙ ap (λ (v : ℕ). held_by a.a (a.b - 1 - v)) c.blocks_for.ensures)

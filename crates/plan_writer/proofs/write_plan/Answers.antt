-- `plan_writer::write_plan` meets its contract: a refusal writes nothing, and the writer's steps make the file of the plan. Assumes nothing.
use Rattle.plan_writer.proofs.Blocks.{length-laid, steps-write}
use Rattle.plan_writer.proofs.Puts.{length-puts}
use Rattle.plan_writer.proofs.WriteEntry.{fits, blocks-asked, vertices-asked, arcs-asked, write-refused, write_done}
use Rattle.plan_writer.specs.Write.{size_of}
use Rattle.plan_blocks.specs.declared.header.Header.{Header}
use borrow.Author.Tests.{eqb-false}
use Rattle.lists.proofs.Refusals.{not-done}
use Rattle.std.proofs.Common.{length, sym, refl, ap, ◌∙◌, ap₂}
use Rattle.plan_writer.proofs.write_plan.Goals as goal

pub returns-in-Err : goal.returns-in-Err
returns-in-Err c = rw c.from.ensures (write-refused _ _ _ _ c.in-Err.ensures (eqb-false _ 0 (not-done c.in-Err.refusal)) refl)

pub lay_out-requires : goal.lay_out-requires
lay_out-requires c =
    blocks-asked _ _ (fits _ _ c.in-Ok.ensures.0) _ c.in-Ok.ensures.1 _ refl

pub write_header-requires : goal.write_header-requires
write_header-requires c =
    blocks-asked _ _ (fits _ _ c.in-Ok.ensures.0) _ c.in-Ok.ensures.1 _ (ap length c.lay_out.ensures ∙ length-laid _ _ _ _)

pub write_vertices-requires : goal.write_vertices-requires
write_vertices-requires c =
    vertices-asked _ _ (fits _ _ c.in-Ok.ensures.0) _ c.in-Ok.ensures.1 _ (ap length c.write_header.ensures ∙ length-puts _ _ _ _ ∙ ap length c.lay_out.ensures ∙ length-laid _ _ _ _)

pub write_arcs-requires : goal.write_arcs-requires
write_arcs-requires c =
    arcs-asked _ _ (fits _ _ c.in-Ok.ensures.0) _ c.in-Ok.ensures.1 _ (ap length c.write_vertices.ensures ∙ length-puts _ _ _ _ ∙ ap length c.write_header.ensures ∙ length-puts _ _ _ _ ∙ ap length c.lay_out.ensures ∙ length-laid _ _ _ _)

pub seal-length-requires : goal.seal-length-requires
seal-length-requires c =
    blocks-asked _ _ (fits _ _ c.in-Ok.ensures.0) _ c.in-Ok.ensures.1 _ (ap length c.write_arcs.ensures ∙ length-puts _ _ _ _ ∙ ap length c.write_vertices.ensures ∙ length-puts _ _ _ _ ∙ ap length c.write_header.ensures ∙ length-puts _ _ _ _ ∙ ap length c.lay_out.ensures ∙ length-laid _ _ _ _)

pub returns-in-Ok : goal.returns-in-Ok
returns-in-Ok c =
    let f = fits _ _ c.in-Ok.ensures.0 in
    let e = c.in-Ok.ensures.1 in
    let w = c.seal-length.ensures in
    write_done _ _ _ _ (sym c.in-Ok.ensures.0) _ refl (w.0 ∙ ap₂ size_of (ap (λ (h : Header). h.n) e) (ap (λ (h : Header). h.a) e))
    (steps-write _ _ _ _ _ _ _ _ _ _ _ _ _ _ _ _ e f.roomy c.lay_out.ensures c.write_header.ensures c.write_vertices.ensures c.write_arcs.ensures w.1)

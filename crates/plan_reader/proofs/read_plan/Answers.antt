-- `plan_reader::read_plan` meets its contract: a refusal writes nothing, and an accepted file's records and header are handed over. `accepted-places` is the lemma that three answers share, each at another of its fields. Assumes nothing.
use Rattle.plan_reader.proofs.ReadEntry.{read-refused, read_done, header-handed}
use Rattle.plan_reader.proofs.ReadLaws.{accepted-places, numbers-fit}
use Rattle.plan_blocks.specs.declared.header.Header.{Header}
use Rattle.std.proofs.Common.{sym, refl, ap, arith}
use borrow.Author.Tests.{eqb-false}
use Rattle.lists.proofs.Refusals.{not-done}
use Rattle.plan_reader.proofs.read_plan.Goals as goal

pub returns-in-Err : goal.returns-in-Err
returns-in-Err c = read-refused _ _ _ _ c.in-Err.ensures (eqb-false _ 0 (not-done c.in-Err.refusal)) c.refused.ensures

pub read_vertices-requires : goal.read_vertices-requires
read_vertices-requires c =
    let r = accepted-places _ _ _ _ _ _ c.in-Ok.ensures.0 in
    let n = ap (λ (h : Header). h.n) c.in-Ok.ensures.1 in
    (r.accepted, n, omega arith, omega arith, omega arith)

pub read_arcs-requires : goal.read_arcs-requires
read_arcs-requires c =
    let r = accepted-places _ _ _ _ _ _ c.in-Ok.ensures.0 in
    let n = ap (λ (h : Header). h.n) c.in-Ok.ensures.1 in
    let a = ap (λ (h : Header). h.a) c.in-Ok.ensures.1 in
    (r.accepted, n, a, omega arith, omega arith)

pub read_header-requires : goal.read_header-requires
read_header-requires c =
    let r = accepted-places _ _ _ _ _ _ c.in-Ok.ensures.0 in
    numbers-fit _ _ c.in-Ok.ensures.1 r.accepted

pub returns-in-Ok : goal.returns-in-Ok
returns-in-Ok c =
    let v = c.read_vertices.ensures in
    let a = c.read_arcs.ensures in
    read_done _ _ _ _ _ (sym c.in-Ok.ensures.0) refl (header-handed _ _ _ c.in-Ok.ensures.1 c.read_header.ensures) v.0 v.1 v.2 a.0 a.1

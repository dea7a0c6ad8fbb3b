-- `Graph::misfits` meets its contract: the starts that do not fit, or else the other two lists. Assumes nothing.
use Rattle.std.proofs.Common.{◌≡◌, length, sym, ap, ◌∙◌, not, arith, eqb-true}
use lib.Dec.{eqb}
use borrow.Author.Tests.{eqb-false, not-true, not-false}
use Rattle.topology.specs.Graph.{Graph}
use Rattle.topology.proofs.Numbers.{miscounted, counted-by}
use Rattle.topology.proofs.Graph.misfits.Goals as goal
use Rattle.topology.proofs.Graph.misfits.Goals.{then-self-eq0, else-self-eq0}

pub returns-then-self-n : goal.returns-then-self-n
returns-then-self-n c =
    let q : length c.self.inside.starts.now ≡ length c.args.self.now.starts = ap (λ (g : Graph). length g.starts) c.self.view_is in
    rw c.if-self-n.true
    (elim c.if-self-eq0.branch [
      | then-self-eq0 w ↦ miscounted c.args.n c.args.self.now (λ e. omega (arith, q, w.if-self-eq0.true))
      | else-self-eq0 w ↦
          let ne = eqb-false _ c.args.n (not-true _ (sym w.value-is ∙ c.if-self-n.true)) in
          miscounted c.args.n c.args.self.now (λ e. ne (omega (arith, q)))
    ])

pub returns-else-self-n : goal.returns-else-self-n
returns-else-self-n c =
    let q : length c.self.inside.starts.now ≡ length c.args.self.now.starts = ap (λ (g : Graph). length g.starts) c.self.view_is in
    let pairs = ap (λ (g : Graph). not (eqb (length g.neighbours) (length g.weights))) c.self.view_is in
    elim c.if-self-eq0.branch [
      | then-self-eq0 w ↦ let e = eqb-false _ 0 (sym w.value-is ∙ c.if-self-n.false) in absurd (e w.if-self-eq0.true)
      | else-self-eq0 w ↦
          let e = eqb-true _ c.args.n (not-false _ (sym w.value-is ∙ c.if-self-n.false)) in
          counted-by c.args.n c.args.self.now (omega (arith, q, w.if-self-eq0.false)) _ pairs
    ]

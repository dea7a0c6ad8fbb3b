-- `Graph::has_arc` meets its contract: the row rises strictly, so the place that halving finds settles it. Assumes nothing.
use Rattle.std.proofs.Common.{ℕ, sym, ap, ◌∙◌, arith, eqb-true, ltb-true}
use lib.Dec.{eqb}
use borrow.Author.Tests.{eqb-false}
use Rattle.topology.proofs.Lookups.{not-reached, passed_over, settled}
use Rattle.topology.proofs.Graph.has_arc.Goals as goal
use Rattle.topology.proofs.Graph.has_arc.Goals.{then-e-hi, else-e-hi}

pub returns-then-neighbour-u : goal.returns-then-neighbour-u
returns-then-neighbour-u c =
    elim c.if-e-hi.branch [
      | then-e-hi w ↦
          let there = eqb-true w.neighbour.result c.args.u (sym w.value-is ∙ c.if-neighbour-u.true) in
          settled _ _ _ _ _ _ _ c.first.ensures c.past-hi.ensures c.requires.1 c.lowest_from-e.ensures w.if-e-hi.true _ w.neighbour.ensures there _
          (ap (λ (k : ℕ). eqb k c.args.w) c.weight.ensures)
      | else-e-hi w ↦ let l = ltb-true c.lowest_from-e.result c.past-hi.result (sym w.value-is ∙ c.if-neighbour-u.true) in absurd (omega arith)
    ]

pub returns-else-neighbour-u : goal.returns-else-neighbour-u
returns-else-neighbour-u c =
    rw c.if-neighbour-u.false
    (elim c.if-e-hi.branch [
      | then-e-hi w ↦
          let other = eqb-false w.neighbour.result c.args.u (sym w.value-is ∙ c.if-neighbour-u.false) in
          passed_over _ _ _ _ _ _ _ c.first.ensures c.past-hi.ensures c.requires.1 c.lowest_from-e.ensures w.if-e-hi.true _ w.neighbour.ensures other
      | else-e-hi w ↦ not-reached _ _ _ _ _ _ _ c.first.ensures c.past-hi.ensures c.requires.1 c.lowest_from-e.ensures w.if-e-hi.false
    ])

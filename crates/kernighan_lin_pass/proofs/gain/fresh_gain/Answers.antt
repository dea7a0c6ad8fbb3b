-- `kernighan_lin_pass::gain::fresh_gain` meets its contract: each arc goes into one of the two sums. Assumes nothing.
use native.Mathlib.Omega.{arith}
use Prim.Native.Nat.{◌<◌}
use borrow.Author.Rules.{rules}
use borrow.Author.Tests.{eq-eqb, ne_eqb}
use Rattle.topology.specs.Graph.{into}
use Rattle.topology.specs.inner.Row.{word_bound}
use Rattle.topology.proofs.RowWalks.{further, one-summed, passed_over}
use Rattle.topology.proofs.GainSums.{begins, answers}
use Rattle.kernighan_lin_pass.specs.Gain.{fresh}
use Rattle.kernighan_lin_pass.proofs.gain.fresh_gain.Goals as goal
use Rattle.kernighan_lin_pass.proofs.gain.fresh_gain.Goals.{then-labels-v, else-labels-v}

pub loop-e-init : goal.loop-e-init
loop-e-init c = begins c.requires.0.rows c.args.u _ _ c.requires.1 c.first-e.ensures c.past-e-end.ensures

pub loop-e-preserved : goal.loop-e-preserved
loop-e-preserved c =
    let i = c.loop-e.invariant in
    let on = further i.walk c.loop-e-test.true in
    let f = i.walk.from in
    let v = c.neighbour-v.ensures in
    let w = rw c.weight.ensures at c.from-w.ensures in
    let light : c.from-w.result < word_bound = omega (arith, c.from-w.ensures, c.weight.type_inv) in
    elim c.if-labels-v.branch [
      | then-labels-v t ↦
          (let same = eq-eqb _ _ t.if-labels-v.true in
          rw (t.there-is, t.here-is) (record { walk = on; there-is = passed_over i.there-is f _ v (rw same); here-is = one-summed i.here-is f _ _ v (rw same w) light }))
      | else-labels-v t ↦
          (let other = ne_eqb _ _ t.if-labels-v.false in
          rw (t.there-is, t.here-is) (record { walk = on; there-is = one-summed i.there-is f _ _ v (rw other w) light; here-is = passed_over i.here-is f _ v (rw other) }))
    ]

pub returns : goal.returns
unfolding fresh into
returns c = search (answers, rules)

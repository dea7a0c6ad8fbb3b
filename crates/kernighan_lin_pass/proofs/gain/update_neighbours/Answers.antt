-- `kernighan_lin_pass::gain::update_neighbours` meets its contract: each arc tells its vertex. Assumes nothing.
use Prim.Native.Nat.{◌+◌, ◌*◌, ◌-◌, ◌^◌, ◌≤◌, ◌<◌}
use native.Mathlib.Omega.{arith}
use lib.ListN.{get_or, length}
use lib.Dec.{eqb}
use lib.IntN.{pos}
use lib.Signed.{mag}
use borrow.Author.Rules.{rules}
use Rattle.topology.specs.inner.Row.{word_bound}
use Rattle.topology.proofs.Gains.{twice-small}
use Rattle.kernighan_lin_pass.specs.inner.Steps.{most_gain, update_bound}
use Rattle.kernighan_lin_pass.proofs.Bits.{sum_fits, sum_kept}
use Rattle.kernighan_lin_pass.proofs.Updates.{begins, turn, gain-small, ended}
use Rattle.kernighan_lin_pass.proofs.gain.update_neighbours.Goals as goal

-- the arc goes to a vertex
goes : (c : goal.After-gains-1) → c.neighbour-x.result < length c.args.labels.now
goes c = search rules

-- the gain is far from the ends of the range, and so is what is added
gain-far : (c : goal.After-gains-1) → mag (get_or c.loop-e.gains c.neighbour-x.result (pos 0)) ≤ 2 * most_gain + update_bound
gain-far c =
    let l = c.loop-e in
    gain-small c.args.graph.now c.args.labels.now c.args.v c.args.gains.now c.requires.0 _ _ l.e
    l.gains l.invariant (2 * most_gain) c.requires.3 c.neighbour-x.result (goes c)

added-far : (c : goal.After-gains-1) → mag c.twice.result ≤ 2 * word_bound
added-far c =
    let h : c.weight.result < word_bound = omega (arith, c.weight.type_inv) in
    rw c.twice.ensures (omega (
      arith,
      twice-small c.weight.result h
          (eqb (get_or c.args.labels.now c.neighbour-x.result 0) (get_or c.args.labels.now c.args.v 0)),
    ))

-- the two added
far :
    (c : goal.After-gains-1)
    → (mag (get_or c.loop-e.gains c.neighbour-x.result (pos 0)) < 2 ^ 62) × (mag c.twice.result < 2 ^ 62 - 1)
far c = (omega (arith, gain-far c), omega (arith, added-far c))

pub loop-e-init : goal.loop-e-init
loop-e-init c =
    begins c.args.graph.now _ _ _ c.requires.0 _ _ c.requires.1 c.requires.2 c.first-e.ensures c.past-e-end.ensures

pub overflow_add-gains : goal.overflow_add-gains
overflow_add-gains c = sum_fits (get_or c.loop-e.gains c.neighbour-x.result (pos 0)) c.twice.result (far c).0 (far c).1

pub loop-e-preserved : goal.loop-e-preserved
loop-e-preserved c =
    let l = c.loop-e in
    let x = c.neighbour-x.result in
    let kept = sum_kept (get_or l.gains x (pos 0)) c.twice.result (far c).0 (far c).1 in
    turn c.args.graph.now c.args.labels.now c.args.v c.args.gains.now c.requires.0 _ _ l.e
    l.gains l.invariant c.loop-e-test.true x c.weight.result _ c.neighbour-x.ensures
    (goes c) c.weight.ensures (rw (← c.twice.ensures) kept)

pub returns : goal.returns
returns c = search (ended, rules)

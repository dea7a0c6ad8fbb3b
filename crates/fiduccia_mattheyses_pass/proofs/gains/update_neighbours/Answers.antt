-- `fiduccia_mattheyses_pass::gains::update_neighbours` meets its contract, by what its loop keeps. Assumes nothing.
use Rattle.std.proofs.Common.{◌≡◌, ◌+◌, ◌-◌, ◌*◌, ◌≤◌, get_or, arith}
use lib.IntN.{pos}
use lib.Signed.{mag}
use Rattle.fiduccia_mattheyses_choice.specs.inner.Bounds.{lock_size}
use Rattle.fiduccia_mattheyses_pass.specs.inner.Bounds.{most_twice}
use Rattle.fiduccia_mattheyses_pass.proofs.Updates.{back, free_of, updated_none, mag-set, turn-passed, turn-updated}
use Rattle.fiduccia_mattheyses_pass.proofs.gains.update_neighbours.Goals as goal

pub loop-e-init : goal.loop-e-init
loop-e-init c = (updated_none _ _ _ _ _ _, λ x. omega (arith, c.requires.small.1 x))

pub loop-e-preserved-in_default : goal.loop-e-preserved-in_default
loop-e-preserved-in_default c =
    let g = c.args.graph.now in
    let i = c.loop-e.invariant in
    let x = c.neighbour-x.result in
    let slot = rw (back (get_or c.loop-e.gains x (pos 0)) (omega (arith, i.1 x))) at c.free_gain.ensures in (
      turn-passed g.neighbours g.weights c.args.labels.now c.args.old c.first-e.result c.loop-e.e c.args.gains.now
          c.loop-e.gains c.loop-e.auto.e i.0 _ (rw c.neighbour-x.ensures at slot) c.in_default.is,
      λ y. omega (arith, i.1 y),
    )

pub loop-e-preserved : goal.loop-e-preserved
loop-e-preserved c =
    let g = c.args.graph.now in
    let i = c.loop-e.invariant in
    let x = c.neighbour-x.result in
    let z = get_or c.loop-e.gains x (pos 0) in
    let gain = c.in-Some.g in
    let slot = rw (back z (omega (arith, i.1 x))) at c.free_gain.ensures in
    let q : gain ≡ z = (free_of _ z gain slot c.in-Some.is).1 in
    let r = rw (back gain (rw q (omega (arith, i.1 x)))) at c.shifted.ensures in
    let h = c.shifted.result in
    let low : mag h ≤ lock_size + most_twice * (c.loop-e.e + 1 - c.first-e.result) = omega (arith, rw q at r.1, i.1 x) in
    let hz = back h (omega arith) in (
      rw (hz, c.neighbour-x.ensures) (turn-updated g.neighbours g.weights c.args.labels.now c.args.old c.first-e.result c.loop-e.e c.args.gains.now
          c.loop-e.gains c.loop-e.auto.e i.0 _ gain _ (rw c.neighbour-x.ensures at slot) c.in-Some.is (rw (c.neighbour-x.ensures, c.weight.ensures) at r.0)),
      λ y. rw hz (mag-set c.loop-e.gains x y h _ (λ k. omega (arith, i.1 k)) low),
    )

pub returns : goal.returns
returns c =
    let up = c.requires.row.1 in
    let upto = c.loop-e.auto.e-end (rw (c.first-e.ensures, c.past-e-end.ensures) up) in
    let e : c.loop-e.e ≡ c.past-e-end.result = omega (arith, upto) in
    rw (← c.first-e.ensures, ← c.past-e-end.ensures) (rw e at c.loop-e.invariant.0)

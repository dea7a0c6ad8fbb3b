-- `Graph::lambda_of` meets its contract, by what its loop keeps. Assumes nothing.
use Rattle.std.proofs.Common.{◌<◌, arith, rules}
use Rattle.topology.specs.inner.Row.{word_bound}
use Rattle.topology.proofs.Arounds.{label-below, none-counted, one-counted, all-counted}
use Rattle.topology.proofs.Graph.lambda_of.Goals as goal

pub loop-u-init : goal.loop-u-init
loop-u-init c = search (none-counted, rules)

pub parts_around-requires : goal.parts_around-requires
parts_around-requires c = (c.requires.0, label-below c.requires.1, omega (arith, c.requires.1.paired))

pub loop-u-preserved : goal.loop-u-preserved
loop-u-preserved c =
    let light : c.from.result < word_bound = omega (arith, c.from.ensures, c.type_inv.weights c.loop-u.u) in
    one-counted _ _ _ _ _ c.loop-u.invariant (omega (arith, c.requires.1.paired)) _ _ c.parts_around.ensures c.from.ensures light

pub returns : goal.returns
returns c = all-counted _ _ _ _ _ c.loop-u.invariant (omega (arith, c.requires.1.paired))

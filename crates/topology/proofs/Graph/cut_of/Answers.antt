-- `Graph::cut_of` meets its contract: the loop's sum is that of the rows passed. Assumes nothing.
use Rattle.std.proofs.Common.{◌≡◌, sym, length, arith, rules}
use Rattle.topology.specs.Cut.{cut}
use Rattle.lists.proofs.Sums.{sum-none, sum_step}
use Rattle.topology.proofs.Graph.cut_of.Goals as goal

pub loop-u-init : goal.loop-u-init
loop-u-init c = (sym (sum-none _), search rules)

pub loop-u-preserved : goal.loop-u-preserved
loop-u-preserved c =
    let row = c.row_cut-sum.ensures in
    (sum_step c.loop-u.u _ _ _ c.loop-u.invariant.0 row.0, omega (arith, row.1))

pub returns : goal.returns
unfolding cut
returns c =
    let e : c.loop-u.u ≡ length c.args.labels.now = omega arith in
    rw e at c.loop-u.invariant.0

-- What the loop of `Graph::cut_of` keeps: the sum is that of the rows passed.
use mathlib.Core.Path.{◌≡◌}
use Prim.Native.Nat.{◌*◌, ◌≤◌}
use Rattle.lists.specs.Sum.{sum}
use Rattle.topology.specs.Cut.{row_cut}
use Rattle.topology.specs.inner.Row.{row_bound}
use Rattle.topology.proofs.Graph.cut_of.Given as goal

abbrev pub invariant-loop-u : goal.invariant-loop-u
invariant-loop-u l = (l.sum ≡ sum l.u (row_cut l.self l.labels)) × (l.sum ≤ row_bound * l.u)

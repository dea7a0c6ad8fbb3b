-- Two blocks of the eight-block grid moved, from labels A: the fall as foretold, and as counted (document 02, A9). Assumes nothing.
use mathlib.Core.Path.{◌≡◌, refl}
use lib.IntN.{pos}
use Rattle.lists.specs.Sum.{sum, between}
use Rattle.topology.specs.Graph.{arcs, into, gain, joins}
use Rattle.topology.specs.Cut.{cut, fall}
use Rattle.topology.specs.EightBlockGrid.{grid, A, B}
use Rattle.exchange.specs.Exchange.{both, exchange, both_fall, exchange_fall}

-- 5 and 6 have an arc and begin in different parts: 3 + 3 - 2 = 4, and the labels become B
pub five-and-six : (exchange A 5 6 ≡ B) × (exchange_fall grid A 5 6 ≡ pos 4) × (fall grid A (exchange A 5 6) ≡ pos 4)
unfolding exchange_fall gain into arcs joins cut between sum
five-and-six = (refl, refl, refl)

-- 1 and 2 too: 1 + 1 - 2 = 0
pub one-and-two : (exchange_fall grid A 1 2 ≡ pos 0) × (fall grid A (exchange A 1 2) ≡ pos 0)
unfolding exchange_fall gain into arcs joins cut between sum
one-and-two = (refl, refl)

-- 5 and 7 have no arc and begin in the same part: 3 + 0 = 3
pub five-and-seven : (both_fall grid 0 1 A 5 7 ≡ pos 3) × (fall grid A (both 0 1 A 5 7) ≡ pos 3)
unfolding both_fall both gain into arcs joins cut between sum
five-and-seven = (refl, refl)

-- 2 and 3 have an arc and begin in the same part: 1 - 2 + 2 = 1
pub two-and-three : (both_fall grid 0 1 A 2 3 ≡ pos 1) × (fall grid A (both 0 1 A 2 3) ≡ pos 1)
unfolding both_fall both gain into arcs joins cut between sum
two-and-three = (refl, refl)

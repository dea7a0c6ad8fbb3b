-- What the loop of `fiduccia_mattheyses_pass::gains::update_neighbours` keeps: the gains are brought up to date over the arcs so far, and each has grown by at most twice a weight an arc.
use Rattle.std.proofs.Common.{◌≡◌, ℕ, ◌+◌, ◌-◌, ◌*◌, ◌≤◌, get_or}
use lib.IntN.{pos}
use lib.Signed.{mag}
use Rattle.fiduccia_mattheyses_choice.specs.inner.Bounds.{lock_size}
use Rattle.fiduccia_mattheyses_pass.specs.inner.Bounds.{most_twice}
use Rattle.fiduccia_mattheyses_pass.specs.inner.Update.{updated}
use Rattle.fiduccia_mattheyses_pass.proofs.gains.update_neighbours.Given as goal

abbrev pub invariant-loop-e : goal.invariant-loop-e
invariant-loop-e l =
    (l.gains ≡ updated l.graph.neighbours l.graph.weights l.labels l.old l.initial.e (l.e - l.initial.e) l.initial.gains)
    × ((x : ℕ) → mag (get_or l.gains x (pos 0)) ≤ lock_size + most_twice * (l.e - l.initial.e))

-- What the loop of `kernighan_lin_pass::pass::rewind` keeps: undoing what is left gives what undoing all gives.
use mathlib.Core.Path.{◌≡◌}
use Prim.Native.Nat.{◌-◌, ◌≤◌}
use lib.ListN.{length}
use Rattle.kernighan_lin_pass.specs.inner.Steps.{back}
use Rattle.kernighan_lin_pass.proofs.pass.rewind.Given as goal

abbrev pub invariant-loop-k : goal.invariant-loop-k
invariant-loop-k l =
    (l.kept ≤ l.k) × (l.k ≤ l.made) × (length l.labels ≡ length l.initial.labels) × (back l.swaps l.k (l.k - l.kept) l.labels ≡ back l.swaps l.made (l.made - l.kept) l.initial.labels)

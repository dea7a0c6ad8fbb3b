-- `with_moves` meets its contract where it has fewer records than N: they are enough. Assumes nothing.
use native.Mathlib.Omega.{arith}
use Rattle.fiduccia_mattheyses_records.proofs.Room.{more-records}
use Rattle.fiduccia_mattheyses_records.proofs.with_moves.Goals as goal

pub returns-then-this-gt-MOST_VERTICES : goal.returns-then-this-gt-MOST_VERTICES
returns-then-this-gt-MOST_VERTICES g c = more-records g.row.N (omega arith) _ _ _ _ c.with_most_moves.ensures

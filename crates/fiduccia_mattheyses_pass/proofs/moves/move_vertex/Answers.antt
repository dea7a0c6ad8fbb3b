-- `fiduccia_mattheyses_pass::moves::move_vertex` meets its contract. Assumes nothing.
use Rattle.std.proofs.Common.{refl}
use Rattle.fiduccia_mattheyses_choice.specs.Choice.{flip}
use Rattle.fiduccia_mattheyses_pass.proofs.moves.move_vertex.Goals as goal

pub returns : goal.returns
unfolding flip
returns c = (refl, c.update_neighbours.ensures)

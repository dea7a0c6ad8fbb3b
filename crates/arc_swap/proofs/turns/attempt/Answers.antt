-- `arc_swap::turns::attempt` meets its contract: what is asked and answered is handed on by laws of `Drains`. Assumes nothing.
use mathlib.Core.Path.{refl}
use Rattle.arc_swap.proofs.Drains.{tryable, move-asked, attempted}
use Rattle.arc_swap.proofs.turns.attempt.Goals as goal

pub try_vertex-trial-requires : goal.try_vertex-trial-requires
try_vertex-trial-requires c = tryable _ _ _ _ c.requires _ refl

pub move_vertex-moved-requires : goal.move_vertex-moved-requires
move_vertex-moved-requires c = move-asked _ _ _ _ c.requires _ refl _ c.try_vertex-trial.ensures

pub returns : goal.returns
returns c = attempted _ _ _ _ c.requires _ refl _ c.try_vertex-trial.ensures _ _ _ c.move_vertex-moved.ensures

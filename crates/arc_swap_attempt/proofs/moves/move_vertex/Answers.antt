-- `arc_swap_attempt::moves::move_vertex` meets its contract: loads, label, pushes and cut are handed on by laws of `Moving`. Assumes nothing.
use lib.ListN.{length-set}
use Rattle.arc_swap_attempt.proofs.Moving.{named-move, loads-asked, gain-within, pushed-so, moved}
use Rattle.arc_swap_attempt.proofs.moves.move_vertex.Goals as goal

pub moved_loads-loads-requires : goal.moved_loads-loads-requires
moved_loads-loads-requires c = loads-asked _ _ _ _ _ _ _ _ c.requires _ _ c.in-Goes.is

pub push_neighbours-pushed-requires : goal.push_neighbours-pushed-requires
push_neighbours-pushed-requires c =
    (named-move _ _ _ _ _ c.requires.ok c.requires.here (c.requires.aimed _ _ c.in-Goes.is).target, (simp length-set c.requires.here), c.requires.places)

pub overflow_sub-result : goal.overflow_sub-result
overflow_sub-result c = gain-within _ _ _ _ _ _ _ _ c.requires _ _ c.in-Goes.is

pub returns : goal.returns
returns c =
    rw (c.is_some.ensures, c.unwrap_or.ensures)
    (moved _ _ _ _ _ _ _ _ c.requires _ _ c.in-Goes.is _ _ _ _ c.moved_loads-loads.ensures (pushed-so _ c.push_neighbours-pushed.ensures))

-- `fiduccia_mattheyses_pass::walk_moves` meets its contract: each turn is a law of `Walking`. Assumes nothing.
use Rattle.std.proofs.Common.{◌≡◌, refl, arith}
use Rattle.fiduccia_mattheyses_pass.proofs.Walking.{answer, walking_start, scanned, walking-stop, walking-full, move-places, move-asked, walking-move}
use Rattle.fiduccia_mattheyses_pass.proofs.walk_moves.Goals as goal

pub loop-made-init : goal.loop-made-init
loop-made-init c = walking_start _ _ _ _ _ _ c.requires

pub next_move-requires : goal.next_move-requires
next_move-requires c = scanned _ _ _ _ c.requires.fixed c.requires.places _ _ _ _ _ c.loop-made.invariant

pub returns-in_default : goal.returns-in_default
unfolding answer
returns-in_default c = walking-stop _ _ _ _ c.requires.fixed c.requires.places _ _ _ _ _ c.loop-made.invariant _ c.next_move.ensures c.in_default.is

pub overflow_cast-moves : goal.overflow_cast-moves
unfolding answer
overflow_cast-moves c =
    let v = (move-places _ _ _ _ c.requires.fixed c.requires.places _ _ _ _ _ c.loop-made.invariant _ _ _ _ c.next_move.ensures c.in-Some.is).1 in
    omega arith

pub offset_bounds-labels-next : goal.offset_bounds-labels-next
unfolding answer
offset_bounds-labels-next c =
    let v = (move-places _ _ _ _ c.requires.fixed c.requires.places _ _ _ _ _ c.loop-made.invariant _ _ _ _ c.next_move.ensures c.in-Some.is).1 in
    omega arith

pub bounds-labels-next : goal.bounds-labels-next
unfolding answer
bounds-labels-next c = (move-places _ _ _ _ c.requires.fixed c.requires.places _ _ _ _ _ c.loop-made.invariant _ _ _ _ c.next_move.ensures c.in-Some.is).0

pub offset_bounds-moves-made : goal.offset_bounds-moves-made
unfolding answer
offset_bounds-moves-made c =
    let inside = (move-places _ _ _ _ c.requires.fixed c.requires.places _ _ _ _ _ c.loop-made.invariant _ _ _ _ c.next_move.ensures c.in-Some.is).2 in
    omega arith

pub bounds-moves-made : goal.bounds-moves-made
unfolding answer
bounds-moves-made c = (move-places _ _ _ _ c.requires.fixed c.requires.places _ _ _ _ _ c.loop-made.invariant _ _ _ _ c.next_move.ensures c.in-Some.is).2

pub make_move-st-requires : goal.make_move-st-requires
unfolding answer
make_move-st-requires c = move-asked _ _ _ _ c.requires.fixed c.requires.places _ _ _ _ _ c.loop-made.invariant _ _ _ _ c.next_move.ensures c.in-Some.is

pub loop-made-preserved : goal.loop-made-preserved
unfolding answer
loop-made-preserved c =
    let m = c.make_move-st.ensures in
    walking-move _ _ _ _ c.requires.fixed c.requires.places _ _ _ _ _ c.loop-made.invariant _ _ _ _
    c.next_move.ensures c.in-Some.is c.loop-made-test.true _ _ _ _ _ refl refl m.0 m.1 m.2

pub returns : goal.returns
returns c =
    let e : c.loop-made.made ≡ c.args.frame.now.limits.moves = omega arith in
    rw e at (walking-full _ _ _ _ c.requires.fixed c.requires.places _ _ _ _ _ c.loop-made.invariant c.loop-made-test.false)

-- `fiduccia_mattheyses_pass::rewind` meets its contract: each turn takes one move back, by a law of `Rewinding`. Assumes nothing.
use Rattle.std.proofs.Common.{◌≡◌, refl, arith}
use Rattle.fiduccia_mattheyses_pass.proofs.Rewinding.{undone-none, at-inside, turn-asked, turn-done}
use Rattle.fiduccia_mattheyses_pass.proofs.rewind.Goals as goal

pub loop-at-init : goal.loop-at-init
loop-at-init c = (undone-none c.args.moves.now c.args.kept _, c.requires.loaded)

pub offset_bounds-moves-at : goal.offset_bounds-moves-at
offset_bounds-moves-at c = let inside = at-inside _ _ _ _ _ _ c.requires _ c.loop-at-test.true in omega arith

pub bounds-moves-at : goal.bounds-moves-at
bounds-moves-at c = at-inside _ _ _ _ _ _ c.requires _ c.loop-at-test.true

pub undo_move-back-requires : goal.undo_move-back-requires
undo_move-back-requires c =
    turn-asked _ _ _ _ _ _ c.requires _ _ _ c.loop-at.auto.at c.loop-at-test.true c.loop-at.invariant.0 c.loop-at.invariant.1 _ refl

pub loop-at-preserved : goal.loop-at-preserved
loop-at-preserved c =
    turn-done _ _ _ _ _ _ c.requires _ _ _ c.loop-at.auto.at c.loop-at-test.true c.loop-at.invariant.0 c.loop-at.invariant.1 _ refl _ _ c.undo_move-back.ensures

pub returns : goal.returns
returns c =
    let within = c.requires.kept_within in
    let e : c.loop-at.at ≡ c.args.made = omega arith in
    rw e at c.loop-at.invariant

-- `fiduccia_mattheyses_pass::make_pass` meets its contract: each call's answer is handed on by a law of `Passing`. Assumes nothing.
use Rattle.fiduccia_mattheyses_pass.proofs.Passing.{cut_most, walk-asked, rewind-asked, least-read, pass-done}
use Rattle.fiduccia_mattheyses_pass.proofs.make_pass.Goals as goal

pub first_standing-first-requires : goal.first_standing-first-requires
first_standing-first-requires c =
    cut_most _ _ _ _ _ _ c.requires

pub walk_moves-walked-requires : goal.walk_moves-walked-requires
walk_moves-walked-requires c =
    walk-asked _ _ _ _ _ _ c.requires _ _ c.fresh_gains.ensures c.first_standing-first.ensures

pub rewind-back-requires : goal.rewind-back-requires
rewind-back-requires c =
    rewind-asked _ _ _ _ _ _ c.requires _ _ _ _ _ c.walk_moves-walked.ensures

pub returns : goal.returns
returns c =
    pass-done _ _ _ _ _ _ c.requires _ _ _ _ _ c.walk_moves-walked.ensures _ _ _ c.rewind-back.ensures.0
    c.rewind-back.ensures.1 (rw (least-read _ _ _ _ _ _ c.requires _ _ _ _ _
    c.walk_moves-walked.ensures) at c.pass_answer.ensures)

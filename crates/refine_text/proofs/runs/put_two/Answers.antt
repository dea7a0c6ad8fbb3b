-- `refine_text::runs::put_two` meets its contract: the lines of a run of FM. Assumes nothing.
use borrow.Author.Rules.{rules}
use Rattle.refine_text.proofs.Shown.{put-two-lines}
use Rattle.refine_text.proofs.runs.put_two.Goals as goal

pub returns : goal.returns
returns c =
    put-two-lines _ _ _ _ (search rules) c.requires.0 c.requires.1 c.requires.4
    c.put_opening-opened.ensures c.put_pass_lines-listed.ensures c.put_labels.ensures

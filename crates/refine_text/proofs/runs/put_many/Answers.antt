-- `refine_text::runs::put_many` meets its contract: the lines of a run of arc-swap. Assumes nothing.
use borrow.Author.Rules.{rules}
use Rattle.refine_text.proofs.Shown.{put-many-lines}
use Rattle.refine_text.proofs.runs.put_many.Goals as goal

pub returns : goal.returns
returns c =
    put-many-lines _ _ _ _ (search rules) c.requires.0 c.requires.1 c.requires.2 c.put_opening-opened.ensures
    c.put_counts-counted.ensures c.put_labels.ensures

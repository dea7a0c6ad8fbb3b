-- `kernighan_lin_pass::swap::undo` meets its contract. Assumes nothing.
use Rattle.std.proofs.Common.{sym, ◌∙◌}
use Rattle.std.proofs.lemmas.List.Edits.{swap_is}
use Rattle.kernighan_lin_pass.specs.Pass.{swapped}
use Rattle.kernighan_lin_pass.proofs.swap.undo.Goals as goal

pub returns : goal.returns
unfolding swapped
returns c = c.swap.ensures.after ∙ sym (swap_is c.args.labels.now _ _ 0 c.requires.0 c.requires.1)

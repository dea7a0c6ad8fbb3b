-- `kernighan_lin_pass::pass::make_pass` meets its contract. Assumes nothing.
use mathlib.Core.Path.{◌∙◌}
use lib.ListN.{length}
use lib.IntN.{pos}
use Rattle.lists.proofs.Tables.{written-whole}
use Rattle.kernighan_lin_pass.proofs.pass.make_pass.Goals as goal

pub walk_swaps-walked-requires : goal.walk_swaps-walked-requires
walk_swaps-walked-requires c =
    let n = length c.args.labels.now in
    record {
      fit = c.requires.0;
      gains_are = c.fill.ensures ∙ written-whole n (pos 0) (λ i. pos 0) c.args.gains.now c.requires.1.gains_long;
      locks_are = c.fill-2.ensures ∙ written-whole n 0 (λ i. 0) c.args.locks.now c.requires.1.locks_long;
      places_for = c.requires.1.places_for;
      few = c.requires.1.few;
      cut_is = c.requires.2;
    }

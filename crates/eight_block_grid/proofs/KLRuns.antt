-- Rows 7, 8 and 9 of the eight-block grid: what KL's call answers and leaves, computed from its definition. Assumes nothing.
use mathlib.Core.Path.{◌≡◌, refl}
use Rattle.lists.specs.Sum.{sum, between, total}
use Rattle.lists.specs.All.{all, all_from, any, any_from}
use Rattle.lists.specs.Best.{best}
use Rattle.lists.specs.Fill.{table, written}
use Rattle.imbalance.specs.Limit.{heavy, label_above}
use Rattle.topology.specs.Graph.{arcs, into, joins}
use Rattle.topology.specs.Rule.{misfit, oversize, starts_ok, arc_ok, rows_ok, has_arc, answered, rows_number, graph_number}
use Rattle.topology.specs.Cut.{cut}
use Rattle.topology.specs.EightBlockGrid.{A, B}
use Rattle.kernighan_lin_pass.specs.Gain.{fresh, added, updated, largest}
use Rattle.kernighan_lin_pass.specs.Pass.{swapped, start, pair, after, next, walk, pass}
use Rattle.kernighan_lin.specs.Run.{run}
use Rattle.kernighan_lin.specs.Entry.{uses, different, mislabelled, short, number_of, run_of, report_of, left_by, answer, left}
use Rattle.eight_block_grid.specs.Inputs.{kl_plan, kl_lent}
use Rattle.eight_block_grid.specs.TenRows.{labels8}

pub row_7 : (answer (kl_plan 1 1) (kl_lent A) ≡ record { number = 0; end = 0; passes = 1; first = 6; last = 2 }) × (left (kl_plan 1 1) (kl_lent A) ≡ kl_lent B)
unfolding answer left report_of left_by run_of number_of uses different mislabelled short label_above graph_number rows_number misfit oversize rows_ok starts_ok arc_ok has_arc answered heavy total all all_from any any_from written run pass walk next after pair start swapped largest updated added fresh table best cut into joins arcs between sum
row_7 = (refl, refl)

pub row_8 : (answer (kl_plan 1 1) (kl_lent B) ≡ record { number = 0; end = 1; passes = 1; first = 2; last = 4 }) × (left (kl_plan 1 1) (kl_lent B) ≡ kl_lent labels8)
unfolding answer left report_of left_by run_of number_of uses different mislabelled short label_above graph_number rows_number misfit oversize rows_ok starts_ok arc_ok has_arc answered heavy total all all_from any any_from written run pass walk next after pair start swapped largest updated added fresh table best cut into joins arcs between sum
row_8 = (refl, refl)

pub row_9 : (answer (kl_plan 8 0) (kl_lent B) ≡ record { number = 0; end = 1; passes = 1; first = 2; last = 2 }) × (left (kl_plan 8 0) (kl_lent B) ≡ kl_lent B)
unfolding answer left report_of left_by run_of number_of uses different mislabelled short label_above graph_number rows_number misfit oversize rows_ok starts_ok arc_ok has_arc answered heavy total all all_from any any_from written run pass walk next after pair start swapped largest updated added fresh table best cut into joins arcs between sum
row_9 = (refl, refl)

-- Rows 4, 5 and 6 of the eight-block grid: what FM's call answers and leaves, computed from its definition. Assumes nothing.
use mathlib.Core.Path.{◌≡◌, refl}
use mathlib.Core.List.{[], ◌∷◌}
use lib.ListN.{replicate}
use lib.Ieee.{add, div, of_int, mul, le}
use Rattle.lists.specs.Sum.{sum, between, total}
use Rattle.lists.specs.All.{all, all_from, any, any_from}
use Rattle.lists.specs.Best.{best}
use Rattle.lists.specs.Fill.{table, written}
use Rattle.imbalance.specs.Limit.{heavy, label_above}
use Rattle.imbalance.specs.Load.{load}
use Rattle.imbalance.specs.Ceiling.{legal_e, unfit_choice, ceilings, ceiling, ceiling_of, limit_of, largest}
use Rattle.topology.specs.Graph.{arcs, into, gain}
use Rattle.topology.specs.Rule.{misfit, oversize, starts_ok, arc_ok, rows_ok, has_arc, answered, rows_number, graph_number}
use Rattle.topology.specs.Cut.{cut}
use Rattle.topology.specs.EightBlockGrid.{A, B}
use Rattle.fiduccia_mattheyses_choice.specs.Choice.{flip, member, worth, after, fits, allowed, better, choice}
use Rattle.fiduccia_mattheyses_pass.specs.Pass.{flips, move_on, next, walk, pass}
use Rattle.fiduccia_mattheyses.specs.Run.{run}
use Rattle.fiduccia_mattheyses.specs.Entry.{unfit, short, number_of, terms_of, report_of, left_by, answer, left}
use Rattle.eight_block_grid.specs.Inputs.{fm_plan, fm_lent}
use Rattle.eight_block_grid.specs.TenRows.{four_four, fm_left}

pub row_4 : ((terms_of (fm_plan 2 0) fm_lent).ceilings ≡ replicate 16 5) × (answer (fm_plan 2 0) fm_lent ≡ record { number = 0; end = 1; passes = 2; first = 6; last = 2; loads = four_four }) × (left (fm_plan 2 0) fm_lent ≡ fm_left B (2 ∷ 0 ∷ []) (0 ∷ 0 ∷ []))
unfolding answer left report_of left_by number_of unfit short unfit_choice legal_e le label_above graph_number rows_number misfit oversize rows_ok starts_ok arc_ok has_arc answered heavy all all_from any any_from written run pass walk next move_on flips choice better allowed fits after worth member flip best gain into arcs cut load between sum table total ceilings ceiling largest ceiling_of limit_of add div of_int mul
row_4 = (refl, refl, refl)

pub row_5 : (answer (fm_plan 2 1) fm_lent ≡ record { number = 0; end = 1; passes = 2; first = 6; last = 2; loads = four_four }) × (left (fm_plan 2 1) fm_lent ≡ fm_left B (3 ∷ 1 ∷ []) (1 ∷ 1 ∷ []))
unfolding answer left report_of left_by number_of unfit short unfit_choice legal_e le label_above graph_number rows_number misfit oversize rows_ok starts_ok arc_ok has_arc answered heavy all all_from any any_from written run pass walk next move_on flips choice better allowed fits after worth member flip best gain into arcs cut load between sum table total ceilings ceiling largest ceiling_of limit_of add div of_int mul
row_5 = (refl, refl)

pub row_6 : (answer (fm_plan 0 0) fm_lent ≡ record { number = 0; end = 1; passes = 1; first = 6; last = 6; loads = four_four }) × (left (fm_plan 0 0) fm_lent ≡ fm_left A (0 ∷ []) (0 ∷ []))
unfolding answer left report_of left_by number_of unfit short unfit_choice legal_e le label_above graph_number rows_number misfit oversize rows_ok starts_ok arc_ok has_arc answered heavy all all_from any any_from written run pass walk next move_on flips choice better allowed fits after worth member flip best gain into arcs cut load between sum table total ceilings ceiling largest ceiling_of limit_of add div of_int mul
row_6 = (refl, refl)

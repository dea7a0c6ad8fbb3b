-- Row 10 of the eight-block grid: what arc-swap's call answers and leaves, computed from its definition. Assumes nothing.
use mathlib.Core.Path.{◌≡◌, refl}
use lib.Ieee.{add, div, of_int, mul, le}
use Rattle.lists.specs.Sum.{sum, between, total}
use Rattle.lists.specs.All.{all, all_from, any, any_from}
use Rattle.lists.specs.Best.{best}
use Rattle.lists.specs.Fill.{table, written}
use Rattle.imbalance.specs.Limit.{heavy, label_above}
use Rattle.imbalance.specs.Load.{load}
use Rattle.imbalance.specs.Ceiling.{legal_e, unfit_choice, ceilings, ceiling, ceiling_of, limit_of, largest}
use Rattle.topology.specs.Graph.{arcs, into, gain}
use Rattle.topology.specs.Rule.{misfit, oversize, starts_ok, arc_ok, rows_ok, has_arc, answered, rows_number, graph_number}
use Rattle.topology.specs.Cut.{cut}
use Rattle.topology.specs.EightBlockGrid.{B}
use Rattle.arc_swap_attempt.specs.Trial.{aim, has_gain, pushed, trial}
use Rattle.arc_swap.specs.Run.{after, attempt, drain, on_cut, first_push, turn, sweep, run}
use Rattle.arc_swap.specs.Entry.{number, parts_of, report_of, left_by, answer, left}
use Rattle.eight_block_grid.specs.Inputs.{zeros, swap_plan, swap_lent}
use Rattle.eight_block_grid.specs.TenRows.{four_four}

pub row_10 :
    (answer swap_plan swap_lent ≡ record { number = 0; end = 1; passes = 2; first = 6; last = 2; loads = four_four })
    × (left swap_plan swap_lent ≡ record { labels = B; stack = zeros 8; run = record { attempts = 12; moves = 4; no_gain = 7; bad_balance = 1 } })
unfolding answer left report_of left_by number parts_of unfit_choice legal_e le label_above graph_number rows_number misfit oversize rows_ok starts_ok arc_ok has_arc answered heavy total all all_from any any_from written run sweep turn first_push on_cut drain attempt after trial pushed has_gain aim best cut gain load into arcs between sum table ceilings ceiling largest ceiling_of limit_of add div of_int mul
row_10 = (refl, refl)

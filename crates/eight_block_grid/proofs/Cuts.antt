-- Rows 1, 2 and 3 of the eight-block grid, and that no number from 1 to 5 applies to it, computed from the definitions; the number that both cuts give. Assumes nothing.
use mathlib.Core.Path.{◌≡◌, refl, ◌∙◌}
use mathlib.Core.Bool.{Bool, true, false, cond}
use mathlib.Core.List.{List}
use Prim.Native.Nat.{ℕ, ◌+◌}
use native.Mathlib.Omega.{arith}
use lib.ListN.{length}
use lib.Dec.{eqb}
use borrow.Author.Tests.{eqb-true, eqb-false, ne_eqb}
use Rattle.lists.specs.Sum.{sum, between, total}
use Rattle.lists.specs.All.{all, all_from, any, any_from}
use Rattle.lists.specs.Fill.{table}
use Rattle.lists.specs.declared.refusal.Refusal.{Refusal}
use Rattle.lists.specs.Refusal.{number_of}
use Rattle.lists.proofs.Refusals.{not-done}
use Rattle.imbalance.specs.Limit.{heavy, label_above}
use Rattle.imbalance.specs.Load.{load}
use Rattle.imbalance.specs.Number.{loads_number, loads_answer}
use Rattle.topology.specs.Graph.{arcs, into, gain}
use Rattle.topology.specs.Rule.{misfit, oversize, starts_ok, arc_ok, rows_ok, has_arc, answered, rows_number, graph_number}
use Rattle.topology.specs.Cut.{cut, touches, parts_around, lambda}
use Rattle.topology.specs.Number.{edge_cut_number, edge_cut_answer, lambda_cut_number, lambda_cut_answer, answer_of}
use Rattle.topology.specs.EightBlockGrid.{grid, ones, A, B}
use Rattle.eight_block_grid.specs.TenRows.{four_four, gains_in_a, eight_gains}

pub sound : graph_number 8 ones grid ≡ 0
unfolding graph_number rows_number misfit oversize rows_ok starts_ok arc_ok has_arc answered heavy total sum all all_from any any_from
sound = refl

-- the same of the rows and of the arc weights by themselves
rows-sound : rows_number 8 grid ≡ 0
unfolding rows_number misfit oversize rows_ok starts_ok arc_ok has_arc answered all all_from any any_from
rows-sound = refl

light-arcs : heavy grid.weights ≡ false
unfolding heavy total sum
light-arcs = refl

pub no-five : (r k rest : ℕ) → r ≡ rest → r ≡ cond (heavy grid.weights) k rest
no-five r k rest e = rw light-arcs e

-- a list of labels that are not eight has number 1
not_eight : (n : ℕ) → eqb 8 n ≡ false → (graph_number n ones grid ≡ 1) × (rows_number n grid ≡ 1)
unfolding graph_number rows_number misfit
not_eight n q =
    let ne = eqb-false 8 n q in
    (rw q, rw (ne_eqb 9 (n + 1) (λ e. ne (omega arith))))

-- so both cuts give one number
pub one_number : (labels : List ℕ) (r : ℕ) → r ≡ edge_cut_number grid labels → (r ≡ edge_cut_number grid labels) × (r ≡ lambda_cut_number grid ones labels)
unfolding edge_cut_number lambda_cut_number
one_number labels r e = (e, e ∙ at (eqb 8 (length labels)) refl)
  where
    at : (b : Bool) → eqb 8 (length labels) ≡ b → edge_cut_number grid labels ≡ lambda_cut_number grid ones labels
    at true q = rw (← eqb-true 8 (length labels) q, sound, rows-sound, light-arcs)
    at false q = let o = not_eight (length labels) q in rw (o.0, o.1)

pub row_1 : (edge_cut_answer grid A ≡ record { number = 0; cut = 6 }) × (lambda_cut_answer grid ones A ≡ record { number = 0; cut = 6 }) × (loads_answer ones A ≡ record { number = 0; loads = four_four })
unfolding edge_cut_answer edge_cut_number lambda_cut_answer lambda_cut_number loads_answer loads_number cut lambda parts_around touches load label_above graph_number rows_number misfit oversize rows_ok starts_ok arc_ok has_arc answered heavy arcs between sum total table all all_from any any_from
row_1 = (refl, refl, refl)

pub row_2 : (edge_cut_answer grid B ≡ record { number = 0; cut = 2 }) × (lambda_cut_answer grid ones B ≡ record { number = 0; cut = 4 })
unfolding edge_cut_answer edge_cut_number lambda_cut_answer lambda_cut_number cut lambda parts_around touches label_above graph_number rows_number misfit oversize rows_ok starts_ok arc_ok has_arc answered heavy arcs between sum total all all_from any any_from
row_2 = (refl, refl)

pub row_3 : gains_in_a ≡ eight_gains
unfolding table gain into arcs between sum
row_3 = refl

-- what the stand-alone cuts answer: the number of a refusal, or the cut
pub answer-refused : (refusal : Refusal) (number cut k : ℕ) → k ≡ number_of refusal → number_of refusal ≡ number → record { number = k; cut = 0 } ≡ answer_of number cut
answer-refused refusal number cut k e f = rw (← f, not-done refusal, e)

pub answer-done : (number cut c : ℕ) → 0 ≡ number → c ≡ cut → record { number = 0; cut = c } ≡ answer_of number cut
answer-done number cut c e f = rw (← e, f)

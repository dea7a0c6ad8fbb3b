-- The stand-alone edge cut and lambda cut: their numbers, and what they answer (document 01, "Numbers a call gives back").
use Rattle.std.specs.Prelude.{cond, List, ℕ, length, eqb}
use Rattle.lists.specs.Number.{or_else}
use Rattle.imbalance.specs.Limit.{heavy, label_above}
use Rattle.topology.specs.Graph.{Graph}
use Rattle.topology.specs.Rule.{rows_number, graph_number}
use Rattle.topology.specs.Cut.{cut, lambda}
use Rattle.topology.specs.declared.CutAnswer.{CutAnswer}

-- "refuse by 1 to 5, as far as their inputs show these, then 6 for a label above 15": the edge cut takes no vertex weights
unfoldable pub edge_cut_number : Graph → List ℕ → ℕ
edge_cut_number g labels =
    or_else (rows_number (length labels) g)
    (cond (heavy g.weights) 5
    (cond (label_above 15 labels) 6 0))

-- the same with the vertex weights, all of 1 to 5
unfoldable pub lambda_cut_number : Graph → List ℕ → List ℕ → ℕ
lambda_cut_number g weights labels =
    or_else (graph_number (length labels) weights g)
    (cond (label_above 15 labels) 6 0)

-- the cut where the number is 0, else the number and 0
abbrev pub answer_of : ℕ → ℕ → CutAnswer
answer_of number cut = cond (eqb number 0) (record { number = 0; cut = cut }) (record { number = number; cut = 0 })

unfoldable pub edge_cut_answer : Graph → List ℕ → CutAnswer
edge_cut_answer g labels = answer_of (edge_cut_number g labels) (cut g labels)

unfoldable pub lambda_cut_answer : Graph → List ℕ → List ℕ → CutAnswer
lambda_cut_answer g weights labels = answer_of (lambda_cut_number g weights labels) (lambda g weights labels)

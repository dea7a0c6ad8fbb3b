-- The stand-alone loads: its number, and what it answers (document 01, "Numbers a call gives back").
use Rattle.std.specs.Prelude.{ℕ, cond, not, List, length, ◌==◌, nat_lt}
use Rattle.lists.specs.Fill.{table}
use Rattle.imbalance.specs.Limit.{most_vertices, heavy, label_above}
use Rattle.imbalance.specs.Load.{loads_of}
use Rattle.imbalance.specs.declared.LoadsAnswer.{LoadsAnswer}
use Rattle.imbalance.specs.declared.Loads.{Loads}

-- "refuse by 1 to 5, as far as their inputs show these, then 6 for a label above 15": weights not n, n over its limit, the weights' sum, the labels
unfoldable pub loads_number : List ℕ → List ℕ → ℕ
loads_number weights labels =
    cond (not (length weights == length labels)) 1
    (cond (nat_lt most_vertices (length labels)) 2
    (cond (heavy weights) 5
    (cond (label_above 15 labels) 6 0)))

-- no load in any part
abbrev pub no_loads : Loads
no_loads = record { at = table 16 (λ t. 0) }

-- the loads where all is in order, else the number and zeros
unfoldable pub loads_answer : List ℕ → List ℕ → LoadsAnswer
loads_answer weights labels =
    cond (loads_number weights labels == 0)
    (record { number = 0; loads = loads_of weights labels })
    (record { number = loads_number weights labels; loads = no_loads })

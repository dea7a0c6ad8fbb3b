-- A run of FM: pass after pass (document 01, "FM").
use Rattle.std.specs.Prelude.{true, false, List, [], ◌∷◌, ℕ, zero, suc, ltb}
use Rattle.topology.specs.Cut.{cut}
use Rattle.fiduccia_mattheyses_choice.specs.Choice.{Terms}
use Rattle.fiduccia_mattheyses_pass.specs.Pass.{Pass, pass}

-- A run: its end, its passes in order, and the labels left.
pub record Run : Type 0 where
  pub end : ℕ
  pub rows : List Pass
  pub labels : List ℕ

-- at most k passes, end 0; "A pass that lowered nothing ends the run", end 1 "also when it was the last allowed"
unfoldable pub run : Terms → ℕ → List ℕ → Run
run s zero p = record { end = 0; rows = []; labels = p }
run s (suc k) p =
    let r = pass s p in
    elim (ltb r.least (cut s.graph p)) [
      | true ↦ (let x = run s k r.labels in record { end = x.end; rows = r ∷ x.rows; labels = x.labels })
      | false ↦ record { end = 1; rows = r ∷ []; labels = r.labels }
    ]

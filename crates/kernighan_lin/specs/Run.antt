-- The run of KL, pass after pass (document 01, "KL").
use Rattle.std.specs.Prelude.{true, false, List, ℕ, zero, suc, ◌+◌, ltb}
use Rattle.topology.specs.Cut.{cut}
use Rattle.kernighan_lin_pass.specs.Pass.{Terms, pass}

-- What a run comes to: its end, the passes made, and the labels left.
pub record Run : Type 0 where
  pub end : ℕ
  pub passes : ℕ
  pub labels : List ℕ

-- at most k passes after i; "stop when not below the pass's starting cut": end 1, and 0 at the pass limit. The first part is the terms' "for all passes".
unfoldable pub run : Terms → ℕ → ℕ → ℕ → List ℕ → Run
run s swap_limit zero i p = record { end = 0; passes = i; labels = p }
run s swap_limit (suc k) i p =
    let q = pass s swap_limit p in
    elim (ltb (cut s.graph q) (cut s.graph p)) [
      | true ↦ run s swap_limit k (i + 1) q
      | false ↦ record { end = 1; passes = i + 1; labels = q }
    ]

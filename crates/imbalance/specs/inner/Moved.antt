-- What a move makes of the loads (document 01, "one place changed down and one up per move").
use Rattle.std.specs.Prelude.{ℕ, ◌+◌, ◌-◌, List, slice_index, slice_set}

-- a weight w left part `old` for part `new`
abbrev pub loads_moved : List ℕ → ℕ → ℕ → ℕ → List ℕ
loads_moved loads old new w = slice_set (slice_set loads old (slice_index loads old - w)) new (slice_index loads new + w)

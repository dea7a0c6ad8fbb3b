-- What a pass does next with what the scan found.
use Rattle.std.specs.Prelude.{cond, ℕ, ◌+◌, leb, ℤ, pos, Option, Some, None}
use Rattle.std.specs.Int.Signed.{le_z}
use Rattle.fiduccia_mattheyses_choice.specs.declared.Pick.{Pick}
use Rattle.fiduccia_mattheyses_pass.specs.declared.NextMove.{NextMove}

-- v moves, with its gain and the bad counter after it
abbrev pub go : ℕ → ℤ → ℕ → Option NextMove
go v gain bad = Some (record { vertex = v; gain = gain; bad = bad })

-- a move of gain 0 or less counts as bad, and ends the pass where the counter has reached the limit; a positive one clears the counter
abbrev pub next_of : Option Pick → ℕ → ℕ → Option NextMove
next_of None bad limit = None
next_of (Some pick) bad limit = cond (le_z pick.gain (pos 0)) (cond (leb limit bad) None (go pick.vertex pick.gain (bad + 1))) (go pick.vertex pick.gain 0)

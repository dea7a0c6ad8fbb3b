-- What of FM's settings is used (document 01, "Ceiling"; document 02, A4).
use Rattle.std.specs.Prelude.{◌≡◌}
use Rattle.imbalance.specs.Used.{SameUsed, SameNumber}
use Rattle.fiduccia_mattheyses.specs.declared.Settings.{Settings}
use Rattle.fiduccia_mattheyses.specs.Entry.{Given}

-- two settings differ at most in what the choice does not use
pub record SameSettings (s s' : Settings) : Type 0 where
  pub passes : s.passes ≡ s'.passes
  pub moves : s.moves ≡ s'.moves
  pub bad : s.bad ≡ s'.bad
  pub ceiling : SameUsed s.ceiling s'.ceiling

-- the same lists with other settings
abbrev pub with_settings : Given → Settings → Given
with_settings p s =
    record { starts = p.starts; neighbours = p.neighbours; arcs = p.arcs; weights = p.weights; settings = s }

-- two settings differ at most in how they ask for one ceiling: by sixteen equal numbers, or by that number
pub record SameCeiling (s s' : Settings) : Type 0 where
  pub passes : s.passes ≡ s'.passes
  pub moves : s.moves ≡ s'.moves
  pub bad : s.bad ≡ s'.bad
  pub ceiling : SameNumber s.ceiling s'.ceiling

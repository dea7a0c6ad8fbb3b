-- What of arc-swap's settings is used (document 01, "Ceiling"; document 02, A4).
use Rattle.imbalance.specs.Used.{SameUsed, SameNumber}
use Rattle.arc_swap.specs.declared.Settings.{Settings}
use Rattle.arc_swap.specs.Entry.{Given}

-- two settings differ at most in what the choice does not use
abbrev pub SameSettings : Settings → Settings → Type 0
SameSettings s s' = SameUsed s.ceiling s'.ceiling

-- the same lists with other settings
abbrev pub with_settings : Given → Settings → Given
with_settings p s =
    record { starts = p.starts; neighbours = p.neighbours; arcs = p.arcs; weights = p.weights; settings = s }

-- two settings ask for one ceiling: by sixteen equal numbers, or by that number
abbrev pub SameCeiling : Settings → Settings → Type 0
SameCeiling s s' = SameNumber s.ceiling s'.ceiling

-- The bounds that keep every number of a pass far from the ends of its type. Each follows from the limits on counts and weights, none is tight, and no call is refused by one.
use Rattle.std.specs.Prelude.{ℕ, ◌+◌, ◌^◌}
use Rattle.fiduccia_mattheyses_choice.specs.inner.Bounds.{lock_size}

-- what one arc adds to a gain or takes from it: twice a weight
abbrev pub most_twice : ℕ
most_twice = 2 ^ 33

-- the arc weight of a row: fewer than 2 ^ 16 arcs, of less than 2 ^ 32 each
abbrev pub most_in_row : ℕ
most_in_row = 2 ^ 48

-- a gain without its sign: what a row has into one part less what it has into the other
abbrev pub most_gain : ℕ
most_gain = 2 ^ 50

-- a cut: at most 2 ^ 12 rows
abbrev pub most_cut : ℕ
most_cut = 2 ^ 60

-- what stands in the list of gains while it is brought up to date: fewer than 2 ^ 16 arcs add at most 2 ^ 33 each
abbrev pub most_updated : ℕ
most_updated = lock_size + most_gain

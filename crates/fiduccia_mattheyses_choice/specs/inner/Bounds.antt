-- The bounds that keep every number of the scan far from the ends of its type. Each follows from the limits on counts and weights, none is tight, and no call is refused by one.
use Rattle.std.specs.Prelude.{ℕ, ◌^◌}

-- above every weight, which is a number of 32 bits
abbrev pub past_weights : ℕ
past_weights = 2 ^ 32

-- the mark of a locked vertex without its sign: far above every gain, and far below the end of its type
abbrev pub lock_size : ℕ
lock_size = 2 ^ 62

-- above every load, and no less than the room for any weight
abbrev pub far : ℕ
far = 2 ^ 63

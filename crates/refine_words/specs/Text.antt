-- Words, numbers and lines as bytes (document 01, the end of "The eight-block grid", which prints a run in full).
use Rattle.std.specs.Prelude.{cond, List, [], ◌∷◌, ◌++◌, ℕ, zero, suc, ◌+◌, ◌/◌, ◌%◌, ltb}
use Prim.Native.Char.{code}
use Prim.Native.String.{String, [] as none, ◌∷◌ as ◌then◌}

-- the bytes of ' ', of the line's end and of '0'
abbrev pub blank : ℕ
blank = 32

abbrev pub newline : ℕ
newline = 10

abbrev pub nought : ℕ
nought = 48

-- the bytes of a word, in ASCII
abbrev pub ascii : String → List ℕ
ascii none = []
ascii (c then rest) = code c ∷ ascii rest

-- the digits of x, if it has at most as many as the first number says
unfoldable pub decimal_in : ℕ → ℕ → List ℕ
decimal_in zero x = []
decimal_in (suc places) x = cond (ltb x 10) ((nought + x) ∷ []) (decimal_in places (x / 10) ++ ((nought + x % 10) ∷ []))

-- x in decimal: a digit, or the digits of its tens and then its last; x has no more than x + 1 digits
unfoldable pub decimal : ℕ → List ℕ
decimal x = decimal_in (suc x) x

-- numbers, each after a blank
unfoldable pub numbers : List ℕ → List ℕ
numbers [] = []
numbers (x ∷ xs) = (blank ∷ decimal x) ++ numbers xs

-- a line: a word, its numbers, and the newline
unfoldable pub line : List ℕ → List ℕ → List ℕ
line word xs = word ++ (numbers xs ++ (newline ∷ []))

-- The numbers of the refusals (document 01, "Numbers a call gives back").
use Rattle.std.specs.Prelude.{ℕ, Result, Ok, Err}
use Rattle.lists.specs.declared.refusal.Refusal.{Refusal}
use Rattle.lists.specs.declared.refusal.Refusal.TheVariants.{Lengths, Limits, Rows, Opposites, Weights, Labels, Settings, Lent, FileLength, Check, HeaderLayout, HeaderNumbers, LaterBlocks, Records, Targets}

abbrev pub number_of : Refusal → ℕ
number_of Lengths = 1
number_of Limits = 2
number_of Rows = 3
number_of Opposites = 4
number_of Weights = 5
number_of Labels = 6
number_of Settings = 7
number_of Lent = 8
number_of FileLength = 9
number_of Check = 10
number_of HeaderLayout = 11
number_of HeaderNumbers = 12
number_of LaterBlocks = 13
number_of Records = 14
number_of Targets = 15

-- 0 where nothing refuses
abbrev pub number_in : Result Unit Refusal → ℕ
number_in (Ok u) = 0
number_in (Err refusal) = number_of refusal

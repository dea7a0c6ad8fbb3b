-- The numbers of a run's end (document 01, "FM", "KL" and "Arc-swap").
use Rattle.std.specs.Prelude.{ℕ}
use Rattle.lists.specs.declared.end.End.{End}
use Rattle.lists.specs.declared.end.End.TheVariants.{PassLimit, NoGain, StackFull, NoVertex}

abbrev pub end_number : End → ℕ
end_number PassLimit = 0
end_number NoGain = 1
end_number StackFull = 2
end_number NoVertex = 3

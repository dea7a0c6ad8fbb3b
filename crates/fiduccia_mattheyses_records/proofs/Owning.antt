-- Lists lent together with records. Assumes nothing.
use mathlib.Core.List.{List}
use Rattle.fiduccia_mattheyses_pass.specs.declared.Move.{Move}
use Rattle.fiduccia_mattheyses.specs.Entry.{Lent}
use Rattle.fiduccia_mattheyses_records.specs.Own.{Lists}

-- lists lent together with the records ms
abbrev pub beside : List Move → Lists → Lent
beside ms l = record { labels = l.labels; gains = l.gains; moves = ms; made = l.made; rewound = l.rewound }

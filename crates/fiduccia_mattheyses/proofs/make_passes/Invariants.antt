-- What the loop of `fiduccia_mattheyses::make_passes` keeps.
use Rattle.fiduccia_mattheyses_pass.specs.inner.Steps.{terms_in}
use Rattle.fiduccia_mattheyses.proofs.Running.{Running}
use Rattle.fiduccia_mattheyses.proofs.make_passes.Given as goal

abbrev pub invariant-loop-pass : goal.invariant-loop-pass
invariant-loop-pass l =
    Running (terms_in l.frame) l.pass_limit l.initial.labels l.initial.moves l.initial.rows_made l.initial.rows_rewound l.labels l.gains l.moves l.rows_made l.rows_rewound l.loads l.cut l.pass

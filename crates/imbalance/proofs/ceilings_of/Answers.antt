-- `imbalance::ceilings_of` meets its contract: the sixteen numbers of choice 3, or one number sixteen times. Assumes nothing.
use Rattle.std.proofs.Common.{eq-eqb, ne_eqb}
use Rattle.lists.specs.Fill.{table}
use Rattle.imbalance.specs.Ceiling.{ceilings}
use Rattle.imbalance.proofs.Choices.{fit-old}
use Rattle.imbalance.proofs.ceilings_of.Goals as goal

pub returns-then-asked-eq3 : goal.returns-then-asked-eq3
unfolding ceilings
returns-then-asked-eq3 c = simp (eq-eqb _ _ c.if-asked-eq3.true) c.ceilings_by_part.ensures

pub ceiling_of-c-requires : goal.ceiling_of-c-requires
ceiling_of-c-requires c =
    let p = c.requires in
    (p.0, p.1, p.2, p.3, fit-old _ p.3 c.if-asked-eq3.false)

pub returns : goal.returns
unfolding ceilings table
returns c =
    rw (ne_eqb _ _ c.if-asked-eq3.false, c.ceiling_of-c.ensures)

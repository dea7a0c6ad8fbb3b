-- `imbalance::ceiling_of` meets its contract: each choice's number rewrites with the choice. Assumes nothing.
use Rattle.std.proofs.Common.{◌≡◌, arith}
use Rattle.imbalance.specs.Ceiling.{ceiling}
use Rattle.imbalance.proofs.Choices.{fit-legal}
use Rattle.imbalance.proofs.ceiling_of.Goals as goal

pub returns-in-0 : goal.returns-in-0
unfolding ceiling
returns-in-0 c = rw c.in-0.is c.largest_load.ensures

pub returns-in-1 : goal.returns-in-1
unfolding ceiling
returns-in-1 c = rw c.in-1.is c.from.ensures

pub ceiling_by-requires : goal.ceiling_by-requires
ceiling_by-requires c =
    let p = c.requires in
    let two : c.args.asked.choice ≡ 2 = omega arith in
    (p.0, p.1, p.2, fit-legal _ p.3 two)

pub returns-in_default : goal.returns-in_default
unfolding ceiling
returns-in_default c =
    let two : c.args.asked.choice ≡ 2 = omega arith in
    rw two c.ceiling_by.ensures

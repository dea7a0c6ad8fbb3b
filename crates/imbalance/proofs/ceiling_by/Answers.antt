-- `imbalance::ceiling_by` meets its contract: the total is a float exactly, and the limit is within the cast's range (`Bound`). Assumes nothing.
use Rattle.std.proofs.Common.{◌∙◌}
use Rattle.imbalance.specs.Ceiling.{limit_of, ceiling_of}
use Rattle.imbalance.proofs.Bound.{limit-within, castable, whole}
use Rattle.imbalance.proofs.ceiling_by.Goals as goal

pub truncating_f64_to_u64-requires : goal.truncating_f64_to_u64-requires
unfolding limit_of
truncating_f64_to_u64-requires c =
    let a = c.args in
    let p = c.requires in
    let within = castable (limit_of a.total a.parts a.e) (limit-within a.total a.parts a.e p.0 p.1 p.2 p.3) in
    record { lower_bound = within.0; upper_bound = within.1 }

pub returns : goal.returns
unfolding limit_of ceiling_of
returns c =
    let a = c.args in
    let p = c.requires in
    c.truncating_f64_to_u64.ensures ∙ whole (limit_of a.total a.parts a.e) (limit-within a.total a.parts a.e p.0 p.1 p.2 p.3)

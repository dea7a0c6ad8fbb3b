-- `arc_swap::number::parts_of` meets its contract: the largest label is kept, and one more is the count. Assumes nothing.
use Rattle.std.proofs.Common.{◌≡◌, length, refl, ◌∙◌, arith}
use Rattle.imbalance.specs.Ceiling.{largest}
use Rattle.imbalance.proofs.Largest.{largest-next}
use Rattle.arc_swap.proofs.Parts.{parts_are, label-low}
use Rattle.arc_swap.proofs.number.parts_of.Goals as goal

pub loop-label-init : goal.loop-label-init
unfolding largest
loop-label-init c = refl

pub loop-label-preserved : goal.loop-label-preserved
loop-label-preserved c = c.max-most.ensures ∙ largest-next _ _ _ c.loop-label.invariant

pub overflow_add-most : goal.overflow_add-most
overflow_add-most c =
    let q : c.loop-label.label-index ≡ length c.args.labels.now = omega arith in
    omega (arith, rw q at c.loop-label.invariant, label-low c.args.labels.now c.requires)

pub returns : goal.returns
returns c =
    let q : c.loop-label.label-index ≡ length c.args.labels.now = omega arith in
    c.max.ensures ∙ parts_are c.args.labels.now _ (rw q at c.loop-label.invariant)

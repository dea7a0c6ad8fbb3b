-- `imbalance::parts_load` meets its contract, by what its loop keeps. Assumes nothing.
use Rattle.std.proofs.Common.{◌≡◌, List, ℕ, length, refl, ap, arith}
use Rattle.lists.specs.Sum.{sum}
use Rattle.lists.specs.Fill.{table}
use Rattle.imbalance.specs.Load.{load}
use Rattle.imbalance.proofs.Limits.{label-most}
use Rattle.imbalance.proofs.PartLoads.{load-turn, load-held}
use Rattle.imbalance.proofs.parts_load.Goals as goal

pub loop-v-init : goal.loop-v-init
unfolding table sum
loop-v-init c = refl

-- the label that was read names one of the sixteen parts
pub bounds-at-label : goal.bounds-at-label
bounds-at-label c = omega (arith, label-most 15 c.args.labels.now c.requires.named c.loop-v.v c.loop-v-test.true)

pub overflow_add-at : goal.overflow_add-at
overflow_add-at c =
    let l = c.loop-v in
    omega (
      arith,
      load-held c.args.weights.now c.args.labels.now c.requires.paired l.v _ _ l.auto.v-end
          (label-most 15 c.args.labels.now c.requires.named l.v c.loop-v-test.true) l.invariant,
      c.type_inv.weights l.v,
      c.requires.light,
      c.from.ensures,
    )

pub bounds-at-label-in-loop-v : goal.bounds-at-label-in-loop-v
bounds-at-label-in-loop-v c = omega (arith, label-most 15 c.args.labels.now c.requires.named c.loop-v.v c.loop-v-test.true)

pub loop-v-preserved : goal.loop-v-preserved
loop-v-preserved c =
    load-turn c.args.weights.now c.args.labels.now c.loop-v.v _ _ _ (label-most 15 c.args.labels.now c.requires.named c.loop-v.v c.loop-v-test.true)
    refl c.from.ensures c.loop-v.invariant

pub returns : goal.returns
unfolding load
returns c =
    let e : c.loop-v.v ≡ length c.args.labels.now = omega arith in
    ap (λ (l : List ℕ). record { at = l }) (rw e at c.loop-v.invariant)

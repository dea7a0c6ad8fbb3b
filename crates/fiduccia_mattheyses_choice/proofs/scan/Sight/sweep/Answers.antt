-- `Sight::sweep` meets its contract, by what its loops keep. Assumes nothing.
use Rattle.std.proofs.Common.{◌≡◌, ◌/◌, length, ap, arith}
use Rattle.fiduccia_mattheyses_choice.specs.inner.Look.{Sight}
use Rattle.fiduccia_mattheyses_choice.proofs.Looks.{sweep-none, sweep-look, sweep-twenty}
use Rattle.fiduccia_mattheyses_choice.proofs.scan.Sight.sweep.Goals as goal

pub loop-block-init : goal.loop-block-init
loop-block-init c = sweep-none _ _ c.requires

pub loop-block-preserved : goal.loop-block-preserved
loop-block-preserved c =
    let q : length c.self.inside.labels.now ≡ length c.args.self.now.labels = ap (λ (s : Sight). length s.labels) c.self.view_is in
    sweep-twenty _ _ _ _ _ (omega (arith, q)) c.twenty-held.ensures c.loop-block.invariant

pub loop-v-init : goal.loop-v-init
loop-v-init c =
    let e : c.loop-block.block ≡ length c.self.inside.labels.now / 20 = omega arith in
    rw e at c.loop-block.invariant

pub loop-v-preserved : goal.loop-v-preserved
loop-v-preserved c =
    let q : length c.self.inside.labels.now ≡ length c.args.self.now.labels = ap (λ (s : Sight). length s.labels) c.self.view_is in
    sweep-look _ _ _ _ (omega (arith, q)) c.loop-v.invariant _ c.look-held.ensures

pub returns : goal.returns
returns c =
    let q : length c.self.inside.labels.now ≡ length c.args.self.now.labels = ap (λ (s : Sight). length s.labels) c.self.view_is in
    let e : c.loop-v.v ≡ length c.args.self.now.labels = omega (arith, q) in
    rw e at c.loop-v.invariant

-- `Sight::sample` meets its contract, by what its loop keeps. Assumes nothing.
use Rattle.std.proofs.Common.{◌≡◌, length, ap, arith}
use Rattle.fiduccia_mattheyses_choice.specs.inner.Look.{Sight, nobody}
use Rattle.fiduccia_mattheyses_choice.proofs.Looks.{hold-look}
use Rattle.fiduccia_mattheyses_choice.proofs.scan.Sight.sample.Goals as goal

pub loop-next-preserved : goal.loop-next-preserved
loop-next-preserved c =
    let q : length c.self.inside.labels.now ≡ length c.args.self.now.labels = ap (λ (s : Sight). length s.labels) c.self.view_is in
    hold-look _ nobody _ _ (omega (arith, q)) c.loop-next.invariant _ c.look-held.ensures

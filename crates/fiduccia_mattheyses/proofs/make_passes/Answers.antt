-- `fiduccia_mattheyses::make_passes` meets its contract: each turn is a law of `Running`. Assumes nothing.
use Rattle.std.proofs.Common.{◌≡◌, refl, arith}
use Rattle.fiduccia_mattheyses.proofs.Running.{running-full, pass-ends, pass-goes-on}
use Rattle.fiduccia_mattheyses.proofs.make_passes.Goals as goal

pub returns-then-before-cut : goal.returns-then-before-cut
returns-then-before-cut c =
    pass-ends _ _ _ _ _ _ _ _ _ c.requires _ _ _ _ _ _ _ _ c.loop-pass.invariant c.loop-pass-test.true _ _ _ _ c.make_pass-passed.ensures c.make_pass-passed.auto.gains _ _ _ c.put_row-passes.ensures (omega arith) _ refl

pub loop-pass-preserved : goal.loop-pass-preserved
loop-pass-preserved c =
    let d = c.make_pass-passed in
    pass-goes-on _ _ _ _ _ _ _ _ _ c.requires _ _ _ _ _ _ _ _ c.loop-pass.invariant c.loop-pass-test.true _ _ _ _ d.ensures d.auto.gains _ _ _ c.put_row-passes.ensures c.if-before-cut.false

pub returns : goal.returns
returns c =
    let e : c.loop-pass.pass ≡ c.args.pass_limit = omega arith in
    rw e at (running-full _ _ _ _ _ _ _ _ _ c.requires _ _ _ _ _ _ _ _ c.loop-pass.invariant c.loop-pass-test.false _ refl)

-- `kernighan_lin::make_passes` meets its contract: a pass more, or the end of the run. Assumes nothing.
use mathlib.Core.Path.{◌≡◌, refl}
use native.Mathlib.Omega.{arith}
use lib.ListN.{get_or}
use Rattle.kernighan_lin_pass.specs.inner.Steps.{terms_by}
use Rattle.kernighan_lin.proofs.Running.{pass_on, pass-ends, limit-ends}
use Rattle.kernighan_lin.proofs.make_passes.Goals as goal

pub returns-then-last-after : goal.returns-then-last-after
returns-then-last-after c =
    let a = c.args in
    let l = c.loop-i in
    let m = rw c.limits_of.ensures at c.make_pass-after.ensures in
    rw c.run_report.ensures
    (pass-ends (terms_by c.args.graph.now (get_or c.args.labels.now 0 0) c.args.settings.bad) a.settings.swaps a.settings.passes a.labels.now l.i l.last
    l.labels l.gains l.locks l.swaps l.invariant c.loop-i-test.true _ refl _ m.0 _ m.1 _ c.cut_of-before.ensures
    (omega (arith, c.if-last-after.true)))

pub loop-i-preserved : goal.loop-i-preserved
loop-i-preserved c =
    let a = c.args in
    let l = c.loop-i in
    let k = c.make_pass-after.auto in
    let m = rw c.limits_of.ensures at c.make_pass-after.ensures in
    pass_on (terms_by c.args.graph.now (get_or c.args.labels.now 0 0) c.args.settings.bad) a.settings.swaps a.settings.passes a.labels.now l.i l.last l.labels
    l.gains l.locks l.swaps l.invariant c.loop-i-test.true _ refl _ m.0 _ m.1 _ _ _ k.labels k.gains k.locks k.swaps c.if-last-after.false

pub returns : goal.returns
returns c =
    let a = c.args in
    let l = c.loop-i in
    let upto = l.invariant.upto in
    let e : l.i ≡ a.settings.passes = omega arith in
    rw c.run_report-2.ensures
    (rw e at (limit-ends (terms_by c.args.graph.now (get_or c.args.labels.now 0 0) c.args.settings.bad) a.settings.swaps a.settings.passes a.labels.now l.i l.last
    l.labels l.gains l.locks l.swaps l.invariant _ c.cut_of-before.ensures c.loop-i-test.false))

-- `Graph::answered_all` meets its contract, by what its loop keeps. Assumes nothing.
use Rattle.std.proofs.Common.{◌≡◌, sym, ◌∙◌, arith, refl}
use Rattle.lists.proofs.Alls.{all_none, all_more, all-fails}
use Rattle.topology.specs.Rule.{answered}
use Rattle.topology.proofs.Lookups.{answerable}
use Rattle.topology.proofs.Graph.answered_all.Goals as goal

pub loop-u-init : goal.loop-u-init
loop-u-init c = all_none _

pub row_answered-requires : goal.row_answered-requires
row_answered-requires c = (
  omega (arith, c.requires.0.counted),
  answerable c.requires.0 c.requires.1 c.loop-u.u _ _ c.loop-u-test.true refl refl,
)

pub returns-then-not-row_answered : goal.returns-then-not-row_answered
unfolding answered
returns-then-not-row_answered c = sym (all-fails c.args.n c.loop-u.u _ c.loop-u-test.true (sym c.row_answered.ensures ∙ c.if-not-row_answered.true))

pub loop-u-preserved : goal.loop-u-preserved
loop-u-preserved c = all_more c.loop-u.u _ c.loop-u.invariant (sym c.row_answered.ensures ∙ c.if-not-row_answered.false)

pub returns : goal.returns
unfolding answered
returns c =
    let e : c.loop-u.u ≡ c.args.n = omega arith in
    sym (rw e at c.loop-u.invariant)

-- `Graph::starts_ok` meets its contract, by what its loop keeps. Assumes nothing.
use Rattle.std.proofs.Common.{◌≡◌, length, sym, ap, arith, le-leb, eq-eqb, ne_eqb}
use borrow.Author.Tests.{lt-leb}
use Rattle.lists.proofs.Alls.{all_none, all_more, all-fails}
use Rattle.topology.specs.Graph.{Graph}
use Rattle.topology.specs.Rule.{starts_ok, falls_not}
use Rattle.topology.proofs.Graph.starts_ok.Goals as goal
use Rattle.topology.proofs.Graph.starts_ok.Goals.{then-first-ne0-via-then-first-ne0, then-first-ne0-via-else-first-ne0+then-first-self}

pub returns-then-first-ne0 : goal.returns-then-first-ne0
unfolding starts_ok
returns-then-first-ne0 c =
    let q : length c.self.inside.neighbours.now ≡ length c.args.self.now.neighbours = ap (λ (g : Graph). length g.neighbours) c.self.view_is in
    elim c.then-first-ne0.branch [
      | then-first-ne0-via-then-first-ne0 w ↦ rw (← c.first.ensures, ne_eqb _ _ w.if-first-ne0.true)
      | then-first-ne0-via-else-first-ne0+then-first-self w ↦ rw (← c.first.ensures, eq-eqb _ _ w.if-first-ne0.false, ← w.first-else-first-ne0.ensures, ← q, ne_eqb _ _ w.if-first-self.true)
    ]

pub loop-u-init : goal.loop-u-init
loop-u-init c = all_none _

pub returns-then-first-past : goal.returns-then-first-past
unfolding starts_ok
returns-then-first-past c =
    let q : length c.self.inside.neighbours.now ≡ length c.args.self.now.neighbours = ap (λ (g : Graph). length g.neighbours) c.self.view_is in
    let falls = rw (c.first-in-loop-u.ensures, c.past.ensures) at c.if-first-past.true in
    rw (← c.first.ensures, eq-eqb _ _ c.if-first-ne0.false, ← c.first-else-first-ne0.ensures, ← q, eq-eqb _ _ c.if-first-self.false)
    (sym (all-fails _ _ (falls_not c.args.self.now) c.loop-u-test.true (lt-leb _ _ falls)))

pub loop-u-preserved : goal.loop-u-preserved
loop-u-preserved c = all_more _ _ c.loop-u.invariant (le-leb _ _ (rw (c.first-in-loop-u.ensures, c.past.ensures) at c.if-first-past.false))

pub returns : goal.returns
unfolding starts_ok
returns c =
    let q : length c.self.inside.neighbours.now ≡ length c.args.self.now.neighbours = ap (λ (g : Graph). length g.neighbours) c.self.view_is in
    let e : c.loop-u.u ≡ c.args.n = omega arith in
    rw (← c.first.ensures, eq-eqb _ _ c.if-first-ne0.false, ← c.first-else-first-ne0.ensures, ← q, eq-eqb _ _ c.if-first-self.false) (sym (rw e at c.loop-u.invariant))

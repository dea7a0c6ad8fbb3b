-- `kernighan_lin_pass::choose::largest_on` meets its contract: a vertex is taken or left. Assumes nothing.
use mathlib.Core.Path.{◌≡◌, sym, ◌∙◌}
use native.Mathlib.Omega.{arith}
use lib.ListN.{get_or}
use lib.IntN.{pos}
use borrow.Author.Rules.{sfits_of}
use mir.Syntax.{w64}
use mir.Val.{to_z, of_z}
use mir.ValLaws.{to_z-of_z}
use Rattle.kernighan_lin_pass.proofs.Choices.{so-far-none, step-taken, step_left, so-far-all}
use Rattle.kernighan_lin_pass.proofs.choose.largest_on.Goals as goal
use Rattle.kernighan_lin_pass.proofs.choose.largest_on.Goals.{then-locks-v-eq0+then-takes, then-locks-v-eq0+else-takes, else-locks-v-eq0}
use borrow.Author.Tests.{eq-eqb, ne_eqb}

pub loop-v-init : goal.loop-v-init
loop-v-init c = so-far-none _ _ _ _ _

pub loop-v-preserved : goal.loop-v-preserved
loop-v-preserved c =
    let a = c.args in
    let l = c.loop-v in
    let r : to_z w64 (of_z w64 (get_or a.gains.now l.v (pos 0))) ≡ get_or a.gains.now l.v (pos 0) = to_z-of_z w64 _ (sfits_of (omega (arith, c.requires.3 l.v))) in
    elim c.if-locks-v-eq0.branch [
      | then-locks-v-eq0+then-takes w ↦
          rw (w.at-is, w.most-is, r)
          (step-taken a.first a.side a.labels.now a.gains.now a.locks.now c.requires.3 l.v l.at _ l.invariant c.loop-v-test.true
          (rw (eq-eqb _ _ w.if-locks-v-eq0.true) (sym (rw r at w.takes.ensures) ∙ w.if-takes.true)))
      | then-locks-v-eq0+else-takes w ↦
          rw (w.at-is, w.most-is)
          (step_left a.first a.side a.labels.now a.gains.now a.locks.now c.requires.3 l.v l.at _ l.invariant c.loop-v-test.true
          (rw (eq-eqb _ _ w.if-locks-v-eq0.true) (sym (rw r at w.takes.ensures) ∙ w.if-takes.false)))
      | else-locks-v-eq0 w ↦
          rw (w.at-is, w.most-is)
          (step_left a.first a.side a.labels.now a.gains.now a.locks.now c.requires.3 l.v l.at _ l.invariant c.loop-v-test.true
          (rw (ne_eqb _ _ w.if-locks-v-eq0.false)))
    ]

pub returns : goal.returns
returns c = so-far-all _ _ _ _ _ _ _ _ c.loop-v.invariant c.loop-v-test.false

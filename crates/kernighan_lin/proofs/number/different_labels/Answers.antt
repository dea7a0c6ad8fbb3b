-- `kernighan_lin::number::different_labels` meets its contract, by what its loop keeps. Assumes nothing.
use mathlib.Core.Path.{◌≡◌, refl, sym, ◌∙◌}
use native.Mathlib.Omega.{arith}
use native.Mathlib.Nat.{add-zero}
use borrow.Author.Rules.{rules}
use Rattle.lists.specs.Sum.{weigh}
use Rattle.lists.proofs.Sums.{sum-none, sum_step}
use Rattle.kernighan_lin.specs.Entry.{uses, different}
use Rattle.kernighan_lin.proofs.number.different_labels.Goals as goal
use Rattle.kernighan_lin.proofs.number.different_labels.Goals.{then-has_label, else-has_label}

pub loop-t-init : goal.loop-t-init
loop-t-init c = (sym (sum-none _), search rules)

pub loop-t-preserved : goal.loop-t-preserved
loop-t-preserved c =
    let l = c.loop-t in
    let a = c.args in
    elim c.if-has_label.branch [
      | then-has_label w ↦ (rw w.count-is (sum_step l.t l.count 1 (λ i. weigh (uses a.labels.now i) 1) l.invariant.0 (rw (sym c.has_label.ensures ∙ w.if-has_label.true) refl)), omega (arith, w.count-is, l.invariant.1))
      | else-has_label w ↦ (rw w.count-is (sym (add-zero l.count) ∙ sum_step l.t l.count 0 (λ i. weigh (uses a.labels.now i) 1) l.invariant.0 (rw (sym c.has_label.ensures ∙ w.if-has_label.false) refl)), omega (arith, w.count-is, l.invariant.1))
    ]

pub returns : goal.returns
unfolding different
returns c =
    let e : c.loop-t.t ≡ 16 = omega arith in
    rw e at c.loop-t.invariant.0

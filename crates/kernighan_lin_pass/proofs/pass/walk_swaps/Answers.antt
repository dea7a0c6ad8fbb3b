-- `kernighan_lin_pass::pass::walk_swaps` meets its contract: a swap more, or the end of the walk. Assumes nothing.
use mathlib.Core.Path.{refl, ap, ◌∙◌}
use Prim.Native.Nat.{◌+◌, ◌≤◌, ◌<◌}
use native.Mathlib.Omega.{arith}
use lib.ListN.{length}
use Rattle.kernighan_lin_pass.specs.inner.Steps.{counted, terms_in}
use Rattle.kernighan_lin_pass.specs.declared.pass.Walked.{Walked}
use Rattle.kernighan_lin_pass.proofs.Walks.{on-start, on-full, on_none, on-next, fit-now, answer-none, answer-some, pair-below}
use Rattle.kernighan_lin_pass.proofs.pass.walk_swaps.Goals as goal

pub loop-k-init : goal.loop-k-init
loop-k-init c =
    let a = c.args in
    (on-start (terms_in a.frame.now) a.frame.now.limits.swaps a.labels.now c.requires.fit a.gains.now a.locks.now a.swaps.now _ a.before c.requires, refl, refl)

pub returns-in_default : goal.returns-in_default
returns-in_default c =
    let s = terms_in c.args.frame.now in
    let l = c.loop-k in
    on_none s c.args.frame.now.limits.swaps c.args.labels.now c.requires.fit l.labels l.gains l.locks l.swaps l.after l.walked l.invariant.0
    (answer-none s l.labels l.gains l.locks _ c.in_default.ensures.pair_is refl)

pub swap_pair-after-requires : goal.swap_pair-after-requires
swap_pair-after-requires c =
    let s = terms_in c.args.frame.now in
    let l = c.loop-k in
    let b = pair-below s l.labels l.gains l.locks _ (answer-some s l.labels l.gains l.locks _ c.in-Some.pair c.in-Some.ensures.pair_is refl) in
    (fit-now s c.args.frame.now.limits.swaps c.args.labels.now c.requires.fit l.labels l.gains l.locks l.swaps l.after l.walked l.invariant.0, b.0, b.1, l.invariant.0.cur-is)

pub note-requires : goal.note-requires
note-requires c =
    let s = terms_in c.args.frame.now in
    let l = c.loop-k in
    let b = pair-below s l.labels l.gains l.locks _ (answer-some s l.labels l.gains l.locks _ c.in-Some.pair c.in-Some.ensures.pair_is refl) in
    let a = l.invariant.0.locks_long in
    let d = l.invariant.0.long in
    (omega (arith, b.0), omega (arith, b.1), omega (arith, c.requires.fit.rows.few), omega (arith, l.invariant.1, c.loop-k-test.true, c.requires.places_for))

pub loop-k-preserved : goal.loop-k-preserved
unfolding counted
loop-k-preserved c =
    let s = terms_in c.args.frame.now in
    let l = c.loop-k in
    let ch = c.in-Some in
    let e = answer-some s l.labels l.gains l.locks _ ch.pair ch.ensures.pair_is refl in
    let turn : l.walked.made < c.args.frame.now.limits.swaps = omega (arith, l.invariant.2, c.loop-k-test.true) in
    let placed : l.walked.made < length l.swaps = omega (arith, l.invariant.1, turn, c.requires.places_for) in (
      on-next s c.args.frame.now.limits.swaps c.args.labels.now c.requires.fit l.labels l.gains l.locks
          l.swaps l.after l.walked l.invariant.0 turn (record { one = ch.pair.one; two = ch.pair.two }) e
          c.requires.fit.rows.few placed c.swap_pair-after.result c.swap_pair-after.ensures.1 _ _ _ _ _ c.swap_pair-after.ensures.0
          (ch.ensures.gains_are _ e) c.note.ensures.0 (rw (← l.invariant.2) at c.note.ensures.1) c.count_swap-walked.ensures,
      c.note.auto.swaps ∙ l.invariant.1,
      ap (λ (x : Walked). x.made) c.count_swap-walked.ensures ∙ ap (λ (k : _). k + 1) l.invariant.2,
    )

pub returns : goal.returns
returns c =
    let l = c.loop-k in
    let all : c.args.frame.now.limits.swaps ≤ l.walked.made = omega (arith, l.invariant.2, c.loop-k-test.false) in
    on-full (terms_in c.args.frame.now) c.args.frame.now.limits.swaps c.args.labels.now c.requires.fit l.labels l.gains l.locks l.swaps
    l.after l.walked l.invariant.0 all

-- `kernighan_lin_pass::gain::add_fresh` meets its contract: a place that is not written yet has its fresh gain added. Assumes nothing.
use mathlib.Core.Path.{◌≡◌, ap, ap₂, ◌∙◌}
use mathlib.Core.List.{List}
use Prim.Native.Nat.{ℕ, ◌-◌, ◌^◌, ◌<◌}
use native.Mathlib.Omega.{arith}
use lib.ListN.{length, get_or, set}
use lib.IntN.{ℤ, pos, ◌+ℤ◌}
use lib.Signed.{mag}
use Rattle.lists.specs.Fill.{written}
use Rattle.lists.proofs.Fills.{written_none, written-more, written-past}
use Rattle.lists.proofs.Tables.{written-whole}
use Rattle.topology.specs.Graph.{Graph}
use Rattle.kernighan_lin_pass.specs.Gain.{fresh, added}
use Rattle.kernighan_lin_pass.specs.inner.Steps.{Fit, Within, most_gain}
use Rattle.kernighan_lin_pass.proofs.Sizes.{fresh-small}
use Rattle.kernighan_lin_pass.proofs.Bits.{sum_fits, sum_kept}
use Rattle.kernighan_lin_pass.proofs.gain.add_fresh.Goals as goal

-- the place is not written yet
old : (f : ℕ → ℤ) (gains gains₀ : List ℤ) (u : ℕ) → gains ≡ written f u gains₀ → get_or gains u (pos 0) ≡ get_or gains₀ u (pos 0)
old f gains gains₀ u e = rw e (written-past f (pos 0) u gains₀ u (omega arith))

-- a gain and what is added to it are far from the ends of the range
far :
    (n : ℕ) (g : Graph) (labels : List ℕ) (gains : List ℤ)
    → Fit n g
    → Within most_gain gains
    → (u : ℕ)
    → u < n
    → (z f : ℤ)
    → z ≡ get_or gains u (pos 0)
    → f ≡ fresh g labels u
    → (mag z < 2 ^ 62) × (mag f < 2 ^ 62 - 1)
far n g labels gains fit within u inside z f a b = (rw a (omega (arith, within u)), rw b (omega (arith, fresh-small n g fit u inside labels)))

pub loop-u-init : goal.loop-u-init
loop-u-init c = written_none _ _

pub overflow_add-gains : goal.overflow_add-gains
overflow_add-gains c =
    let l = c.loop-u in
    let z = get_or l.gains l.u (pos 0) in
    let w = far _ _ _ c.args.gains.now c.requires.0 c.requires.2 l.u c.loop-u-test.true z c.fresh_gain.result (old _ l.gains _ l.u l.invariant) c.fresh_gain.ensures in
    sum_fits z c.fresh_gain.result w.0 w.1

pub loop-u-preserved : goal.loop-u-preserved
loop-u-preserved c =
    let l = c.loop-u in
    let z = get_or l.gains l.u (pos 0) in
    let is = old _ l.gains c.args.gains.now l.u l.invariant in
    let w = far _ _ _ c.args.gains.now c.requires.0 c.requires.2 l.u c.loop-u-test.true z c.fresh_gain.result is c.fresh_gain.ensures in
    let kept = sum_kept z c.fresh_gain.result w.0 w.1 in
    written-more _ l.u c.args.gains.now l.gains _ (ap (set l.gains l.u) (kept ∙ ap₂ ◌+ℤ◌ is c.fresh_gain.ensures)) l.invariant

pub returns : goal.returns
unfolding added
returns c =
    let l = c.loop-u in
    let e : l.u ≡ length c.args.labels.now = omega arith in
    (rw e at l.invariant) ∙ written-whole (length c.args.labels.now) (pos 0) _ c.args.gains.now c.requires.1

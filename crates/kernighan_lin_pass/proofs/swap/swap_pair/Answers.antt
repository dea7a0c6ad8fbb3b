-- `kernighan_lin_pass::swap::swap_pair` meets its contract: a swap is two moves, and the cut falls by the gain of each. Assumes nothing.
use mathlib.Core.Path.{◌≡◌, refl, ◌∙◌}
use Prim.Native.Nat.{◌^◌, ◌<◌}
use lib.IntN.{ℤ}
use lib.Signed.{mag}
use lib.ListN.{get_or, set, length-set}
use borrow.Author.Rules.{sfits_of}
use mir.Syntax.{w64}
use mir.Val.{to_z, of_z}
use mir.ValLaws.{to_z-of_z}
use Rattle.kernighan_lin_pass.specs.Pass.{swapped}
use Rattle.kernighan_lin_pass.proofs.Swaps.{fall-asks, fall-gives}
use Rattle.kernighan_lin_pass.proofs.swap.swap_pair.Goals as goal

-- a gain, as it is read
read : (x y : ℤ) → mag x < 2 ^ 63 → x ≡ y → to_z w64 (of_z w64 x) ≡ y
read x y h e = to_z-of_z w64 x (sfits_of h) ∙ e

pub fallen-requires : goal.fallen-requires
fallen-requires c =
    fall-asks c.args.graph.now c.args.labels.now c.requires.0 c.args.pair.one (get_or c.args.labels.now c.args.pair.two 0) c.requires.1 _ _
    c.requires.3 (read _ _ c.gain_of-g.type_inv c.gain_of-g.ensures)

pub fallen-requires-2 : goal.fallen-requires-2
fallen-requires-2 c =
    let g = c.args.graph.now in
    let p = c.args.labels.now in
    let b = get_or p c.args.pair.two 0 in
    let long = length-set p c.args.pair.one b in
    fall-asks g (set p c.args.pair.one b) (rw long c.requires.0) c.args.pair.two (get_or p c.args.pair.one 0) (rw long c.requires.2) _ _
    (fall-gives g p c.requires.0 c.args.pair.one b c.requires.1 _ _ c.requires.3 (read _ _ c.gain_of-g.type_inv c.gain_of-g.ensures) c.fallen.result c.fallen.ensures)
    (read _ _ c.gain_of-h.type_inv c.gain_of-h.ensures)

pub returns : goal.returns
unfolding swapped
returns c =
    let g = c.args.graph.now in
    let p = c.args.labels.now in
    let b = get_or p c.args.pair.two 0 in
    let long = length-set p c.args.pair.one b in (
      refl,
      fall-gives g (set p c.args.pair.one b) (rw long c.requires.0) c.args.pair.two (get_or p c.args.pair.one 0) (rw long c.requires.2) _ _
          (fall-gives g p c.requires.0 c.args.pair.one b c.requires.1 _ _ c.requires.3 (read _ _ c.gain_of-g.type_inv c.gain_of-g.ensures) c.fallen.result c.fallen.ensures)
          (read _ _ c.gain_of-h.type_inv c.gain_of-h.ensures) _ c.fallen-2.ensures,
    )

-- `kernighan_lin_pass::choose::choose_pair` meets its contract: each way out is a case of the pair. Assumes nothing.
use mathlib.Core.Path.{◌≡◌, refl, sym, ◌∙◌}
use mathlib.Core.Bool.{Bool, true, false, ◌&&◌}
use mathlib.Core.List.{List}
use mathlib.Core.Option.{Option, some}
use Prim.Native.Nat.{ℕ, ◌+◌, ◌*◌, ◌<◌}
use native.Mathlib.Omega.{arith}
use lib.ListN.{length, get_or}
use lib.Dec.{eqb}
use lib.IntN.{ℤ, pos, ◌+ℤ◌}
use lib.Signed.{le_z}
use mir.Syntax.{w64}
use mir.Val.{to_z, of_z}
use Rattle.std.specs.Prelude.{Some, None}
use Rattle.topology.specs.Graph.{Graph}
use Rattle.kernighan_lin_pass.specs.Gain.{added, updated, largest}
use Rattle.kernighan_lin_pass.specs.Pass.{Terms}
use Rattle.kernighan_lin_pass.specs.inner.Steps.{Fit, Within, most_gain, fresh_bound, update_bound, found, terms_by, Chose}
use Rattle.kernighan_lin_pass.proofs.Bits.{place_read}
use Rattle.kernighan_lin_pass.proofs.Within.{added-within, updated-within}
use Rattle.kernighan_lin_pass.proofs.Pairs.{largest-in, found-none, found-some, pair-one-out, pair-two-out, pair-stops, pair_goes, chose_none, chose-some}
use Rattle.kernighan_lin_pass.proofs.choose.choose_pair.Goals as goal

module _ (g : Graph) (labels : List ℕ) (before : List ℤ) (locks : List ℕ) (first bad : ℕ) (fit : Fit (length labels) g) (small : Within most_gain before) where
  abbrev S : Terms
  S = terms_by g first bad

  abbrev gains-one : List ℤ
  gains-one = added g labels before

  abbrev choice-one : Option ℕ
  choice-one = largest (λ v. true) first true labels gains-one locks

  abbrev gains-two : ℕ → List ℤ
  gains-two v = updated g labels v gains-one

  abbrev choice-two : ℕ → Option ℕ
  choice-two v = largest (λ u. true) first false labels (gains-two v) locks

  within-one : Within (most_gain + fresh_bound) gains-one
  within-one = added-within g labels fit most_gain before small

  module _ (gains : List ℤ) (gains_are : gains ≡ gains-one) where
    within-doubled : Within (2 * most_gain) gains
    within-doubled = rw gains_are (λ u. omega (arith, within-one u))

    out-one : (left : List ℤ) → None ≡ found (largest (λ u. true) first true labels gains locks) → Chose S labels before locks None left
    out-one left e =
        chose_none S labels before locks _ left
        (pair-one-out S labels before locks (found-none choice-one None (rw gains_are at e) refl))
        refl

    module _ (v : ℕ) (v-is : Some v ≡ found (largest (λ u. true) first true labels gains locks)) where
      -- the first choice
      one : choice-one ≡ some v
      one = found-some choice-one (Some v) v (rw gains_are at v-is) refl

      one-below : v < length labels
      one-below = (largest-in (λ x. true) first true labels gains-one locks v one).0

      within-two : Within (most_gain + fresh_bound + update_bound) (gains-two v)
      within-two = updated-within g labels fit (most_gain + fresh_bound) gains-one within-one v one-below

      module _ (told : List ℤ) (told-are : told ≡ updated g labels v gains) where
        -- the gains that the neighbours were told
        updated-are : told ≡ gains-two v
        updated-are = rw gains_are at told-are

        told-doubled : Within (2 * most_gain) told
        told-doubled = rw updated-are (λ u. omega (arith, within-two u))

        out-two : (left : List ℤ) → None ≡ found (largest (λ u. true) first false labels told locks) → Chose S labels before locks None left
        out-two left e =
            chose_none S labels before locks _ left
            (pair-two-out S labels before locks v one (found-none (choice-two v) None (rw updated-are at e) refl))
            refl

        module _ (w : ℕ) (w-is : Some w ≡ found (largest (λ u. true) first false labels told locks)) where
          -- the second choice
          two : choice-two v ≡ some w
          two = found-some (choice-two v) (Some w) w (rw updated-are at w-is) refl

          two-below : w < length labels
          two-below = (largest-in (λ x. true) first false labels (gains-two v) locks w two).0

          -- the two gains, as they were read
          g-is : to_z w64 (of_z w64 (get_or gains v (pos 0))) ≡ get_or gains-one v (pos 0)
          g-is = place_read _ _ v (most_gain + fresh_bound) gains_are within-one (omega arith)

          h-is : to_z w64 (of_z w64 (get_or told w (pos 0))) ≡ get_or (gains-two v) w (pos 0)
          h-is = place_read _ _ w (most_gain + fresh_bound + update_bound) updated-are within-two (omega arith)

          module _ (r : Bool) (r-is : r ≡ le_z (to_z w64 (of_z w64 (get_or gains v (pos 0))) +ℤ to_z w64 (of_z w64 (get_or told w (pos 0)))) (pos 0) && eqb bad 0) where
            stop_is : r ≡ le_z (get_or gains-one v (pos 0) +ℤ get_or (gains-two v) w (pos 0)) (pos 0) && eqb bad 0
            stop_is = rw (g-is, h-is) at r-is

            stopped : (left : List ℤ) → r ≡ true → Chose S labels before locks None left
            stopped left e = chose_none S labels before locks _ left (pair-stops S labels before locks v w one two (sym stop_is ∙ e)) refl

            goes-on : r ≡ false → Chose S labels before locks (Some (record { one = v; two = w })) told
            goes-on e = chose-some S labels before locks v w told (pair_goes S labels before locks v w one two (sym stop_is ∙ e)) updated-are

pub largest_on-requires : goal.largest_on-requires
largest_on-requires c =
    (c.add_fresh.auto.gains ∙ c.requires.1, c.requires.2, c.requires.0.rows.few, within-doubled c.args.frame.now.graph.now c.args.labels.now c.args.gains.now c.args.locks.now c.args.frame.now.first c.args.frame.now.limits.bad c.requires.0 c.requires.3 _ c.add_fresh.ensures)

pub returns-in_err-v : goal.returns-in_err-v
returns-in_err-v c = rw c.from_residual.ensures (out-one c.args.frame.now.graph.now c.args.labels.now c.args.gains.now c.args.locks.now c.args.frame.now.first c.args.frame.now.limits.bad c.requires.0 c.requires.3 _ c.add_fresh.ensures _ c.in_err-v.ensures)

pub offset_bounds-gains-v : goal.offset_bounds-gains-v
offset_bounds-gains-v c =
    let b = one-below c.args.frame.now.graph.now c.args.labels.now c.args.gains.now c.args.locks.now c.args.frame.now.first c.args.frame.now.limits.bad c.requires.0 c.requires.3 _ c.add_fresh.ensures c.in_ok-v.v c.in_ok-v.ensures in
    omega (arith, b, c.requires.0.rows.few)

pub slice_copy_out-g : goal.slice_copy_out-g
slice_copy_out-g c =
    let b = one-below c.args.frame.now.graph.now c.args.labels.now c.args.gains.now c.args.locks.now c.args.frame.now.first c.args.frame.now.limits.bad c.requires.0 c.requires.3 _ c.add_fresh.ensures c.in_ok-v.v c.in_ok-v.ensures in
    omega (arith, b, c.add_fresh.auto.gains, c.requires.1)

pub update_neighbours-requires : goal.update_neighbours-requires
update_neighbours-requires c = (
  c.requires.0,
  c.add_fresh.auto.gains ∙ c.requires.1,
  one-below c.args.frame.now.graph.now c.args.labels.now c.args.gains.now c.args.locks.now c.args.frame.now.first c.args.frame.now.limits.bad c.requires.0 c.requires.3 _ c.add_fresh.ensures c.in_ok-v.v c.in_ok-v.ensures,
  within-doubled c.args.frame.now.graph.now c.args.labels.now c.args.gains.now c.args.locks.now c.args.frame.now.first c.args.frame.now.limits.bad c.requires.0 c.requires.3 _ c.add_fresh.ensures,
)

pub largest_on-requires-2 : goal.largest_on-requires-2
largest_on-requires-2 c = (
  c.update_neighbours.auto.gains ∙ c.add_fresh.auto.gains ∙ c.requires.1,
  c.requires.2,
  c.requires.0.rows.few,
  told-doubled c.args.frame.now.graph.now c.args.labels.now c.args.gains.now c.args.locks.now c.args.frame.now.first c.args.frame.now.limits.bad c.requires.0 c.requires.3 _ c.add_fresh.ensures c.in_ok-v.v c.in_ok-v.ensures _ c.update_neighbours.ensures,
)

pub returns-in_err-w : goal.returns-in_err-w
returns-in_err-w c = rw c.from_residual-in_err-w.ensures (out-two c.args.frame.now.graph.now c.args.labels.now c.args.gains.now c.args.locks.now c.args.frame.now.first c.args.frame.now.limits.bad c.requires.0 c.requires.3 _ c.add_fresh.ensures c.in_ok-v.v c.in_ok-v.ensures _ c.update_neighbours.ensures _ c.in_err-w.ensures)

pub offset_bounds-gains-w : goal.offset_bounds-gains-w
offset_bounds-gains-w c =
    let b = two-below c.args.frame.now.graph.now c.args.labels.now c.args.gains.now c.args.locks.now c.args.frame.now.first c.args.frame.now.limits.bad c.requires.0 c.requires.3 _ c.add_fresh.ensures c.in_ok-v.v c.in_ok-v.ensures _ c.update_neighbours.ensures c.in_ok-w.w c.in_ok-w.ensures in
    omega (arith, b, c.requires.0.rows.few)

pub slice_copy_out-h : goal.slice_copy_out-h
slice_copy_out-h c =
    let b = two-below c.args.frame.now.graph.now c.args.labels.now c.args.gains.now c.args.locks.now c.args.frame.now.first c.args.frame.now.limits.bad c.requires.0 c.requires.3 _ c.add_fresh.ensures c.in_ok-v.v c.in_ok-v.ensures _ c.update_neighbours.ensures c.in_ok-w.w c.in_ok-w.ensures in
    omega (arith, b, c.update_neighbours.auto.gains, c.add_fresh.auto.gains, c.requires.1)

pub stops-requires : goal.stops-requires
stops-requires c =
    let a = within-one c.args.frame.now.graph.now c.args.labels.now c.args.gains.now c.args.locks.now c.args.frame.now.first c.args.frame.now.limits.bad c.requires.0 c.requires.3 in
    let b = within-two c.args.frame.now.graph.now c.args.labels.now c.args.gains.now c.args.locks.now c.args.frame.now.first c.args.frame.now.limits.bad c.requires.0 c.requires.3 _ c.add_fresh.ensures c.in_ok-v.v c.in_ok-v.ensures in (
      rw (g-is c.args.frame.now.graph.now c.args.labels.now c.args.gains.now c.args.locks.now c.args.frame.now.first c.args.frame.now.limits.bad c.requires.0 c.requires.3 _ c.add_fresh.ensures c.in_ok-v.v c.in_ok-v.ensures _ c.update_neighbours.ensures c.in_ok-w.w c.in_ok-w.ensures) (omega (arith, a c.in_ok-v.v)),
      rw (h-is c.args.frame.now.graph.now c.args.labels.now c.args.gains.now c.args.locks.now c.args.frame.now.first c.args.frame.now.limits.bad c.requires.0 c.requires.3 _ c.add_fresh.ensures c.in_ok-v.v c.in_ok-v.ensures _ c.update_neighbours.ensures c.in_ok-w.w c.in_ok-w.ensures) (omega (arith, b c.in_ok-w.w)),
    )

pub returns-then-stops : goal.returns-then-stops
returns-then-stops c = stopped c.args.frame.now.graph.now c.args.labels.now c.args.gains.now c.args.locks.now c.args.frame.now.first c.args.frame.now.limits.bad c.requires.0 c.requires.3 _ c.add_fresh.ensures c.in_ok-v.v c.in_ok-v.ensures _ c.update_neighbours.ensures c.in_ok-w.w c.in_ok-w.ensures _ c.stops.ensures _ c.if-stops.true

pub returns : goal.returns
returns c = goes-on c.args.frame.now.graph.now c.args.labels.now c.args.gains.now c.args.locks.now c.args.frame.now.first c.args.frame.now.limits.bad c.requires.0 c.requires.3 _ c.add_fresh.ensures c.in_ok-v.v c.in_ok-v.ensures _ c.update_neighbours.ensures c.in_ok-w.w c.in_ok-w.ensures _ c.stops.ensures c.if-stops.false

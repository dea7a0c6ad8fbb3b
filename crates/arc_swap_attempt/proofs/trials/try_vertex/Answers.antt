-- `arc_swap_attempt::trials::try_vertex` meets its contract: one law of `Tried` for each way out. Assumes nothing.
use mathlib.Core.Path.{ap, refl}
use Prim.Native.Nat.{ℕ, ◌+◌}
use native.Mathlib.Omega.{arith}
use lib.ListN.{get_or}
use Rattle.arc_swap_attempt.proofs.Tried.{target_below, load-small, weight-small, no-gain, heavy, goes}
use Rattle.arc_swap_attempt.proofs.trials.try_vertex.Goals as goal

pub returns-then-best-here : goal.returns-then-best-here
returns-then-best-here c = no-gain _ _ _ _ c.requires.ok c.requires.here _ _ _ refl c.sums_of-sums.ensures c.best_part-best.ensures _ _ _ c.requires c.if-best-here.true

pub offset_bounds-loads-t : goal.offset_bounds-loads-t
offset_bounds-loads-t c = omega (arith, target_below _ _ _ _ c.requires.ok c.requires.here _ _ _ refl c.sums_of-sums.ensures c.best_part-best.ensures c.if-best-here.false)

pub bounds-loads-t : goal.bounds-loads-t
bounds-loads-t c = omega (arith, target_below _ _ _ _ c.requires.ok c.requires.here _ _ _ refl c.sums_of-sums.ensures c.best_part-best.ensures c.if-best-here.false)

pub overflow_add-load : goal.overflow_add-load
overflow_add-load c =
    let load = load-small _ _ _ _ c.requires.ok c.requires.here _ _ _ refl c.sums_of-sums.ensures c.best_part-best.ensures _ _ _ c.requires c.if-best-here.false in
    let weight = weight-small _ _ _ _ c.requires.ok c.requires.here _ _ _ refl c.sums_of-sums.ensures c.best_part-best.ensures _ _ _ c.requires in
    omega (arith, c.from.ensures)

pub offset_bounds-frame-t : goal.offset_bounds-frame-t
offset_bounds-frame-t c = omega (arith, target_below _ _ _ _ c.requires.ok c.requires.here _ _ _ refl c.sums_of-sums.ensures c.best_part-best.ensures c.if-best-here.false)

pub bounds-frame-t : goal.bounds-frame-t
bounds-frame-t c = omega (arith, target_below _ _ _ _ c.requires.ok c.requires.here _ _ _ refl c.sums_of-sums.ensures c.best_part-best.ensures c.if-best-here.false)

pub returns-then-frame-t : goal.returns-then-frame-t
returns-then-frame-t c =
    heavy _ _ _ _ c.requires.ok c.requires.here _ _ _ refl c.sums_of-sums.ensures c.best_part-best.ensures _ _ _ c.requires c.if-best-here.false _
    (ap (λ (x : ℕ). get_or c.args.loads.at c.best_part-best.result.part 0 + x) c.from.ensures) c.if-frame-t.true

pub overflow_cast-result : goal.overflow_cast-result
overflow_cast-result c = omega (arith, target_below _ _ _ _ c.requires.ok c.requires.here _ _ _ refl c.sums_of-sums.ensures c.best_part-best.ensures c.if-best-here.false)

pub returns : goal.returns
returns c =
    goes _ _ _ _ c.requires.ok c.requires.here _ _ _ refl c.sums_of-sums.ensures c.best_part-best.ensures _ _ _ c.requires c.if-best-here.false _
    (ap (λ (x : ℕ). get_or c.args.loads.at c.best_part-best.result.part 0 + x) c.from.ensures) c.if-frame-t.false

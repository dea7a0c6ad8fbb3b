-- `fiduccia_mattheyses_choice::scan::choose` meets its contract: what is held at the end is the pick (`Scans`). Assumes nothing.
use Rattle.std.proofs.Common.{ℕ, ◌<◌, get_or, arith, rules}
use mir.Syntax.{w64}
use mir.ValLaws.{to_z-of_z}
use Rattle.fiduccia_mattheyses_choice.proofs.Scans.{seen, scan-past, scan-found, scan-none}
use Rattle.fiduccia_mattheyses_choice.specs.inner.Bounds.{past_weights}
use Rattle.fiduccia_mattheyses_choice.proofs.scan.choose.Goals as goal

pub overflow_sub-result : goal.overflow_sub-result
overflow_sub-result c =
    let x = c.args in
    let narrow : (v : ℕ) → get_or x.weights.now v 0 < past_weights = λ v. (c.type_inv.weights v).fits in
    let s = seen _ _ _ _ _ x.loads.at x.ceilings.at _ _ _ _ _ c.rooms_of.ensures c.lifts_of.ensures c.sample-found.ensures c.sweep-held.ensures (to_z-of_z w64 c.sample-found.result.gain (search rules)) (omega arith) in
    scan-past x.gains.now x.labels.now x.weights.now x.loads.at x.ceilings.at c.requires.0 narrow _ _ s.0 s.1 c.if-held-lt-FAR.true

pub returns-then-held-lt-FAR : goal.returns-then-held-lt-FAR
returns-then-held-lt-FAR c =
    let x = c.args in
    let narrow : (v : ℕ) → get_or x.weights.now v 0 < past_weights = λ v. (c.type_inv.weights v).fits in
    let s = seen _ _ _ _ _ x.loads.at x.ceilings.at _ _ _ _ _ c.rooms_of.ensures c.lifts_of.ensures c.sample-found.ensures c.sweep-held.ensures (to_z-of_z w64 c.sample-found.result.gain (search rules)) (omega arith) in
    let below = c.if-held-lt-FAR.true in
    let past = scan-past x.gains.now x.labels.now x.weights.now x.loads.at x.ceilings.at c.requires.0 narrow _ _ s.0 s.1 below in
    scan-found x.gains.now x.labels.now x.weights.now x.loads.at x.ceilings.at c.requires.0 narrow _ _ s.0 s.1 below _ _ (omega arith) (to_z-of_z w64 c.sweep-held.result.gain (search rules))

pub returns : goal.returns
returns c =
    let x = c.args in
    let narrow : (v : ℕ) → get_or x.weights.now v 0 < past_weights = λ v. (c.type_inv.weights v).fits in
    let s = seen _ _ _ _ _ x.loads.at x.ceilings.at _ _ _ _ _ c.rooms_of.ensures c.lifts_of.ensures c.sample-found.ensures c.sweep-held.ensures (to_z-of_z w64 c.sample-found.result.gain (search rules)) (omega arith) in
    scan-none x.gains.now x.labels.now x.weights.now x.loads.at x.ceilings.at c.requires.0 narrow _ _ s.0 s.1 c.if-held-lt-FAR.false

-- `imbalance::check_loads` meets its contract: each return rewrites with the tests that led there. Assumes nothing.
use Rattle.std.proofs.Common.{sym, ◌∙◌, le-ltb, lt-ltb, eq-eqb, ne_eqb}
use Rattle.imbalance.specs.Number.{loads_number}
use Rattle.imbalance.proofs.check_loads.Goals as goal

pub returns-then-weights-labels : goal.returns-then-weights-labels
unfolding loads_number
returns-then-weights-labels c = simp (ne_eqb _ _ c.if-weights-labels.true)

pub returns-then-labels-gt-MOST_VERTICES : goal.returns-then-labels-gt-MOST_VERTICES
unfolding loads_number
returns-then-labels-gt-MOST_VERTICES c = simp (eq-eqb _ _ c.if-weights-labels.false, lt-ltb _ _ c.if-labels-gt-MOST_VERTICES.true)

pub returns-then-over_limit : goal.returns-then-over_limit
unfolding loads_number
returns-then-over_limit c =
    simp (eq-eqb _ _ c.if-weights-labels.false, le-ltb _ _ c.if-labels-gt-MOST_VERTICES.false, sym c.over_limit.ensures ∙ c.if-over_limit.true)

pub returns-then-label_above : goal.returns-then-label_above
unfolding loads_number
returns-then-label_above c =
    simp (
      eq-eqb _ _ c.if-weights-labels.false,
      le-ltb _ _ c.if-labels-gt-MOST_VERTICES.false,
      sym c.over_limit.ensures ∙ c.if-over_limit.false,
      sym c.label_above.ensures ∙ c.if-label_above.true,
    )

pub returns : goal.returns
unfolding loads_number
returns c =
    simp (
      eq-eqb _ _ c.if-weights-labels.false,
      le-ltb _ _ c.if-labels-gt-MOST_VERTICES.false,
      sym c.over_limit.ensures ∙ c.if-over_limit.false,
      sym c.label_above.ensures ∙ c.if-label_above.false,
    )

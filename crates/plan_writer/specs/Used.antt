-- What of the writer's ceiling is used (document 01, "Ceiling" and "Plan blocks").
use Rattle.imbalance.specs.declared.Ceiling.{Ceiling}
use Rattle.plan_writer.specs.Write.{Given}

-- the same lists and parts with something else asked of the ceiling
abbrev pub with_ceiling : Given → Ceiling → Given
with_ceiling g asked =
    record {
      labels = g.labels;
      weights = g.weights;
      starts = g.starts;
      neighbours = g.neighbours;
      arc_weights = g.arc_weights;
      k = g.k;
      ceiling = asked;
    }

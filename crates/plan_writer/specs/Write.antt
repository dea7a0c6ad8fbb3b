-- What the writer answers and leaves in its target, for every input (document 01, "Plan blocks"; document 02, A2 and A4).
use Rattle.std.specs.Prelude.{◌≡◌, ℕ, ◌+◌, ◌-◌, ◌*◌, Bool, cond, not, ◌||◌, ltb, List, length, ◌==◌, nat_lt, slice_index}
use Rattle.lists.specs.All.{all}
use Rattle.lists.specs.Fill.{table, over}
use Rattle.imbalance.specs.Ceiling.{unfit_choice}
use Rattle.imbalance.specs.declared.Ceiling.{Ceiling}
use Rattle.topology.specs.Graph.{Graph, in_rows}
use Rattle.topology.specs.Rule.{starts_ok}
use Rattle.plan_writer.specs.declared.WriteAnswer.{WriteAnswer}
use Rattle.plan_blocks.specs.Block.{new_kind, blocks_of}
use Rattle.plan_blocks.specs.Plan.{Plan, out_of_range, value_of, each_of}
use Rattle.plan_blocks.specs.Encode.{encode}

-- what the writer is given
pub record Given : Type 0 where
  pub labels : List ℕ
  pub weights : List ℕ
  pub starts : List ℕ
  pub neighbours : List ℕ
  pub arc_weights : List ℕ
  pub k : ℕ
  pub ceiling : Ceiling

-- what is given, by labels, weights, rows, parts and ceiling
abbrev pub given_by : List ℕ → List ℕ → Graph → ℕ → Ceiling → Given
given_by labels weights graph k asked =
    record {
      labels = labels;
      weights = weights;
      starts = graph.starts;
      neighbours = graph.neighbours;
      arc_weights = graph.weights;
      k = k;
      ceiling = asked;
    }

-- n is the count of labels, a the count of neighbours
abbrev pub vertices : Given → ℕ
vertices g = length g.labels

abbrev pub arcs : Given → ℕ
arcs g = length g.neighbours

-- the plan of these lists, numbers and value, and of the numbers by part: a vertex's degree is the length of its row
unfoldable pub plan_with : List ℕ → List ℕ → List ℕ → List ℕ → List ℕ → ℕ → ℕ → ℕ → List ℕ → Plan
plan_with labels weights starts neighbours arc_weights k choice value each =
    record {
      n = length labels;
      a = length neighbours;
      k = k;
      choice = choice;
      value = value;
      each = each;
      weights = weights;
      labels = labels;
      degrees = table (length labels) (λ v. slice_index starts (v + 1) - slice_index starts v);
      neighbours = neighbours;
      arc_weights = arc_weights;
    }

-- the plan that is given
abbrev pub plan_from : Given → Plan
plan_from g =
    plan_with g.labels g.weights g.starts g.neighbours g.arc_weights g.k g.ceiling.choice (value_of g.ceiling) (each_of g.ceiling)

-- 12: "a header number out of range", "value fitting its choice"
unfoldable pub unfit : Given → Bool
unfit g = out_of_range (vertices g) (arcs g) g.k || unfit_choice g.ceiling

-- 1: "weights not n, starts not n+1, or neighbours and arc weights differ in count"
unfoldable pub miscounted : Given → Bool
miscounted g =
    not (length g.weights == vertices g)
    || (not (length g.starts == vertices g + 1)
    || not (length g.neighbours == length g.arc_weights))

-- 3, starts only: not "Starts begin at 0, never fall and end at a."
unfoldable pub bad_starts : Given → Bool
bad_starts g = not (starts_ok (vertices g) (in_rows g.starts g.neighbours g.arc_weights))

-- 14: "a label is not below k"; the degrees of starts that are in order sum to a
unfoldable pub bad_labels : ℕ → List ℕ → Bool
bad_labels k labels = not (all (length labels) (λ v. ltb (slice_index labels v) k))

-- how many bytes the plan's file has
unfoldable pub size_of : ℕ → ℕ → ℕ
size_of n a = 512 * blocks_of n a

-- "The writer refuses by 12, 1, 3 (starts only), 14, 15, in that order": of what is given, and the target's length
unfoldable pub write_number : Given → ℕ → ℕ
write_number g places =
    cond (unfit g) 12
    (cond (miscounted g) 1
    (cond (bad_starts g) 3
    (cond (bad_labels g.k g.labels) 14
    (cond (nat_lt places (size_of (vertices g) (arcs g))) 15 0))))

-- THE ANSWER: the number, and the length that was written, 0 on a refusal
unfoldable pub write_answer : Given → List ℕ → WriteAnswer
write_answer g target =
    record { number = write_number g (length target); length = cond (write_number g (length target) == 0) (size_of (vertices g) (arcs g)) 0 }

-- THE TARGET: the plan's file, of the new kind, and what stood past its end; a refusal writes nothing
unfoldable pub write_left : Given → List ℕ → List ℕ
write_left g target = cond (write_number g (length target) == 0) (over (encode new_kind (plan_from g)) target) target

-- THE PROMISE: of what is given, the target t at entry, an answer r and the target u at exit
pub record Written (g : Given) (t : List ℕ) (r : WriteAnswer) (u : List ℕ) : Type 0 where
  pub answered : r ≡ write_answer g t
  pub target : u ≡ write_left g t

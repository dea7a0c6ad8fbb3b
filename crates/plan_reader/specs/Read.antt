-- What the reader answers and leaves in its targets, for every file and every targets (document 01, "Plan blocks"; document 02, A2 and A4).
use Rattle.std.specs.Prelude.{◌≡◌, Bool, cond, ◌||◌, List, ℕ, ◌+◌, length, get_or, ltb, eqb}
use Rattle.std.specs.Float.{binary64}
use Rattle.std.specs.Float.Ieee.{of_bits}
use Rattle.lists.specs.Sum.{sum}
use Rattle.lists.specs.Fill.{table, over}
use Rattle.lists.specs.Number.{or_else}
use Rattle.imbalance.specs.Ceiling.{zero64}
use Rattle.imbalance.specs.declared.Ceiling.{Ceiling}
use Rattle.plan_reader.specs.declared.ReadAnswer.{ReadAnswer}
use Rattle.plan_blocks.specs.declared.header.Header.{Header}
use Rattle.plan_blocks.specs.Plan.{Plan, header_in}
use Rattle.plan_blocks.specs.Decode.{plan_of, file_number}

-- the five lent lists
pub record Targets : Type 0 where
  pub labels : List ℕ
  pub weights : List ℕ
  pub starts : List ℕ
  pub neighbours : List ℕ
  pub arc_weights : List ℕ

-- 15: "a lent target is too short", for n labels, n weights, n + 1 starts, a neighbours and a arc weights: of n and a, and the targets' lengths
unfoldable pub short : ℕ → ℕ → ℕ → ℕ → ℕ → ℕ → ℕ → Bool
short n a labels weights starts neighbours arc_weights =
    ltb labels n || (ltb weights n || (ltb starts (n + 1) || (ltb neighbours a || ltb arc_weights a)))

-- the first that applies, in `file_number`'s order and then 15, to a file and targets of these lengths; 0 if none does
unfoldable pub number_for : List ℕ → ℕ → ℕ → ℕ → ℕ → ℕ → ℕ
number_for s labels weights starts neighbours arc_weights =
    or_else (file_number s) (cond (short (plan_of s).n (plan_of s).a labels weights starts neighbours arc_weights) 15 0)

abbrev pub read_number : List ℕ → Targets → ℕ
read_number s t =
    number_for s (length t.labels) (length t.weights) (length t.starts) (length t.neighbours) (length t.arc_weights)

-- the starts of the rows: each is the sum of the degrees before it
unfoldable pub starts_of : ℕ → List ℕ → List ℕ
starts_of n degrees = table (n + 1) (λ v. sum v (λ u. get_or degrees u 0))

-- the ceiling of a header, as the reader hands it over: it "gives 0 for a ceiling value the choice does not use"
abbrev pub ceiling_in : Header → Ceiling
ceiling_in header =
    record {
      choice = header.choice;
      whole = cond (eqb header.choice 1) header.value 0;
      imbalance = cond (eqb header.choice 2) (of_bits binary64 header.value) zero64;
      each = header.each;
    }

-- the header, as the reader hands it over
abbrev pub header_answer : Header → ReadAnswer
header_answer header =
    record { number = 0; n = header.n; a = header.a; k = header.k; ceiling = ceiling_in header }

unfoldable pub header_of : Plan → ReadAnswer
header_of p = header_answer (header_in p)

-- no ceiling: zero in every field
abbrev pub no_ceiling : Ceiling
no_ceiling = record { choice = 0; whole = 0; imbalance = zero64; each = table 16 (λ t. 0) }

-- a refusal: the number, and zero in every other field
abbrev pub refusal_of : ℕ → ReadAnswer
refusal_of number = record { number = number; n = 0; a = 0; k = 0; ceiling = no_ceiling }

-- the plan's lists in the targets: "Targets keep what stood past the plan's end."
unfoldable pub handed : Plan → Targets → Targets
handed p t =
    record {
      labels = over p.labels t.labels;
      weights = over p.weights t.weights;
      starts = over (starts_of p.n p.degrees) t.starts;
      neighbours = over p.neighbours t.neighbours;
      arc_weights = over p.arc_weights t.arc_weights;
    }

-- THE ANSWER
unfoldable pub read_answer : List ℕ → Targets → ReadAnswer
read_answer s t = cond (eqb (read_number s t) 0) (header_of (plan_of s)) (refusal_of (read_number s t))

-- THE TARGETS: "A refusal writes nothing anywhere"
unfoldable pub read_left : List ℕ → Targets → Targets
read_left s t = cond (eqb (read_number s t) 0) (handed (plan_of s) t) t

-- THE PROMISE: of a file s, the targets t at entry, an answer r and the targets u at exit
pub record Read (s : List ℕ) (t : Targets) (r : ReadAnswer) (u : Targets) : Type 0 where
  pub answered : r ≡ read_answer s t
  pub labels : u.labels ≡ (read_left s t).labels
  pub weights : u.weights ≡ (read_left s t).weights
  pub starts : u.starts ≡ (read_left s t).starts
  pub neighbours : u.neighbours ≡ (read_left s t).neighbours
  pub arc_weights : u.arc_weights ≡ (read_left s t).arc_weights

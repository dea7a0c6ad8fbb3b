-- What a plan is, and the ranges of its header's numbers (document 01, "Plan blocks"; document 02, A4).
use Rattle.std.specs.Prelude.{◌≡◌, ℕ, ◌*◌, ◌<◌, Bool, true, false, cond, not, ◌||◌, List, length, ◌==◌, ◌≢◌, from_bits, nat_le, nat_lt, slice_index, to_bits}
use Rattle.std.specs.Float.{binary64}
use Rattle.lists.specs.Sum.{sum}
use Rattle.lists.specs.Fill.{table}
use Rattle.imbalance.specs.declared.Ceiling.{Ceiling}
use Rattle.imbalance.specs.Ceiling.{legal_e}
use Rattle.imbalance.specs.Limit.{most_vertices, most_arcs}
use Rattle.plan_blocks.specs.declared.header.Header.{Header}
use Rattle.plan_blocks.specs.Word.{wrap}

-- n vertices, a arcs, k parts; the ceiling's choice, its value, a number of 8 bytes ("0, a whole u32, or the bits of e"), and its number for each part;
-- weight, label and degree by vertex; neighbour and weight by arc, row by row
pub record Plan : Type 0 where
  pub n : ℕ
  pub a : ℕ
  pub k : ℕ
  pub choice : ℕ
  pub value : ℕ
  pub each : List ℕ
  pub weights : List ℕ
  pub labels : List ℕ
  pub degrees : List ℕ
  pub neighbours : List ℕ
  pub arc_weights : List ℕ

-- a plan's header
abbrev pub header_in : Plan → Header
header_in p = record { n = p.n; a = p.a; k = p.k; choice = p.choice; value = p.value; each = p.each }

-- what a file is: a plan, or refused with a number
pub data Decoded : Type 0 where
  accepted : Plan → Decoded
  refused : ℕ → Decoded

-- not "n 1 to 4,096, a to 65,535, k 2 to 16"
unfoldable pub out_of_range : ℕ → ℕ → ℕ → Bool
out_of_range n a k = n == 0 || (nat_lt most_vertices n || (nat_lt most_arcs a || (nat_lt k 2 || nat_lt 16 k)))

-- not "value fitting its choice": 0, a whole u32, the bits of a legal e, or with choice 3 "a zero value place"; "7 and 12 now begin at choice 4"
unfoldable pub unfit_value : ℕ → ℕ → Bool
unfit_value choice value =
    cond (choice == 0) (not (value == 0))
    (cond (choice == 1) (nat_le wrap value)
    (cond (choice == 2) (not (legal_e (from_bits binary64 value)))
    (cond (choice == 3) (not (value == 0)) true)))

-- What a plan's numbers are: in range, with as many weights, labels and degrees as vertices and as many neighbours and weights as arcs;
-- a u32 each, the labels below k, the degrees summing to a; sixteen numbers by part, which are 0 where the choice does not use them.
pub record Legal (p : Plan) : Type 0 where
  pub ranged : out_of_range p.n p.a p.k ≡ false
  pub fit : unfit_value p.choice p.value ≡ false
  pub eight : p.value < wrap * wrap
  pub sixteen : length p.each ≡ 16
  pub each_fits : (t : ℕ) → t < 16 → slice_index p.each t < wrap
  pub each_used : (p.choice ≢ 3) → (t : ℕ) → t < 16 → slice_index p.each t ≡ 0
  pub weighed : length p.weights ≡ p.n
  pub labelled : length p.labels ≡ p.n
  pub degreed : length p.degrees ≡ p.n
  pub joined : length p.neighbours ≡ p.a
  pub paired : length p.arc_weights ≡ p.a
  pub weights_fit : (v : ℕ) → v < p.n → slice_index p.weights v < wrap
  pub labels_fit : (v : ℕ) → v < p.n → slice_index p.labels v < p.k
  pub degrees_sum : sum p.n (λ v. slice_index p.degrees v) ≡ p.a
  pub neighbours_fit : (e : ℕ) → e < p.a → slice_index p.neighbours e < wrap
  pub arc_weights_fit : (e : ℕ) → e < p.a → slice_index p.arc_weights e < wrap

-- "0, a whole u32, or the bits of e"; what the choice does not use is no part of a plan
unfoldable pub value_of : Ceiling → ℕ
value_of asked = cond (asked.choice == 1) asked.whole (cond (asked.choice == 2) (to_bits binary64 asked.imbalance) 0)

-- the number of each part, with choice 3; no other choice uses them
unfoldable pub each_of : Ceiling → List ℕ
each_of asked = table 16 (λ t. cond (asked.choice == 3) (slice_index asked.each t) 0)

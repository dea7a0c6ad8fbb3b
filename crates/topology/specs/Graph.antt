-- The graph in rows, and the weight of a vertex's arcs (document 01, "The graph and its numbers").
use Rattle.std.specs.Prelude.{Bool, cond, List, ℕ, ◌+◌, ◌*◌, get_or, eqb, ℤ, pos, neg_ℤ}
use Rattle.std.proofs.Math.IntN.{sub_ℕ}
use Rattle.lists.specs.Sum.{between, weigh}
use Rattle.imbalance.specs.Load.{part}

-- Row u's arcs are those from starts[u] up to starts[u + 1]; arc e goes to neighbours[e] and weighs weights[e].
pub record Graph : Type 0 where
  pub starts : List ℕ
  pub neighbours : List ℕ
  pub weights : List ℕ

abbrev pub in_rows : List ℕ → List ℕ → List ℕ → Graph
in_rows starts neighbours weights = record { starts = starts; neighbours = neighbours; weights = weights }

abbrev pub first : Graph → ℕ → ℕ
first g u = get_or g.starts u 0

abbrev pub past : Graph → ℕ → ℕ
past g u = get_or g.starts (u + 1) 0

abbrev pub neighbour : Graph → ℕ → ℕ
neighbour g e = get_or g.neighbours e 0

abbrev pub weight : Graph → ℕ → ℕ
weight g e = get_or g.weights e 0

-- the weights of row u's arcs to vertices that pass the test, summed
unfoldable pub arcs : Graph → ℕ → (ℕ → Bool) → ℕ
arcs g u t = between (first g u) (past g u) (λ e. weigh (t (neighbour g e)) (weight g e))

-- arc weight from u into part t
unfoldable pub into : Graph → List ℕ → ℕ → ℕ → ℕ
into g p u t = arcs g u (λ v. eqb (part p v) t)

-- "Gain of a vertex to a target part: arc weight into the target less arc weight into its own part." `sub_ℕ a b` is the whole number a - b.
unfoldable pub gain : Graph → List ℕ → ℕ → ℕ → ℤ
gain g p u t = sub_ℕ (into g p u t) (into g p u (part p u))

-- what an arc of weight w changes of a vertex's gain when its other end leaves part `own`: twice the weight, negated where the vertex is in another part than `own`
abbrev pub change : Bool → ℕ → ℤ
change behind w = cond behind (pos (2 * w)) (neg_ℤ (pos (2 * w)))

-- the weight of the arcs from u to x
unfoldable pub joins : Graph → ℕ → ℕ → ℕ
joins g u x = arcs g u (λ v. eqb v x)

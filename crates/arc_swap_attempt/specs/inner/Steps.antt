-- What the functions of an attempt ask and answer: the stack as a list, the best part by sixteen sums, the pushes, the move.
use Rattle.std.specs.Prelude.{◌≡◌, Bool, true, not, cond, List, [], ◌∷◌, ◌++◌, ℕ, zero, suc, ◌+◌, ◌-◌, ◌≤◌, ◌<◌, length, get_or, set, leb, eqb}
use Rattle.std.proofs.Math.Option.{Option, none, some}
use Rattle.lists.specs.Best.{best}
use Rattle.lists.specs.Fill.{table}
use Rattle.lists.specs.Sum.{total}
use Rattle.imbalance.specs.Limit.{most_weight}
use Rattle.imbalance.specs.Load.{part, load}
use Rattle.topology.specs.Graph.{Graph, first, past, into}
use Rattle.topology.specs.Rule.{Rows, Symmetric}
use Rattle.topology.specs.Cut.{cut}
use Rattle.arc_swap_attempt.specs.Trial.{pushed}
use Rattle.arc_swap_attempt.specs.declared.Target.{Target}
use Rattle.arc_swap_attempt.specs.declared.Standing.{Standing}
use Rattle.arc_swap_attempt.specs.declared.Trial.{Trial}
use Rattle.arc_swap_attempt.specs.declared.Trial.TheVariants.{Goes}

-- what stands in the first n places of the lent stack, the top first
unfoldable pub stacked : List ℕ → ℕ → List ℕ
stacked stack zero = []
stacked stack (suc n) = get_or stack n 0 ∷ stacked stack n

-- the chosen part with its sum, or where there is none the own part with nothing
abbrev pub picked : ℕ → (ℕ → ℕ) → Option ℕ → Target
picked own sums none = record { part = own; sum = 0 }
picked own sums (some t) = record { part = t; sum = sums t }

-- of the parts below k other than the own, the one of the largest sum, the highest among equals
abbrev pub best_by : (ℕ → ℕ) → ℕ → ℕ → Option ℕ
best_by sums own k = best (λ t. not (eqb t own)) (λ t u. leb (sums u) (sums t)) k

-- What every function of an attempt asks: rows in order, and labels below k, which is at most 16.
pub record Named (g : Graph) (k : ℕ) (p : List ℕ) : Type 0 where
  pub rows : Rows (length p) g
  pub few : k ≤ 16
  pub named : (v : ℕ) → v < length p → part p v < k

-- What trying v asks besides: the weights, and the loads of the labels.
pub record Tryable (g : Graph) (k : ℕ) (weights ceilings loads p : List ℕ) (v : ℕ) : Type 0 where
  pub ok : Named g k p
  pub here : v < length p
  pub weighed : length weights ≡ length p
  pub light : total weights ≤ most_weight
  pub capped : length ceilings ≡ 16
  pub loaded : loads ≡ table 16 (load weights p)

-- What the pushes leave of a stack s₀ of which n places were held: "do not all fit, none is pushed".
pub record PushDone (new s₀ : List ℕ) (n : ℕ) (s : List ℕ) (fits : Bool) (top : ℕ) : Type 0 where
  pub fits_is : fits ≡ leb (length new + n) (length s₀)
  pub stacked_is : stacked s top ≡ cond fits (new ++ stacked s₀ n) (stacked s₀ n)
  pub within : top ≤ length s₀

-- v's neighbours that are pushed once v has moved
abbrev pub pushed_by : Graph → ℕ → List ℕ → ℕ → List ℕ
pushed_by g k p v = pushed g k (λ u. true) p v (past g v - first g v)

-- Where the code stands: the cut and the loads of the labels.
pub record Stood (g : Graph) (weights p : List ℕ) (cut₀ : ℕ) (loads : List ℕ) : Type 0 where
  pub cut_is : cut₀ ≡ cut g p
  pub loaded : loads ≡ table 16 (load weights p)

-- t is another of the k parts, and x the gain of v's move there.
pub record Aimed (g : Graph) (k : ℕ) (p : List ℕ) (v t x : ℕ) : Type 0 where
  pub target : t < k
  pub apart : part p v ≡ t → ⊥
  pub gain_is : into g p v t ≡ x + into g p v (part p v)

-- What v's move by its trial asks: all in order, the places held within the stack s₀, and where the trial goes, another part and the gain of that move.
pub record MoveAsked (g : Graph) (k : ℕ) (weights p s₀ : List ℕ) (c : Standing) (v : ℕ) (tr : Trial) : Type 0 where
  pub ok : Named g k p
  pub symmetric : Symmetric (length p) g
  pub weighed : length weights ≡ length p
  pub light : total weights ≤ most_weight
  pub stood : Stood g weights p c.cut c.loads.at
  pub places : c.top ≤ length s₀
  pub here : v < length p
  pub aimed : (t x : ℕ) → tr ≡ Goes t x → Aimed g k p v t x

-- What a move of v to part t leaves, n places of s₀ held before it: the label, the cut and the loads after it, and the pushes.
pub record Moved (g : Graph) (k : ℕ) (weights p s₀ : List ℕ) (n v t : ℕ) (p' s : List ℕ) (c : Standing) : Type 0 where
  pub labelled : p' ≡ set p v t
  pub stood : Stood g weights p' c.cut c.loads.at
  pub pushes : PushDone (pushed_by g k p' v) s₀ n s c.fits c.top

-- What v's move by its trial leaves: where the trial goes, that move, and else all as it was.
pub record MoveDone (g : Graph) (k : ℕ) (weights p s₀ : List ℕ) (c : Standing) (v : ℕ) (tr : Trial) (p' s : List ℕ) (r : Standing) : Type 0 where
  pub stays : ((t x : ℕ) → tr ≡ Goes t x → ⊥) → (p' ≡ p) × (s ≡ s₀) × (r ≡ c)
  pub goes : (t x : ℕ) → tr ≡ Goes t x → Moved g k weights p s₀ c.top v t p' s r

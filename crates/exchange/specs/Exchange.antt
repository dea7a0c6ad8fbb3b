-- Two vertices moved by hand, and what that does to the cut (document 02, A9 "Moves as sums").
use Rattle.std.specs.Prelude.{◌≡◌, ◌⊎◌, cond, List, ℕ, ◌*◌, set, eqb, ℤ, pos, ◌+ℤ◌, ◌-ℤ◌}
use Rattle.imbalance.specs.Load.{part, load}
use Rattle.topology.specs.Graph.{Graph, gain, joins}
use Rattle.topology.specs.Cut.{cut}

-- u goes to part s, then v to part t
abbrev pub two_moves : List ℕ → ℕ → ℕ → ℕ → ℕ → List ℕ
two_moves p u s v t = set (set p u s) v t

-- t is one of the two parts a and b
abbrev pub OneOf : ℕ → ℕ → ℕ → Type 0
OneOf a b t = (t ≡ a) ⊎ (t ≡ b)

-- of the two parts a and b the one that is not t
abbrev pub across : ℕ → ℕ → ℕ → ℕ
across a b t = cond (eqb t a) b a

-- "For two parts, moving both": of the parts a and b, u and v each go to the other
unfoldable pub both : ℕ → ℕ → List ℕ → ℕ → ℕ → List ℕ
both a b p u v = two_moves p u (across a b (part p u)) v (across a b (part p v))

-- u and v take each other's part
abbrev pub exchange : List ℕ → ℕ → ℕ → List ℕ
exchange p u v = two_moves p u (part p v) v (part p u)

-- "the same labels, loads and cut": the labels p and q, the load of every part, and the cut
pub record Alike (g : Graph) (weights p q : List ℕ) : Type 0 where
  pub labels : p ≡ q
  pub loads : (t : ℕ) → load weights p t ≡ load weights q t
  pub cuts : cut g p ≡ cut g q

-- "the sum of their gains": u goes to part s and v to part t, each gain as it is before either moves
abbrev pub gain_sum : Graph → List ℕ → ℕ → ℕ → ℕ → ℕ → ℤ
gain_sum g p u s v t = gain g p u s +ℤ gain g p v t

-- "lowers the cut by the sum of their gains, less twice their shared arc weight if they began in different parts, plus twice it if in the same part"
unfoldable pub both_fall : Graph → ℕ → ℕ → List ℕ → ℕ → ℕ → ℤ
both_fall g a b p u v =
    let sum = gain_sum g p u (across a b (part p u)) v (across a b (part p v)) in
    cond (eqb (part p u) (part p v)) (sum +ℤ pos (2 * joins g u v)) (sum -ℤ pos (2 * joins g u v))

-- the same of an exchange: two vertices of different parts take each other's
unfoldable pub exchange_fall : Graph → List ℕ → ℕ → ℕ → ℤ
exchange_fall g p u v = gain_sum g p u (part p v) v (part p u) -ℤ pos (2 * joins g u v)

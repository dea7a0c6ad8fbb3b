-- Two vertices that take each other's part: the fall of the cut (document 02, A9), and who has which label then. Assumes nothing.
use mathlib.Core.Path.{◌≡◌, refl, ap, ◌∙◌}
use mathlib.Core.Bool.{Bool, true, false}
use mathlib.Core.List.{List}
use Prim.Native.Nat.{ℕ, ◌<◌}
use lib.Dec.{eqb}
use lib.ListN.{length, set, length-set}
use lib.Seq.{get_or-set_same, get_or-set_other, ext_get_or, set_comm}
use borrow.Author.Tests.{eqb-true, eqb-false}
use Rattle.imbalance.specs.Load.{part}
use Rattle.topology.specs.Graph.{Graph}
use Rattle.topology.specs.Rule.{Symmetric}
use Rattle.topology.specs.Cut.{fall}
use Rattle.exchange.specs.Exchange.{exchange, exchange_fall}
use Rattle.exchange.proofs.TwoMoves.{apart-fall}

-- an exchange of two vertices of different parts, any two of the sixteen, lowers the cut by the sum of their gains, less twice their shared arc weight
pub exchange-fall :
    (g : Graph) (p : List ℕ) (u v : ℕ)
    → Symmetric (length p) g
    → u < length p
    → v < length p
    → (part p u ≡ part p v → ⊥)
    → fall g p (exchange p u v) ≡ exchange_fall g p u v
unfolding exchange_fall
exchange-fall g p u v ok lu lv d = apart-fall g p u v ok lu lv (λ e. d (ap (part p) e)) d

-- an exchange of u and v is one of v and u
pub exchange-order : (p : List ℕ) (u v : ℕ) → (u ≡ v → ⊥) → exchange p u v ≡ exchange p v u
exchange-order p u v ne = set_comm p u v (part p v) (part p u) ne

pub length-exchange : (p : List ℕ) (u v : ℕ) → length (exchange p u v) ≡ length p
length-exchange p u v = length-set (set p u (part p v)) v (part p u) ∙ length-set p u (part p v)

-- who has which label after an exchange, be it of a vertex with itself
module _ (p : List ℕ) (u v : ℕ) (lu : u < length p) (lv : v < length p) where
  at_second : part (exchange p u v) v ≡ part p u
  at_second = get_or-set_same (set p u (part p v)) v (part p u) 0 (rw (length-set p u (part p v)) lv)

  at_first : part (exchange p u v) u ≡ part p v
  at_first = go (eqb u v) refl
    where
      go : (b : Bool) → eqb u v ≡ b → part (exchange p u v) u ≡ part p v
      go true e = let q = eqb-true u v e in ap (part (exchange p u v)) q ∙ at_second ∙ ap (part p) q
      go false e = get_or-set_other (set p u (part p v)) v u (part p u) 0 (eqb-false u v e) ∙ get_or-set_same p u (part p v) 0 lu

  at_other : (x : ℕ) → (x ≡ u → ⊥) → (x ≡ v → ⊥) → part (exchange p u v) x ≡ part p x
  at_other x nu nv = get_or-set_other (set p u (part p v)) v x (part p u) 0 nv ∙ get_or-set_other p u x (part p v) 0 nu

-- an exchange made twice changes nothing
pub exchange-twice : (p : List ℕ) (u v : ℕ) → u < length p → v < length p → exchange (exchange p u v) u v ≡ p
exchange-twice p u v lu lv =
    ext_get_or 0 (exchange q u v) p (length-exchange q u v ∙ length-exchange p u v) (λ i l. go i (eqb i u) refl (eqb i v) refl)
  where
    q : List ℕ
    q = exchange p u v

    lu' : u < length q
    lu' = rw (length-exchange p u v) lu

    lv' : v < length q
    lv' = rw (length-exchange p u v) lv

    go : (i : ℕ) (a : Bool) → eqb i u ≡ a → (b : Bool) → eqb i v ≡ b → part (exchange q u v) i ≡ part p i
    go i true e b f = rw (eqb-true i u e) (at_first q u v lu' lv' ∙ at_second p u v lu lv)
    go i false e true f = rw (eqb-true i v f) (at_second q u v lu' lv' ∙ at_first p u v lu lv)
    go i false e false f =
        at_other q u v lu' lv' i (eqb-false i u e) (eqb-false i v f)
        ∙ at_other p u v lu lv i (eqb-false i u e) (eqb-false i v f)

-- Two moves of FM's labels, 0 and 1, as sums (document 02, A9). Assumes nothing.
use mathlib.Core.Path.{◌≡◌, sym}
use mathlib.Core.List.{List}
use Prim.Native.Nat.{ℕ, ◌<◌}
use lib.ListN.{length}
use lib.Seq.{get_or-set_other}
use Rattle.imbalance.specs.Load.{part}
use Rattle.topology.specs.Graph.{Graph}
use Rattle.topology.specs.Rule.{Symmetric}
use Rattle.topology.specs.Cut.{fall}
use Rattle.exchange.specs.Exchange.{both_fall}
use Rattle.exchange.proofs.TwoMoves.{two-parts-fall}
use Rattle.fiduccia_mattheyses_choice.specs.Choice.{other, flip}

-- "moving both lowers the cut by the sum of their gains", less or plus twice their shared arc weight: u and v each go to the other part
pub flips-fall :
    (g : Graph) (p : List ℕ) (u v : ℕ)
    → Symmetric (length p) g
    → u < length p
    → v < length p
    → (u ≡ v → ⊥)
    → part p u < 2
    → part p v < 2
    → fall g p (flip (flip p u) v) ≡ both_fall g 0 1 p u v
unfolding flip
flips-fall g p u v ok lu lv ne bu bv =
    rw (get_or-set_other p u v (other (part p u)) 0 (λ e. ne (sym e)))
    (two-parts-fall g p u v ok lu lv ne bu bv)

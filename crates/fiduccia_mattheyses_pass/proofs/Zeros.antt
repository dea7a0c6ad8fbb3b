-- What a gain of 0 means in FM (document 01, "i64 gains added, negated and doubled in FM and KL updates, with their meaning at zero"). Assumes nothing.
use mathlib.Core.Path.{◌≡◌, refl}
use mathlib.Core.Bool.{true}
use mathlib.Core.List.{List}
use Prim.Native.Nat.{ℕ, ◌+◌, ◌<◌}
use lib.ListN.{length}
use lib.IntN.{pos}
use Rattle.imbalance.specs.Load.{part}
use Rattle.topology.specs.Rule.{Symmetric}
use Rattle.topology.specs.Cut.{cut}
use Rattle.topology.proofs.Gains as Gains
use Rattle.fiduccia_mattheyses_choice.specs.Choice.{Terms, other, flip, worth, is_bad}
use Rattle.fiduccia_mattheyses_pass.specs.Pass.{State, move_on}

module _ (s : Terms) where
  -- "If its gain is 0 or less": a move of gain 0 is bad
  pub zero-is-bad : (p : List ℕ) (v : ℕ) → worth s p v ≡ pos 0 → is_bad s p v ≡ true
  zero-is-bad p v z = rw z refl

  -- and "adds one to the counter"
  pub zero-adds-one : (st : State) (v : ℕ) → worth s st.labels v ≡ pos 0 → (move_on s st v).bad ≡ st.bad + 1
  unfolding move_on
  zero-adds-one st v z = rw (zero-is-bad st.labels v z) refl

  -- "It is the exact fall of the cut": a move of gain 0 moves nothing of it
  pub zero-moves-nothing : (p : List ℕ) (v : ℕ) → Symmetric (length p) s.graph → v < length p → worth s p v ≡ pos 0 → cut s.graph (flip p v) ≡ cut s.graph p
  unfolding worth flip
  zero-moves-nothing p v ok l z = Gains.zero-moves-nothing s.graph p v (other (part p v)) ok l z

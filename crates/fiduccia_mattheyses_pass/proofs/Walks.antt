-- The walk of a pass, by its next state. Assumes nothing.
use mathlib.Core.Path.{◌≡◌, refl}
use mathlib.Core.Option.{none, some}
use Prim.Native.Nat.{ℕ, zero, suc}
use Rattle.fiduccia_mattheyses_choice.specs.Choice.{Terms}
use Rattle.fiduccia_mattheyses_pass.specs.Pass.{State, next, walk}

-- the walk ends where there is no next state
pub walk-stop : (s : Terms) (k : ℕ) (st : State) → next s st ≡ none → walk s k st ≡ st
unfolding walk
walk-stop s zero st e = refl
walk-stop s (suc k) st e = rw (e, walk)

-- and goes on from the next one
pub walk_step : (s : Terms) (k : ℕ) (st t : State) → next s st ≡ some t → walk s (suc k) st ≡ walk s k t
unfolding walk
walk_step s k st t e = rw (e, walk)

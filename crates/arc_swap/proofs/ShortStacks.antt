-- Runs on the eight-block grid whose stack is too short, computed from the definitions (document 01, "Arc-swap"). Assumes nothing.
use mathlib.Core.Path.{◌≡◌, refl}
use mathlib.Core.Bool.{true, false}
use mathlib.Core.List.{List, [], ◌∷◌}
use Prim.Native.Nat.{ℕ}
use lib.ListN.{replicate}
use lib.IntN.{pos, negsuc}
use lib.Ieee.{fin, add, div, of_int, mul}
use Rattle.lists.specs.Sum.{sum, between, total}
use Rattle.lists.specs.All.{any, any_from}
use Rattle.lists.specs.Best.{best}
use Rattle.lists.specs.Fill.{table}
use Rattle.imbalance.specs.Load.{load}
use Rattle.imbalance.specs.Ceiling.{ceilings, ceiling, ceiling_of, limit_of, largest}
use Rattle.topology.specs.Graph.{arcs, into, gain}
use Rattle.topology.specs.Cut.{cut}
use Rattle.topology.specs.EightBlockGrid.{grid, ones, A}
use Rattle.arc_swap_attempt.specs.Trial.{aim, has_gain, pushed, trial}
use Rattle.arc_swap.specs.Run.{after, attempt, drain, on_cut, first_push, turn, sweep, run}
use Rattle.arc_swap.specs.Entry.{Given, Lent, parts_of, no_counts, run_of}

-- arc-swap on the grid, the ceiling by e = 0.25
abbrev plan : Given
plan =
    record {
      starts = grid.starts;
      neighbours = grid.neighbours;
      arcs = grid.weights;
      weights = ones;
      settings = record { ceiling = record { choice = 2; whole = 0; imbalance = fin false 1 (negsuc 1); each = replicate 16 0 } };
    }

-- A, and a stack
abbrev lent : List ℕ → Lent
lent stack = record { labels = A; stack = stack; run = no_counts }

-- A stack of length 0 and a vertex on the cut: end 2, passes 1, counts 0.
pub no_place :
    run_of plan (lent [])
    ≡ record {
      end = 2;
      passes = 1;
      state = record { labels = A; stack = []; counts = no_counts; gains = []; full = true };
    }
unfolding run sweep turn first_push on_cut drain attempt after trial pushed has_gain aim best cut gain load into arcs between sum any_from any table total parts_of ceilings ceiling largest ceiling_of limit_of add div of_int mul
no_place = refl

-- A stack of length 1: the second move's pushes do not fit, it stands and is counted, and so is the pass begun.
pub one_place :
    run_of plan (lent (0 ∷ []))
    ≡ record {
      end = 2;
      passes = 1;
      state = record { labels = 0 ∷ 1 ∷ 1 ∷ 1 ∷ 0 ∷ 0 ∷ 0 ∷ 1 ∷ []; stack = []; counts = record { attempts = 2; moves = 2; no_gain = 0; bad_balance = 0 }; gains = pos 1 ∷ pos 1 ∷ []; full = true };
    }
unfolding run sweep turn first_push on_cut drain attempt after trial pushed has_gain aim best cut gain load into arcs between sum any_from any table total parts_of ceilings ceiling largest ceiling_of limit_of add div of_int mul
one_place = refl

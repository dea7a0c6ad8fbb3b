-- What the scan over the list of gains asks and answers: the next vertex to move, with its gain.
use Rattle.std.specs.Prelude.{◌≡◌, Bool, cond, ◌&&◌, ◌||◌, List, ℕ, ◌+◌, ◌-◌, ◌≤◌, ◌<◌, length, get_or, ltb, leb, ℤ, pos, negsuc, Option, Some, None}
use Rattle.std.proofs.Math.Option as Best
use Rattle.std.proofs.Math.Option.{none, some}
use Rattle.std.specs.Int.Signed.{lt_z, le_z}
use Rattle.lists.specs.Best.{best}
use Rattle.imbalance.specs.Load.{part}
use Rattle.imbalance.specs.Limit.{most_weight}
use Rattle.fiduccia_mattheyses_choice.specs.Choice.{other}
use Rattle.fiduccia_mattheyses_choice.specs.inner.Bounds.{lock_size}
use Rattle.fiduccia_mattheyses_choice.specs.declared.Pick.{Pick}

-- What the scan asks: as many gains and weights as labels, labels 0 or 1, loads within the limit.
pub record Scannable (gains : List ℤ) (labels weights loads : List ℕ) : Type 0 where
  pub gained : length gains ≡ length labels
  pub weighed : length weights ≡ length labels
  pub two_labels : (v : ℕ) → part labels v < 2
  pub sixteen : length loads ≡ 16
  pub light : (t : ℕ) → t < 2 → get_or loads t 0 ≤ most_weight

-- the list's mark of a locked vertex, a value that no gain can have: `lock_size` with a minus
abbrev pub lock : ℤ
lock = negsuc (lock_size - 1)

abbrev pub is_free : ℤ → Bool
is_free g = lt_z lock g

-- the gain of a free vertex: "a locked neighbour has no gain"
abbrev pub free_gain : ℤ → Option ℤ
free_gain g = cond (is_free g) (Some g) None

-- the larger gain; of equal gains the smaller load
abbrev pub beats : ℤ → ℕ → ℤ → ℕ → Bool
beats g l h m = lt_z h g || (le_z h g && ltb l m)

-- the answer where v is chosen, with its gain
abbrev pub picked : (ℕ → ℤ) → Best.Option ℕ → Option Pick
picked gain none = None
picked gain (some v) = Some (record { vertex = v; gain = gain v })

-- the target load of v's move, and its ceiling
abbrev pub load_after : List ℕ → List ℕ → List ℕ → ℕ → ℕ
load_after loads weights p v = get_or loads (other (part p v)) 0 + get_or weights v 0

abbrev pub ceiling_at : List ℕ → List ℕ → ℕ → ℕ
ceiling_at ceilings p v = get_or ceilings (other (part p v)) 0

module _ (gains : List ℤ) (load ceiling : ℕ → ℕ) where
  abbrev pub may : ℕ → Bool
  may v = is_free (get_or gains v (pos 0)) && leb (load v) (ceiling v)

  abbrev pub goes_before : ℕ → ℕ → Bool
  goes_before u v = beats (get_or gains u (pos 0)) (load u) (get_or gains v (pos 0)) (load v)

  -- the pick among the vertices below n
  abbrev pub pick_below : ℕ → Option Pick
  pick_below n = picked (λ v. get_or gains v (pos 0)) (best may goes_before n)

-- The gains brought up to date after a move, arc by arc of the moved vertex's row (document 01, "a locked neighbour has no gain and is passed over when the others are brought up to date").
use Rattle.std.specs.Prelude.{Bool, cond, List, ℕ, zero, suc, ◌+◌, ◌*◌, get_or, set, eqb, ℤ, pos, ◌+ℤ◌, ◌-ℤ◌}
use Rattle.fiduccia_mattheyses_choice.specs.inner.Scan.{is_free}

-- a neighbour left behind in the old part gains twice the arc's weight, one in the new part loses it
unfoldable pub shift : Bool → ℤ → ℕ → ℤ
shift behind g w = cond behind (g +ℤ pos (2 * w)) (g -ℤ pos (2 * w))

module _ (neighbours weights labels : List ℕ) (old : ℕ) where
  -- arc e's neighbour, unless it is locked
  abbrev pub update_at : ℕ → List ℤ → List ℤ
  update_at e gs =
      cond (is_free (get_or gs (get_or neighbours e 0) (pos 0)))
      (set gs (get_or neighbours e 0) (shift (eqb (get_or labels (get_or neighbours e 0) 0) old) (get_or gs (get_or neighbours e 0) (pos 0)) (get_or weights e 0)))
      gs

  -- the k arcs from a on
  unfoldable pub updated : ℕ → ℕ → List ℤ → List ℤ
  updated a zero gs = gs
  updated a (suc k) gs = update_at (a + k) (updated a k gs)

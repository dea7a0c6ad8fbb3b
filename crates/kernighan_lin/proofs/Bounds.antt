-- No gain of a pass reaches 2^44, so an i64 holds each exactly, and so does the Rust's f64. Assumes nothing.
use mathlib.Core.Path.{◌≡◌, refl}
use mathlib.Core.List.{List}
use mathlib.Core.Option.{Option, none, some}
use Prim.Native.Nat.{ℕ, zero, suc, ◌+◌, ◌*◌, ◌-◌, ◌<◌}
use native.Mathlib.Omega.{arith}
use lib.ListN.{length, get_or}
use lib.IntN.{ℤ, pos, nat_abs}
use lib.Signed.{mag, nat_abs-le}
use Rattle.kernighan_lin_pass.specs.Gain.{added, updated}
use Rattle.kernighan_lin_pass.specs.Pass.{Terms, Swap, State, start, pair, after, walk}
use Rattle.kernighan_lin_pass.specs.inner.Steps.{Fit, Within, fresh_bound, swap_bound, most_swaps, most_gain}
use Rattle.kernighan_lin_pass.proofs.Within.{table-within, added-within, updated-within}
use Rattle.kernighan_lin_pass.proofs.Swaps.{length-swapped}
use Rattle.kernighan_lin_pass.proofs.Walks.{walk_none, walk-stop, walk_step, pair-below}

module _ (s : Terms) where
  -- each swap changes a gain by at most `swap_bound`
  grows : (k m : ℕ) (st : State) → Fit (length st.labels) s.graph → Within m st.gains → Fit (length (walk s k st).labels) s.graph × Within (m + swap_bound * k) (walk s k st).gains
  unfolding after
  grows zero m st fit h = rw (walk_none s 0 st refl) (fit, λ u. omega (arith, h u))
  grows (suc k) m st fit h = go (pair s st.labels st.gains st.locks) refl (grows k (m + swap_bound))
    where
      go : (o : Option Swap) → pair s st.labels st.gains st.locks ≡ o
          → ((u : State) → Fit (length u.labels) s.graph → Within (m + swap_bound) u.gains → Fit (length (walk s k u).labels) s.graph × Within (m + swap_bound + swap_bound * k) (walk s k u).gains)
          → Fit (length (walk s (suc k) st).labels) s.graph × Within (m + swap_bound * suc k) (walk s (suc k) st).gains
      go none e ih = rw (walk-stop s (suc k) st e) (fit, λ u. omega (arith, h u))
      go (some t) e ih =
          let one = (pair-below s st.labels st.gains st.locks t e).0 in
          let h' = updated-within s.graph st.labels fit (m + fresh_bound) (added s.graph st.labels st.gains) (added-within s.graph st.labels fit m st.gains h) t.one one in
          let r = ih (after s st t) (rw (length-swapped st.labels t) fit) (λ u. omega (arith, h' u)) in
          rw (walk_step s k st t e) (r.0, λ u. omega (arith, r.1 u))

  module _ (p : List ℕ) (fit : Fit (length p) s.graph) (k : ℕ) (few : k < most_swaps) where
    abbrev here : State
    here = walk s k (start s p)

    abbrev fresh-gains : List ℤ
    fresh-gains = added s.graph here.labels here.gains

    reached : Fit (length here.labels) s.graph × Within (0 + swap_bound * k) here.gains
    unfolding start
    reached = grows k 0 (start s p) fit (table-within (length p) 0 (λ u. pos 0) (λ u l. omega arith))

    small : (z : ℤ) → mag z < most_gain - 1 → nat_abs z < most_gain
    small z h = let q = nat_abs-le z h in omega arith

    -- at a swap, after fresh gains are added
    pub added-small : (u : ℕ) → nat_abs (get_or fresh-gains u (pos 0)) < most_gain
    added-small u =
        let h = added-within s.graph here.labels reached.0 (0 + swap_bound * k) here.gains reached.1 in
        small (get_or fresh-gains u (pos 0)) (omega (arith, h u))

    -- and after the neighbours are told
    pub updated-small : (v : ℕ) → v < length here.labels → (u : ℕ) → nat_abs (get_or (updated s.graph here.labels v fresh-gains) u (pos 0)) < most_gain
    updated-small v l u =
        let h = added-within s.graph here.labels reached.0 (0 + swap_bound * k) here.gains reached.1 in
        let t = updated-within s.graph here.labels reached.0 (0 + swap_bound * k + fresh_bound) fresh-gains h v l in
        small (get_or (updated s.graph here.labels v fresh-gains) u (pos 0)) (omega (arith, t u))

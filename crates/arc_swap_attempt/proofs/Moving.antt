-- A move: what it asks of the loads, and that label, loads, cut and stack after it are those of the labels after it. Assumes nothing.
use mathlib.Core.Path.{◌≡◌, refl, sym, ap, ◌∙◌}
use mathlib.Core.Bool.{Bool, true, false}
use mathlib.Core.List.{List}
use Prim.Native.Nat.{ℕ, ◌+◌, ◌-◌, ◌≤◌, ◌<◌}
use native.Mathlib.Omega.{arith}
use lib.ListN.{length, get_or, set, length-set}
use lib.Seq.{get_or-set_same, get_or-set_other}
use lib.Dec.{eqb}
use borrow.Author.Tests.{eqb-true, eqb-false}
use Rattle.std.specs.Prelude.{Option as Found, Some, None, MatchOption, is_some, unwrap_or}
use Rattle.lists.proofs.Tables.{length-table, table_at}
use Rattle.imbalance.specs.Limit.{most_weight}
use Rattle.imbalance.specs.Load.{part, load}
use Rattle.imbalance.specs.inner.Moved.{loads_moved}
use Rattle.imbalance.proofs.PartLoads.{load-within}
use Rattle.topology.specs.Graph.{Graph}
use Rattle.topology.specs.Cut.{cut}
use Rattle.topology.proofs.Moves.{cut-move, load-holds, loads-move}
use Rattle.arc_swap_attempt.specs.inner.Steps.{Named, Aimed, MoveAsked, MoveDone, PushDone, pushed_by}
use Rattle.arc_swap_attempt.specs.declared.Standing.{Standing}
use Rattle.arc_swap_attempt.specs.declared.Trial.{Trial}
use Rattle.arc_swap_attempt.specs.declared.Trial.TheVariants.{NoGain, BadBalance, Goes}

-- the labels stay below k
pub named-move : (g : Graph) (k : ℕ) (p : List ℕ) (v t : ℕ) → Named g k p → v < length p → t < k → Named g k (set p v t)
named-move g k p v t ok here l = record {
  rows = rw (length-set p v t) ok.rows;
  few = ok.few;
  named = λ x m. named x (rw (length-set p v t) at m) (eqb x v) refl;
}
  where
    named : (x : ℕ) → x < length p → (b : Bool) → eqb x v ≡ b → part (set p v t) x < k
    named x m true e = rw (eqb-true x v e, get_or-set_same p v t 0 here) l
    named x m false e = rw (get_or-set_other p v x t 0 (eqb-false x v e)) (ok.named x m)

-- where the trial does not go, all stays
pub still :
    (g : Graph) (k : ℕ) (ws p s₀ : List ℕ) (c : Standing) (v : ℕ) (tr : Trial)
    → ((t x : ℕ) → tr ≡ Goes t x → ⊥) → MoveDone g k ws p s₀ c v tr p s₀ c
still g k ws p s₀ c v tr stays = record { stays = λ h. (refl, refl, refl); goes = λ t x e. absurd (stays t x e) }

-- the pushes as the code answers them: the places held where all fit, and none where one does not
pub pushed-so :
    {new s₀ s : List ℕ} {n : ℕ} (o : Found ℕ)
    → MatchOption o (PushDone new s₀ n s false n) (λ top. PushDone new s₀ n s true top)
    → PushDone new s₀ n s (is_some o) (unwrap_or o n)
pushed-so None h = h
pushed-so (Some top) h = h

-- where it goes to t with the gain x
module _ (g : Graph) (k : ℕ) (ws p s₀ : List ℕ) (c : Standing) (v : ℕ) (tr : Trial) (ask : MoveAsked g k ws p s₀ c v tr) (t x : ℕ) (goes : tr ≡ Goes t x) where
  aimed : Aimed g k p v t x
  aimed = ask.aimed t x goes

  own_below : part p v < 16
  own_below = omega (arith, ask.ok.named v ask.here, ask.ok.few)

  to_below : t < 16
  to_below = omega (arith, aimed.target, ask.ok.few)

  at_own : get_or c.loads.at (part p v) 0 ≡ load ws p (part p v)
  at_own = rw ask.stood.loaded (table_at 16 (part p v) 0 (load ws p) own_below)

  at-to : get_or c.loads.at t 0 ≡ load ws p t
  at-to = rw ask.stood.loaded (table_at 16 t 0 (load ws p) to_below)

  -- what the loads' two places ask
  pub loads-asked : (part p v < 16) × (t < 16) × (length c.loads.at ≡ 16) × (get_or ws v 0 ≤ get_or c.loads.at (part p v) 0) × (get_or c.loads.at t 0 ≤ most_weight)
  loads-asked =
      let m = load-holds ws p v ask.here in
      let a = at_own in
      (own_below, to_below, ap length ask.stood.loaded ∙ length-table 16 (load ws p), omega arith, omega (arith, at-to, load-within ws p ask.weighed t, ask.light))

  cut-falls : cut g (set p v t) + x ≡ c.cut
  cut-falls =
      let a = cut-move g p v t ask.symmetric ask.here in
      let b = aimed.gain_is in
      let d = ask.stood.cut_is in
      omega arith

  -- the gain is no more than the cut
  pub gain-within : x ≤ c.cut
  gain-within = let a = cut-falls in omega arith

  pub moved :
      (loads' s : List ℕ) (fits : Bool) (top : ℕ)
      → loads' ≡ loads_moved c.loads.at (part p v) t (get_or ws v 0)
      → PushDone (pushed_by g k (set p v t) v) s₀ c.top s fits top
      → MoveDone g k ws p s₀ c v tr (set p v t) s (record { fits = fits; top = top; cut = c.cut - x; loads = record { at = loads' } })
  moved loads' s fits top e d = record {
    stays = λ h. absurd (h t x goes);
    goes = λ u y q. rw (← same u y (sym goes ∙ q)) (record {
      labelled = refl;
      stood = record {
        cut_is = let a = cut-falls in omega arith;
        loaded = e ∙ rw ask.stood.loaded (loads-move ws p v t ask.here own_below to_below aimed.apart);
      };
      pushes = d;
    });
  }
    where
      target : Trial → ℕ
      target NoGain = t
      target BadBalance = t
      target (Goes u y) = u

      same : (u y : ℕ) → Goes t x ≡ Goes u y → t ≡ u
      same u y q = ap target q

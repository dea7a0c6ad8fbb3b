-- The pushes after a move, arc by arc of the moved vertex's row. Assumes nothing.
use mathlib.Core.Path.{◌≡◌, refl, sym, ap, ◌∙◌}
use mathlib.Core.Bool.{Bool, true, false, cond}
use mathlib.Core.List.{List, ◌∷◌, ◌++◌}
use Prim.Native.Nat.{ℕ, zero, suc, ◌+◌, ◌-◌, ◌≤◌, ◌<◌}
use native.Mathlib.Omega.{arith}
use lib.ListN.{length, set, length-set}
use borrow.Author.Tests.{le-leb, lt-leb}
use Rattle.topology.specs.Graph.{Graph, first, past, neighbour}
use Rattle.topology.specs.Rule.{Rows}
use Rattle.topology.proofs.RowWalks.{Walk, row_of, enters, further, at-end}
use Rattle.arc_swap_attempt.specs.Trial.{has_gain, pushed}
use Rattle.arc_swap_attempt.specs.inner.Steps.{stacked, pushed_by, PushDone}
use Rattle.arc_swap_attempt.proofs.Stacks.{stacked-above, stacked-push}

-- of v's first n arcs, those to vertices that gain by a move
abbrev news : Graph → ℕ → List ℕ → ℕ → ℕ → List ℕ
news g k p v n = pushed g k (λ u. true) p v n

-- more arcs push no fewer
news-grow : (g : Graph) (k : ℕ) (p : List ℕ) (v m d : ℕ) → length (news g k p v m) ≤ length (news g k p v (d + m))
unfolding pushed
news-grow g k p v m zero = let e : 0 + m ≡ m = omega arith in rw e (omega arith)
news-grow g k p v m (suc d) = let e : suc d + m ≡ suc (d + m) = omega arith in rw e (go (has_gain g k p (neighbour g (first g v + (d + m)))) (news-grow g k p v m d))
  where
    go : (b : Bool) → length (news g k p v m) ≤ length (news g k p v (d + m)) → length (news g k p v m) ≤ length (cond b (neighbour g (first g v + (d + m)) ∷ news g k p v (d + m)) (news g k p v (d + m)))
    go true h = omega arith
    go false h = h

-- the arcs before e are passed, and all pushes so far fit
pub record Pushing (g : Graph) (k : ℕ) (p : List ℕ) (v : ℕ) (s₀ : List ℕ) (n end e : ℕ) (s : List ℕ) (top : ℕ) : Type 0 where
  pub end_is : end ≡ past g v
  pub walk : Walk (length p) g.neighbours (first g v) end e
  pub long : length s ≡ length s₀
  pub within : top ≤ length s₀
  pub top-is : top ≡ length (news g k p v (e - first g v)) + n
  pub stacked_is : stacked s top ≡ news g k p v (e - first g v) ++ stacked s₀ n
  pub kept : stacked s n ≡ stacked s₀ n

module _ (g : Graph) (k : ℕ) (p : List ℕ) (v : ℕ) (s₀ : List ℕ) (n : ℕ) (places : n ≤ length s₀) where
  pub begins : Rows (length p) g → v < length p → (end e : ℕ) → end ≡ past g v → e ≡ first g v → Pushing g k p v s₀ n end e s₀ n
  unfolding pushed
  begins ok here end e q r =
      let z : e - first g v ≡ 0 = omega arith in
      record {
        end_is = q;
        walk = rw r (enters (row_of ok v (first g v) end here refl q));
        long = refl;
        within = places;
        top-is = rw z (omega arith);
        stacked_is = rw z;
        kept = refl;
      }

  module _ (end e : ℕ) (s : List ℕ) (top : ℕ) (inv : Pushing g k p v s₀ n end e s top) where
    abbrev i : ℕ
    i = e - first g v

    -- arc e goes to u
    module _ (l : e < end) (u : ℕ) (u-is : u ≡ neighbour g e) where
      next : e + 1 - first g v ≡ suc i
      next = let f = inv.walk.from in omega arith

      at-arc : neighbour g (first g v + i) ≡ u
      at-arc = let f = inv.walk.from in let q : first g v + i ≡ e = omega arith in rw q (sym u-is)

      more : news g k p v (e + 1 - first g v) ≡ cond (has_gain g k p u) (u ∷ news g k p v i) (news g k p v i)
      unfolding pushed
      more = ap (news g k p v) next ∙ rw at-arc

      pub passed-by : (b : Bool) → b ≡ has_gain g k p u → b ≡ false → Pushing g k p v s₀ n end (e + 1) s top
      passed-by b q f =
          let a : news g k p v (e + 1 - first g v) ≡ news g k p v i = more ∙ rw (← q, f) in
          record {
            end_is = inv.end_is;
            walk = further inv.walk l;
            long = inv.long;
            within = inv.within;
            top-is = rw a inv.top-is;
            stacked_is = rw a inv.stacked_is;
            kept = inv.kept;
          }

      module _ (b : Bool) (q : b ≡ has_gain g k p u) (t : b ≡ true) where
        one : news g k p v (e + 1 - first g v) ≡ u ∷ news g k p v i
        one = more ∙ rw (← q, t)

        pub pushes-one : top < length s₀ → Pushing g k p v s₀ n end (e + 1) (set s top u) (top + 1)
        pushes-one h =
            let x = inv.top-is in
            let y = inv.long in
            record {
              end_is = inv.end_is;
              walk = further inv.walk l;
              long = length-set s top u ∙ inv.long;
              within = omega arith;
              top-is = rw one (omega arith);
              stacked_is = stacked-push s top u (omega arith) ∙ rw one (ap (λ (ys : List ℕ). u ∷ ys) inv.stacked_is);
              kept = stacked-above s top u n (omega arith) ∙ inv.kept;
            }

        -- this one does not fit: none is pushed
        pub no_place : top ≡ length s₀ → PushDone (pushed_by g k p v) s₀ n s false n
        no_place h =
            let x = inv.top-is in
            let z : suc (length (news g k p v i)) ≤ length (pushed_by g k p v) = grown in
            record {
              fits_is = sym (lt-leb (length (pushed_by g k p v) + n) (length s₀) (omega arith));
              stacked_is = inv.kept;
              within = places;
            }
          where
            grown : suc (length (news g k p v i)) ≤ length (pushed_by g k p v)
            grown =
                let m = e + 1 - first g v in
                let f = inv.walk.from in
                let d : past g v - first g v ≡ (past g v - (e + 1)) + m = omega (arith, inv.end_is) in
                let a = news-grow g k p v m (past g v - (e + 1)) in
                let c = ap length one in
                rw d (omega arith)

    pub all_fit : end ≤ e → PushDone (pushed_by g k p v) s₀ n s true top
    all_fit l =
        let q : i ≡ past g v - first g v = omega (arith, at-end inv.walk l, inv.end_is) in
        let x : top ≡ length (pushed_by g k p v) + n = rw q at inv.top-is in
        let y = inv.within in
        record {
          fits_is = sym (le-leb (length (pushed_by g k p v) + n) (length s₀) (omega arith));
          stacked_is = rw q at inv.stacked_is;
          within = inv.within;
        }

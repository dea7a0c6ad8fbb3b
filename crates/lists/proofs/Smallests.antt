-- A chain of tests gives the smallest number whose rule is broken, where each test fails exactly if its rule is kept. Assumes nothing.
use mathlib.Core.Path.{◌≡◌, refl, sym, ◌∙◌}
use mathlib.Core.Bool.{Bool, true, false, not, cond, ◌||◌}
use mathlib.Core.List.{List, [], ◌∷◌, ◌++◌}
use mathlib.Core.Logic.{◌↔◌}
use Prim.Native.Nat.{ℕ, zero, suc, ◌≤◌, ◌<◌}
use native.Mathlib.Omega.{arith}
use lib.Dec.{ltb, eqb}
use lib.ListN.{length}
use borrow.Author.Tests.{ltb-true, ltb-false, le-ltb, eqb-true, eqb-false, eq-eqb, not-false}
use Rattle.lists.specs.Number.{or_else}
use Rattle.lists.specs.Smallest.{RuleOf, Smallest}
use Rattle.lists.proofs.Bools.{or-false}
use Rattle.lists.proofs.Orders.{clash}

-- a test of two rules fails exactly if both are kept
pub either-fails : {P Q : Type 0} (s t : Bool) → (s ≡ false) ↔ P → (t ≡ false) ↔ Q → (s || t ≡ false) ↔ (P × Q)
either-fails s t p q = ((λ e. let b = or-false s t e in (p.0 b.0, q.0 b.1)), λ k. rw (p.1 k.0, q.1 k.1))

-- the contrary of a test
pub contrary : {P : Type 0} (t : Bool) → (t ≡ true) ↔ P → (not t ≡ false) ↔ P
contrary t p = ((λ e. p.0 (not-false t e)), λ k. rw (p.1 k))

pub at_most : (m a : ℕ) → (ltb m a ≡ false) ↔ (a ≤ m)
at_most m a = (ltb-false m a, le-ltb m a)

pub equal : (a b : ℕ) → (eqb a b ≡ true) ↔ (a ≡ b)
equal a b = (eqb-true a b, eq-eqb a b)

-- of the numbers from m up to n, k is the smallest whose rule is broken, or 0 where each of these rules is kept
pub record First (rules : List (Type 0)) (m n k : ℕ) : Type 0 where
  pub kept : k ≡ 0 → (i : ℕ) → m ≤ i → i < n → RuleOf rules i
  pub broken : (k ≡ 0 → ⊥) → (k < n) × (RuleOf rules k → ⊥)
  pub before : (i : ℕ) → m ≤ i → i < k → RuleOf rules i

-- nothing is asked past the last rule
past : (rules : List (Type 0)) (i : ℕ) → length rules ≤ i → RuleOf rules i
past [] i l = tt
past (r ∷ rules) zero l = absurd (omega arith)
past (r ∷ rules) (suc i) l = past rules i (omega arith)

-- more rules after the last leave each where it is
joined : (rules more : List (Type 0)) (i : ℕ) → i < length rules → RuleOf rules i ↔ RuleOf (rules ++ more) i
joined [] more i l = absurd (omega arith)
joined (r ∷ rules) more zero l = ((λ x. x), λ x. x)
joined (r ∷ rules) more (suc i) l = joined rules more i (omega arith)

module _ (rules : List (Type 0)) where
  -- the last test is passed
  pub passed : (m : ℕ) → First rules m m 0
  passed m = record { kept = λ z i a b. absurd (omega arith); broken = λ ne. absurd (ne refl); before = λ i a b. absurd (omega arith) }

  -- a rule that is kept is passed over
  pub unruled : (m n k : ℕ) → RuleOf rules m → First rules (suc m) n k → First rules m n k
  unruled m n k r f = record { kept = λ z i a b. at i n (eqb i m) refl (f.kept z) a b; broken = f.broken; before = λ i a b. at i k (eqb i m) refl f.before a b }
    where
      at : (i o : ℕ) (t : Bool) → eqb i m ≡ t → ((j : ℕ) → suc m ≤ j → j < o → RuleOf rules j) → m ≤ i → i < o → RuleOf rules i
      at i o true e h a b = rw (eqb-true i m e) r
      at i o false e h a b = let ne = eqb-false i m e in h i (omega (arith, ne)) b

  -- number m's test, which fails exactly if its rule is kept, before the tests of larger numbers
  pub tested : (m n k : ℕ) (t : Bool) → 0 < m → m < n → (t ≡ false) ↔ RuleOf rules m → First rules (suc m) n k → First rules m n (cond t m k)
  tested m n k t p l test f = go t refl
    where
      go : (b : Bool) → t ≡ b → First rules m n (cond b m k)
      go true e = record { kept = λ z i a b. absurd (omega arith); broken = λ ne. (l, λ r. clash t e (test.1 r)); before = λ i a b. absurd (omega arith) }
      go false e = unruled m n k (test.0 e) f

  -- the numbers from m up to n, and then those from n up to o
  pub thence : (m n o a b : ℕ) → n ≤ o → First rules m n a → First rules n o b → First rules m o (or_else a b)
  thence m n o zero b l f h = record { kept = λ z i p q. at i o (ltb i n) refl (h.kept z) p q; broken = h.broken; before = λ i p q. at i b (ltb i n) refl h.before p q }
    where
      at : (i e : ℕ) (t : Bool) → ltb i n ≡ t → ((j : ℕ) → n ≤ j → j < e → RuleOf rules j) → m ≤ i → i < e → RuleOf rules i
      at i e true t g p q = f.kept refl i p (ltb-true i n t)
      at i e false t g p q = g i (ltb-false i n t) q
  thence m n o (suc a) b l f h = record { kept = λ z i p q. absurd (omega arith); broken = λ ne. (let r = f.broken ne in let s = r.0 in (omega arith, r.1)); before = f.before }

  -- the same number, where more rules stand after these
  pub with-more : (more : List (Type 0)) (m n k : ℕ) → n ≤ length rules → First rules m n k → First (rules ++ more) m n k
  with-more more m n k l f =
      record {
        kept = λ z i a b. (joined rules more i (omega arith)).0 (f.kept z i a b);
        broken = λ ne. (let r = f.broken ne in let s = r.0 in (s, λ x. r.1 ((joined rules more k (omega arith)).1 x)));
        before = λ i a b. at i a b (eqb k 0) refl;
      }
    where
      at : (i : ℕ) → m ≤ i → i < k → (t : Bool) → eqb k 0 ≡ t → RuleOf (rules ++ more) i
      at i a b true e = let z = eqb-true k 0 e in absurd (omega arith)
      at i a b false e = let s = (f.broken (eqb-false k 0 e)).0 in (joined rules more i (omega arith)).0 (f.before i a b)

  -- no number is left out
  pub smallest : (k : ℕ) → RuleOf rules 0 → First rules 1 (length rules) k → Smallest rules k
  smallest k r f =
      let g = unruled 0 (length rules) k r f in
      record {
        kept = λ z i. at i (ltb i (length rules)) refl (g.kept z i (omega arith));
        done = λ all. none all (eqb k 0) refl;
        broken = λ ne. (f.broken ne).1;
        smallest = λ i l. g.before i (omega arith) l;
      }
    where
      at : (i : ℕ) (t : Bool) → ltb i (length rules) ≡ t → (i < length rules → RuleOf rules i) → RuleOf rules i
      at i true e h = h (ltb-true i (length rules) e)
      at i false e h = past rules i (ltb-false i (length rules) e)

      none : ((i : ℕ) → RuleOf rules i) → (t : Bool) → eqb k 0 ≡ t → k ≡ 0
      none all true e = eqb-true k 0 e
      none all false e = absurd ((f.broken (eqb-false k 0 e)).1 (all k))

-- Only one number is the smallest: what the rules say decides it.
pub one-smallest : (rules : List (Type 0)) (j k : ℕ) → Smallest rules j → Smallest rules k → j ≡ k
one-smallest rules j k a b = go (eqb j 0) refl (eqb k 0) refl (ltb j k) refl (ltb k j) refl
  where
    go : (p : Bool) → eqb j 0 ≡ p → (q : Bool) → eqb k 0 ≡ q → (r : Bool) → ltb j k ≡ r → (s : Bool) → ltb k j ≡ s → j ≡ k
    go true p q e r f s h = eqb-true j 0 p ∙ sym (b.done (a.kept (eqb-true j 0 p)))
    go false p true e r f s h = a.done (b.kept (eqb-true k 0 e)) ∙ sym (eqb-true k 0 e)
    go false p false e true f s h = absurd (a.broken (eqb-false j 0 p) (b.smallest j (ltb-true j k f)))
    go false p false e false f true h = absurd (b.broken (eqb-false k 0 e) (a.smallest k (ltb-true k j h)))
    go false p false e false f false h = let x = ltb-false j k f in let y = ltb-false k j h in omega arith

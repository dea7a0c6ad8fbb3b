-- Laws of `all` and `any`, below a bound and over a range. Assumes nothing.
use mathlib.Core.Path.{◌≡◌, refl, sym, ap, ap₂, ◌∙◌}
use mathlib.Core.Bool.{Bool, true, false, not, ◌&&◌, ◌||◌}
use Prim.Native.Nat.{ℕ, zero, suc, ◌+◌, ◌-◌, ◌≤◌, ◌<◌}
use native.Mathlib.Omega.{arith}
use native.Mathlib.Numerals.{add-one}
use lib.Dec.{eqb}
use borrow.Author.Tests.{eqb-true, eqb-false}
use mathlib.Core.List.{List, [], ◌∷◌}
use lib.ListN.{length, get_or}
use Rattle.std.specs.List.{list_any, list_all, range_with_len}
use Rattle.lists.specs.All.{all, all_from, any, any_from}
use Rattle.lists.proofs.Bools.{and-false, or-true}

pub all_none : (f : ℕ → Bool) → all 0 f ≡ true
unfolding all
all_none f = refl

pub all_more : (n : ℕ) (f : ℕ → Bool) → all n f ≡ true → f n ≡ true → all (n + 1) f ≡ true
unfolding all
all_more n f h t = rw (add-one, h) t

pub all-fails : (n u : ℕ) (f : ℕ → Bool) → u < n → f u ≡ false → all n f ≡ false
unfolding all
all-fails zero u f h t = absurd (omega arith)
all-fails (suc n) u f h t = go (eqb u n) refl (all-fails n u f)
  where
    go : (b : Bool) → eqb u n ≡ b → (u < n → f u ≡ false → all n f ≡ false) → all n f && f n ≡ false
    go true e ih = rw (← eqb-true u n e, t) (and-false (all u f))
    go false e ih = let ne = eqb-false u n e in rw (ih (omega (arith, ne)) t)

pub all-at : (n u : ℕ) (f : ℕ → Bool) → all n f ≡ true → u < n → f u ≡ true
all-at n u f h l = go (f u) refl
  where
    go : (b : Bool) → f u ≡ b → f u ≡ true
    go true e = e
    go false e = let o : ◌≡◌ {A = ℕ} 0 1 = cc (all-fails n u f l e) in absurd (omega arith)

module _ (a b : ℕ) (f : ℕ → Bool) where
  pub from-none : all_from a a f ≡ true
  unfolding all_from all
  from-none = let r : a - a ≡ 0 = omega arith in rw r

  pub from_more : a ≤ b → all_from a b f ≡ true → f b ≡ true → all_from a (b + 1) f ≡ true
  unfolding all_from
  from_more h p q =
      let r : b + 1 - a ≡ (b - a) + 1 = omega arith in
      let s : a + (b - a) ≡ b = omega arith in
      rw r (all_more (b - a) (λ i. f (a + i)) p (rw s q))

  pub from-fails : (e : ℕ) → a ≤ e → e < b → f e ≡ false → all_from a b f ≡ false
  unfolding all_from
  from-fails e h l t =
      let s : a + (e - a) ≡ e = omega arith in
      all-fails (b - a) (e - a) (λ i. f (a + i)) (omega arith) (rw s t)

  pub from_at : (e : ℕ) → all_from a b f ≡ true → a ≤ e → e < b → f e ≡ true
  unfolding all_from
  from_at e p h l =
      let s : a + (e - a) ≡ e = omega arith in
      rw s at (all-at (b - a) (e - a) (λ i. f (a + i)) p (omega arith))

pub any_none : (f : ℕ → Bool) → any 0 f ≡ false
unfolding any
any_none f = refl

pub any-holds : (n u : ℕ) (f : ℕ → Bool) → u < n → f u ≡ true → any n f ≡ true
unfolding any
any-holds zero u f h t = absurd (omega arith)
any-holds (suc n) u f h t = go (eqb u n) refl (any-holds n u f)
  where
    go : (b : Bool) → eqb u n ≡ b → (u < n → f u ≡ true → any n f ≡ true) → any n f || f n ≡ true
    go true e ih = rw (← eqb-true u n e, t) (or-true (any u f))
    go false e ih = let ne = eqb-false u n e in rw (ih (omega (arith, ne)) t)

pub any_at : (n u : ℕ) (f : ℕ → Bool) → any n f ≡ false → u < n → f u ≡ false
any_at n u f h l = go (f u) refl
  where
    go : (b : Bool) → f u ≡ b → f u ≡ false
    go true e = let o : ◌≡◌ {A = ℕ} 0 1 = cc (any-holds n u f l e) in absurd (omega arith)
    go false e = e

-- where not all hold, one at which it does not
pub all-witness : (n : ℕ) (f : ℕ → Bool) → all n f ≡ false → (i : ℕ) × (i < n) × (f i ≡ false)
unfolding all
all-witness zero f e = let o : ◌≡◌ {A = ℕ} 0 1 = cc in absurd (omega arith)
all-witness (suc n) f e = go (all n f) refl (f n) refl e (all-witness n f)
  where
    go : (a : Bool) → all n f ≡ a → (b : Bool) → f n ≡ b → a && b ≡ false → (all n f ≡ false → (i : ℕ) × (i < n) × (f i ≡ false)) → (i : ℕ) × (i < suc n) × (f i ≡ false)
    go true p true q r ih = let o : ◌≡◌ {A = ℕ} 0 1 = cc in absurd (omega arith)
    go true p false q r ih = (n, omega arith, q)
    go false p b q r ih = let w = ih p in let l = w.1 in (w.0, omega arith, w.2)

-- where some holds, one at which it does
pub any-witness : (n : ℕ) (f : ℕ → Bool) → any n f ≡ true → (i : ℕ) × (i < n) × (f i ≡ true)
unfolding any
any-witness zero f e = let o : ◌≡◌ {A = ℕ} 0 1 = cc in absurd (omega arith)
any-witness (suc n) f e = go (any n f) refl (f n) refl e (any-witness n f)
  where
    go : (a : Bool) → any n f ≡ a → (b : Bool) → f n ≡ b → a || b ≡ true → (any n f ≡ true → (i : ℕ) × (i < n) × (f i ≡ true)) → (i : ℕ) × (i < suc n) × (f i ≡ true)
    go false p false q r ih = let o : ◌≡◌ {A = ℕ} 0 1 = cc in absurd (omega arith)
    go false p true q r ih = (n, omega arith, q)
    go true p b q r ih = let w = ih p in let l = w.1 in (w.0, omega arith, w.2)

pub any-nowhere : (n : ℕ) (f : ℕ → Bool) → ((i : ℕ) → i < n → f i ≡ false) → any n f ≡ false
unfolding any
any-nowhere zero f h = refl
any-nowhere (suc n) f h = rw (any-nowhere n f (λ i l. h i (omega arith))) (h n (omega arith))

-- where only u can pass the test
pub any-only : (n u : ℕ) (f : ℕ → Bool) → u < n → ((i : ℕ) → i < n → (i ≡ u → ⊥) → f i ≡ false) → any n f ≡ f u
any-only n u f l h = go (f u) refl
  where
    none : f u ≡ false → (i : ℕ) → i < n → (b : Bool) → eqb i u ≡ b → f i ≡ false
    none e i k true q = rw (eqb-true i u q) e
    none e i k false q = h i k (eqb-false i u q)

    go : (b : Bool) → f u ≡ b → any n f ≡ f u
    go true e = any-holds n u f l e ∙ sym e
    go false e = any-nowhere n f (λ i k. none e i k (eqb i u) refl) ∙ sym e

module _ (a b : ℕ) (f : ℕ → Bool) where
  pub any-from-empty : any_from a a f ≡ false
  unfolding any_from any
  any-from-empty = let r : a - a ≡ 0 = omega arith in rw r

  pub any-from-more : a ≤ b → any_from a (b + 1) f ≡ any_from a b f || f b
  unfolding any_from any
  any-from-more h =
      let r : b + 1 - a ≡ suc (b - a) = omega arith in
      let s : a + (b - a) ≡ b = omega arith in
      rw r (rw s)

  pub any-from-holds : (e : ℕ) → a ≤ e → e < b → f e ≡ true → any_from a b f ≡ true
  unfolding any_from
  any-from-holds e l k t =
      let s : a + (e - a) ≡ e = omega arith in
      any-holds (b - a) (e - a) (λ i. f (a + i)) (omega arith) (rw s t)

  pub any-from-none : ((e : ℕ) → a ≤ e → e < b → f e ≡ false) → any_from a b f ≡ false
  unfolding any_from
  any-from-none h = any-nowhere (b - a) (λ i. f (a + i)) (λ i l. h (a + i) (omega arith) (omega arith))

  pub any-from-only : (e : ℕ) → a ≤ e → e < b → ((i : ℕ) → a ≤ i → i < b → (i ≡ e → ⊥) → f i ≡ false) → any_from a b f ≡ f e
  unfolding any_from
  any-from-only e l k h =
      let s : a + (e - a) ≡ e = omega arith in
      rw s at (any-only (b - a) (e - a) (λ i. f (a + i)) (omega arith) (λ i j ne. h (a + i) (omega arith) (omega arith) (λ q. ne (omega arith))))

-- a test that holds at each number holds at all
pub all-every : (n : ℕ) (f : ℕ → Bool) → ((i : ℕ) → i < n → f i ≡ true) → all n f ≡ true
unfolding all
all-every zero f h = refl
all-every (suc n) f h = rw (all-every n f (λ i l. h i (omega arith))) (h n (omega arith))

pub from-every : (a b : ℕ) (f : ℕ → Bool) → ((i : ℕ) → a ≤ i → i < b → f i ≡ true) → all_from a b f ≡ true
unfolding all_from
from-every a b f h = all-every (b - a) (λ i. f (a + i)) (λ i l. h (a + i) (omega arith) (omega arith))

-- a test holds somewhere where its contrary does not hold everywhere
pub any-contrary : (n : ℕ) (f g : ℕ → Bool) → ((i : ℕ) → i < n → f i ≡ not (g i)) → any n f ≡ not (all n g)
unfolding all any
any-contrary zero f g h = refl
any-contrary (suc n) f g h = rw (any-contrary n f g (λ i l. h i (omega arith)), h n (omega arith)) (either (all n g) (g n))
  where
    either : (s t : Bool) → not s || not t ≡ not (s && t)
    either true t = refl
    either false t = refl

any-head : (n : ℕ) (f : ℕ → Bool) → any (suc n) f ≡ (f 0 || any n (λ i. f (suc i)))
unfolding any
any-head zero f = go (f 0)
  where
    go : (b : Bool) → (false || b) ≡ (b || false)
    go true = refl
    go false = refl
any-head (suc n) f = rw (any-head n f) (assoc (f 0) (any n (λ i. f (suc i))) (f (suc n)))
  where
    assoc : (a b c : Bool) → ((a || b) || c) ≡ (a || (b || c))
    assoc true b c = refl
    assoc false b c = refl

-- some item of a list passes a test: by its items, and by its places
pub any-listed : {X : Type 0} (p : X → Bool) (d : X) (xs : List X) → list_any p xs ≡ any (length xs) (λ i. p (get_or xs i d))
unfolding any
any-listed p d [] = refl
any-listed p d (x ∷ xs) = rw (any-listed p d xs) (sym (any-head (length xs) (λ i. p (get_or (x ∷ xs) i d))))

all-head : (n : ℕ) (f : ℕ → Bool) → all (suc n) f ≡ (f 0 && all n (λ i. f (suc i)))
unfolding all
all-head zero f = go (f 0)
  where
    go : (b : Bool) → (true && b) ≡ (b && true)
    go true = refl
    go false = refl
all-head (suc n) f = rw (all-head n f) (assoc (f 0) (all n (λ i. f (suc i))) (f (suc n)))
  where
    assoc : (a b c : Bool) → ((a && b) && c) ≡ (a && (b && c))
    assoc true b c = refl
    assoc false b c = refl

all-ext : (n : ℕ) (f g : ℕ → Bool) → ((i : ℕ) → i < n → f i ≡ g i) → all n f ≡ all n g
unfolding all
all-ext zero f g h = refl
all-ext (suc n) f g h = rw (all-ext n f g (λ i l. h i (omega arith)), h n (omega arith))

-- all numbers of a range pass a test: as a list, and one by one
all-ranged : (p : ℕ → Bool) (a n : ℕ) → list_all p (range_with_len a n) ≡ all n (λ i. p (a + i))
unfolding all
all-ranged p a zero = refl
all-ranged p a (suc n) =
    let o : a + 0 ≡ a = omega arith in
    rw (all-ranged p (a + 1) n)
    (ap₂ (λ (s t : Bool). s && t) (ap p (sym o)) (all-ext n (λ i. p (a + 1 + i)) (λ i. p (a + suc i)) (λ i l. ap p (omega arith))) ∙ sym (all-head n (λ i. p (a + i))))

pub all-from-range : (p : ℕ → Bool) (a b : ℕ) → list_all p (range_with_len a (b - a)) ≡ all_from a b p
unfolding all_from
all-from-range p a b = all-ranged p a (b - a)

pub all-below : (p : ℕ → Bool) (n : ℕ) → list_all p (range_with_len 0 n) ≡ all n p
all-below p n = all-ranged p 0 n ∙ all-ext n (λ i. p (0 + i)) p (λ i l. ap p (omega arith))

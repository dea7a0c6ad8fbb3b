-- Laws of `sum` as a sum: of equal parts, of two sums, in either order, and one part taken out; and of `total`. Assumes nothing.
use mathlib.Core.Path.{◌≡◌, refl, sym, ap, ap₂, ◌∙◌}
use mathlib.Core.Bool.{Bool, true, false, not}
use mathlib.Core.List.{List, [], ◌∷◌}
use Prim.Native.Nat.{ℕ, zero, suc, ◌+◌, ◌-◌, ◌*◌, ◌≤◌, ◌<◌}
use native.Mathlib.Omega.{arith}
use native.Mathlib.Nat.{add-zero, zero-add, add-suc, suc-mul}
use lib.ListN.{length, get_or}
use lib.Dec.{eqb}
use borrow.Author.Tests.{ne_eqb, eqb-true, eqb-false}
use Rattle.std.specs.List.{sum_by}
use Rattle.std.proofs.lemmas.List.Sums.{sum_by-cons}
use Rattle.lists.specs.Sum.{sum, between, weigh, total}
use Rattle.lists.proofs.Bools.{weigh-split}

pub sum-ext : (n : ℕ) (f g : ℕ → ℕ) → ((i : ℕ) → i < n → f i ≡ g i) → sum n f ≡ sum n g
unfolding sum
sum-ext zero f g h = refl
sum-ext (suc n) f g h = ap₂ ◌+◌ (sum-ext n f g (λ i l. h i (omega arith))) (h n (omega arith))

pub sum-add : (n : ℕ) (f g : ℕ → ℕ) → sum n (λ i. f i + g i) ≡ sum n f + sum n g
unfolding sum
sum-add zero f g = refl
sum-add (suc n) f g = rw (sum-add n f g) (omega arith)

pub sum-zero : (n : ℕ) → sum n (λ i. 0) ≡ 0
unfolding sum
sum-zero zero = refl
sum-zero (suc n) = rw (sum-zero n)

pub sum-swap : (n m : ℕ) (f : ℕ → ℕ → ℕ) → sum n (λ i. sum m (λ j. f i j)) ≡ sum m (λ j. sum n (λ i. f i j))
unfolding sum
sum-swap zero m f = sym (sum-zero m)
sum-swap (suc n) m f = rw (sum-swap n m f) (sym (sum-add m (λ j. sum n (λ i. f i j)) (λ j. f n j)))

pub sum-weigh : (n : ℕ) (b : Bool) (f : ℕ → ℕ) → sum n (λ i. weigh b (f i)) ≡ weigh b (sum n f)
sum-weigh n true f = refl
sum-weigh n false f = sum-zero n

-- nothing of what stands at v is below v
sum_past : (n v : ℕ) (f : ℕ → ℕ) → n ≤ v → sum n (λ i. weigh (eqb v i) (f i)) ≡ 0
sum_past n v f h = sum-ext n (λ i. weigh (eqb v i) (f i)) (λ i. 0) (λ i l. rw (ne_eqb v i (λ e. omega arith))) ∙ sum-zero n

pub sum-only : (n v : ℕ) (f : ℕ → ℕ) → v < n → sum n (λ i. weigh (eqb v i) (f i)) ≡ f v
unfolding sum
sum-only zero v f h = absurd (omega arith)
sum-only (suc n) v f h = go (eqb v n) refl (sum-only n v f)
  where
    go : (b : Bool) → eqb v n ≡ b → (v < n → sum n (λ i. weigh (eqb v i) (f i)) ≡ f v) → sum n (λ i. weigh (eqb v i) (f i)) + weigh (eqb v n) (f n) ≡ f v
    go true e ih =
        let q = eqb-true v n e in
        rw (sum_past n v f (omega arith), e, zero-add) (ap f (sym q))
    go false e ih =
        let q = eqb-false v n e in
        rw (ih (omega (arith, q)), e, add-zero)

-- the part at v taken out
pub sum-apart : (n v : ℕ) (f : ℕ → ℕ) → v < n → sum n f ≡ sum n (λ i. weigh (not (eqb v i)) (f i)) + f v
sum-apart n v f h =
    sum-ext n f (λ i. weigh (not (eqb v i)) (f i) + weigh (eqb v i) (f i)) (λ i l. sym (weigh-split (eqb v i) (f i)))
    ∙ sum-add n (λ i. weigh (not (eqb v i)) (f i)) (λ i. weigh (eqb v i) (f i))
    ∙ ap (λ (k : ℕ). sum n (λ i. weigh (not (eqb v i)) (f i)) + k) (sum-only n v f h)

-- a sum with one part changed
pub sum-change : (n v : ℕ) (f h : ℕ → ℕ) → v < n → ((x : ℕ) → (v ≡ x → ⊥) → f x ≡ h x) → sum n f + h v ≡ sum n h + f v
sum-change n v f h l same =
    let a = sum-apart n v f l in
    let b = sum-apart n v h l in
    let c : sum n (λ i. weigh (not (eqb v i)) (f i)) ≡ sum n (λ i. weigh (not (eqb v i)) (h i)) =
    sum-ext n (λ i. weigh (not (eqb v i)) (f i)) (λ i. weigh (not (eqb v i)) (h i)) (λ i k. off i (eqb v i) refl) in
    omega arith
  where
    off : (i : ℕ) (t : Bool) → eqb v i ≡ t → weigh (not t) (f i) ≡ weigh (not t) (h i)
    off i true e = refl
    off i false e = same i (eqb-false v i e)

-- one of the parts is at most the sum
pub sum-holds : (n i : ℕ) (f : ℕ → ℕ) → i < n → f i ≤ sum n f
sum-holds n i f l = let a = sum-apart n i f l in omega arith

-- more parts sum to no less
pub sum-grows : (m n : ℕ) (f : ℕ → ℕ) → m ≤ n → sum m f ≤ sum n f
unfolding sum
sum-grows m zero f h = let e : m ≡ 0 = omega arith in rw e (omega arith)
sum-grows m (suc n) f h = go (eqb m (suc n)) refl (sum-grows m n f)
  where
    go : (b : Bool) → eqb m (suc n) ≡ b → (m ≤ n → sum m f ≤ sum n f) → sum m f ≤ sum (suc n) f
    go true e ih = rw (eqb-true m (suc n) e) (omega arith)
    go false e ih = let ne = eqb-false m (suc n) e in let k : sum m f ≤ sum n f = ih (omega (arith, ne)) in omega arith

-- smaller parts sum to no more
pub sum_below : (n : ℕ) (f g : ℕ → ℕ) → ((i : ℕ) → i < n → f i ≤ g i) → sum n f ≤ sum n g
unfolding sum
sum_below zero f g h = omega arith
sum_below (suc n) f g h = let k : sum n f ≤ sum n g = sum_below n f g (λ i l. h i (omega arith)) in let r : f n ≤ g n = h n (omega arith) in omega arith

-- the first a parts, and k more
pub sum-split : (a k : ℕ) (f : ℕ → ℕ) → sum (a + k) f ≡ sum a f + sum k (λ i. f (a + i))
unfolding sum
sum-split a zero f = rw (add-zero a) (sym (add-zero (sum a f)))
sum-split a (suc k) f = rw (add-suc a k, sum) (rw (sum-split a k f) (omega arith))

-- the parts of a range sum to no more than all
pub between-most : (a b n : ℕ) (f : ℕ → ℕ) → a ≤ b → b ≤ n → between a b f ≤ sum n f
unfolding between
between-most a b n f h l =
    let q : a + (b - a) ≡ b = omega arith in
    let s : sum b f ≡ sum a f + sum (b - a) (λ i. f (a + i)) = rw q at (sum-split a (b - a) f) in
    let k : sum b f ≤ sum n f = sum-grows b n f l in
    omega arith

-- parts of at most m each
pub sum-most : (n m : ℕ) (f : ℕ → ℕ) → ((i : ℕ) → i < n → f i ≤ m) → sum n f ≤ n * m
unfolding sum
sum-most zero m f h = omega arith
sum-most (suc n) m f h =
    let k : sum n f ≤ n * m = sum-most n m f (λ i l. h i (omega arith)) in
    let r : f n ≤ m = h n (omega arith) in
    let q : suc n * m ≡ n * m + m = suc-mul n m in
    omega arith

-- the first part, and those after it
sum_head : (n : ℕ) (f : ℕ → ℕ) → sum (suc n) f ≡ f 0 + sum n (λ i. f (suc i))
unfolding sum
sum_head zero f = omega arith
sum_head (suc n) f = let h : sum n f + f n ≡ f 0 + sum n (λ i. f (suc i)) = sum_head n f in omega arith

pub total-none : total [] ≡ 0
unfolding total sum
total-none = refl

pub total-cons : (x : ℕ) (xs : List ℕ) → total (x ∷ xs) ≡ x + total xs
unfolding total
total-cons x xs = sum_head (length xs) (λ i. get_or (x ∷ xs) i 0)

-- the standard library's sum of a list is its total
pub total-sum : (xs : List ℕ) → sum_by (λ x. x) xs ≡ total xs
total-sum [] = sym total-none
total-sum (x ∷ xs) = omega (arith, sum_by-cons (λ y. y) x xs, total-sum xs, total-cons x xs)

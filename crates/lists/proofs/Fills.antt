-- Lists whose first n places are written: laws of `written` and `filled`. Assumes nothing.
use mathlib.Core.Path.{◌≡◌, refl, sym, ◌∙◌}
use mathlib.Core.List.{List}
use mathlib.Core.Logic.{⊎_elim}
use Prim.Native.Nat.{ℕ, zero, suc, ◌+◌, ◌<◌, ◌≤◌}
use native.Mathlib.Omega.{arith}
use native.Mathlib.Numerals.{add-one}
use native.Mathlib.Nat.{eq-or-lt_of_le}
use lib.ListN.{length, set, get_or, length-set}
use lib.Seq.{get_or-set_other, get_or-set_same, ext_get_or}
use Rattle.lists.specs.Fill.{written, filled}

pub length-written : {A : Type 0} (f : ℕ → A) (n : ℕ) (xs : List A) → length (written f n xs) ≡ length xs
unfolding written
length-written f zero xs = refl
length-written f (suc n) xs = length-set (written f n xs) n (f n) ∙ length-written f n xs

pub written_none : {A : Type 0} (f : ℕ → A) (xs : List A) → xs ≡ written f 0 xs
unfolding written
written_none f xs = refl

-- one more place
pub written-more : {A : Type 0} (f : ℕ → A) (i : ℕ) (xs ks js : List A) → js ≡ set ks i (f i) → ks ≡ written f i xs → js ≡ written f (i + 1) xs
unfolding written
written-more f i xs ks js e k = rw (add-one, written, e, k) refl

-- what a reader wants to know: f k below n, and the old value from n on
pub written_below : {A : Type 0} (f : ℕ → A) (d : A) (n : ℕ) (xs : List A) → n ≤ length xs → (k : ℕ) → k < n → get_or (written f n xs) k d ≡ f k
unfolding written
written_below f d zero xs h k l = absurd (omega arith)
written_below f d (suc n) xs h k l =
    ⊎_elim
    (λ (e : k ≡ n). rw e (get_or-set_same (written f n xs) n (f n) d (let q : length (written f n xs) ≡ length xs = length-written f n xs in omega arith)))
    (λ (e : k < n). get_or-set_other (written f n xs) n k (f n) d (λ q. omega arith) ∙ written_below f d n xs (omega arith) k e)
    (eq-or-lt_of_le (omega arith))

pub written-past : {A : Type 0} (f : ℕ → A) (d : A) (n : ℕ) (xs : List A) (k : ℕ) → n ≤ k → get_or (written f n xs) k d ≡ get_or xs k d
unfolding written
written-past f d zero xs k l = refl
written-past f d (suc n) xs k l = get_or-set_other (written f n xs) n k (f n) d (λ q. omega arith) ∙ written-past f d n xs k (omega arith)

-- a whole list filled is the same whatever stood in it
pub filled-whole : {A : Type 0} (x : A) (xs ys : List A) → length xs ≡ length ys → filled x (length xs) xs ≡ filled x (length ys) ys
filled-whole x xs ys e =
    let a = length-written (λ i. x) (length xs) xs in
    let b = length-written (λ i. x) (length ys) ys in
    ext_get_or x (filled x (length xs) xs) (filled x (length ys) ys) (a ∙ e ∙ sym b)
    (λ i l. written_below (λ i. x) x (length xs) xs (omega arith) i (omega arith) ∙ sym (written_below (λ i. x) x (length ys) ys (omega arith) i (omega arith)))

-- What `==` says of two slices is what `same` and `same_gains` say. Assumes nothing.
use mathlib.Core.Path.{◌≡◌, refl, sym, ap, ap₂, subst, ◌∙◌}
use mathlib.Core.Bool.{Bool, true, false, ◌&&◌}
use mathlib.Core.List.{List, [], ◌∷◌}
use Prim.Native.Nat.{ℕ, zero, suc}
use lib.ListN.{length, get_or}
use lib.IntN.{ℤ, pos, negsuc}
use lib.Dec.{eqb, leb, eqb-zero-suc, eqb-suc-zero, eqb-suc-suc}
use native.Mathlib.Omega.{arith}
use borrow.Author.Tests.{le-leb, leb-true}
use Rattle.std.specs.Cmp.Lexicographic.{pointwise}
use Rattle.std.specs.Ordering.{int_eq}
use Rattle.std.proofs.lemmas.Bool.Decides.{same_from_decides, Decides-int_eq}
use Rattle.lists.specs.All.{all}
use Rattle.lists.proofs.Bools.{and_left, and_right}
use Rattle.lists.proofs.Orders.{clash}
use Rattle.eight_block_grid.specs.SelfTest.{alike, same, equal_gains, same_gains}

and-swap : (p q r : Bool) → (p && (q && r)) ≡ (q && (p && r))
and-swap true q r = refl
and-swap false true r = refl
and-swap false false r = refl

and-assoc : (p q r : Bool) → ((p && q) && r) ≡ (p && (q && r))
and-assoc true q r = refl
and-assoc false q r = refl

and-true : (p : Bool) → (true && p) ≡ (p && true)
and-true true = refl
and-true false = refl

-- the first place, and the others
all-first : (n : ℕ) (f : ℕ → Bool) → all (suc n) f ≡ (f 0 && all n (λ i. f (suc i)))
unfolding all
all-first zero f = and-true (f 0)
all-first (suc n) f = ap (λ (b : Bool). b && f (suc n)) (all-first n f) ∙ and-assoc (f 0) (all n (λ i. f (suc i))) (f (suc n))

-- of lists of anything, x lies past their ends
pub pointwise-alike : {A : Type 0} (equal : A → A → Bool) (x : A) (xs ys : List A) → pointwise equal xs ys ≡ alike equal x xs ys
unfolding alike all
pointwise-alike equal x [] [] = refl
pointwise-alike equal x [] (b ∷ ys) = rw eqb-zero-suc refl
pointwise-alike equal x (a ∷ xs) [] = rw eqb-suc-zero refl
pointwise-alike equal x (a ∷ xs) (b ∷ ys) =
    ap (λ (t : Bool). equal a b && t) (pointwise-alike equal x xs ys)
    ∙ and-swap (equal a b) (eqb (length xs) (length ys)) (all (length xs) (λ i. equal (get_or xs i x) (get_or ys i x)))
    ∙ ap₂ ◌&&◌ (sym (eqb-suc-suc (length xs) (length ys))) (sym (all-first (length xs) (λ i. equal (get_or (a ∷ xs) i x) (get_or (b ∷ ys) i x))))

pub numbers-same : (xs ys : List ℕ) → pointwise eqb xs ys ≡ same xs ys
numbers-same xs ys = pointwise-alike eqb 0 xs ys

-- two gains that are not above each other are one
one_gain : (g h : ℤ) → equal_gains g h ≡ true → g ≡ h
one_gain (pos a) (pos b) e =
    let l = leb-true a b (and_left (leb a b) (leb b a) e) in
    let m = leb-true b a (and_right (leb a b) (leb b a) e) in
    let q : a ≡ b = omega arith in
    ap pos q
one_gain (pos a) (negsuc b) e = clash false e refl
one_gain (negsuc a) (pos b) e = clash false e refl
one_gain (negsuc a) (negsuc b) e =
    let l = leb-true b a (and_left (leb b a) (leb a b) e) in
    let m = leb-true a b (and_right (leb b a) (leb a b) e) in
    let q : a ≡ b = omega arith in
    ap negsuc q

itself : (g : ℤ) → equal_gains g g ≡ true
itself (pos a) = let l : leb a a ≡ true = le-leb a a (omega arith) in rw l refl
itself (negsuc a) = let l : leb a a ≡ true = le-leb a a (omega arith) in rw l refl

equal_is : (g h : ℤ) → int_eq g h ≡ equal_gains g h
equal_is g h = same_from_decides (int_eq g h) (equal_gains g h) (Decides-int_eq g h) (one_gain g h, λ e. subst (λ (k : ℤ). equal_gains g k ≡ true) e (itself g))

pub gains-same : (xs ys : List ℤ) → pointwise int_eq xs ys ≡ same_gains xs ys
gains-same xs ys = ap (λ (e : ℤ → ℤ → Bool). pointwise e xs ys) (λ i g h. equal_is g h i) ∙ pointwise-alike equal_gains (pos 0) xs ys

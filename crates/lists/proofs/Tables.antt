-- Lists made place by place from a function: laws of `table`, and of `written`, which leaves a table and what stood past its end. Assumes nothing.
use mathlib.Core.Path.{◌≡◌, refl, sym, ap, ◌∙◌}
use mathlib.Core.Bool.{Bool, true, false}
use mathlib.Core.List.{List, [], ◌∷◌, ◌++◌}
use Prim.Native.Nat.{ℕ, zero, suc, ◌≤◌, ◌<◌}
use native.Mathlib.Omega.{arith}
use lib.ListN.{length, get_or, set, drop, length-append, length-set, get_or-append}
use lib.Seq.{append_snoc, drop-cons, set_at, get_or_at, get_or-set_same, get_or-set_other, ext_get_or}
use lib.Dec.{eqb}
use borrow.Author.Tests.{eqb-true, eqb-false}
use Rattle.lists.specs.Fill.{table, written, over}
use Rattle.lists.proofs.Fills.{length-written, written_below}

pub length-table : {A : Type 0} (n : ℕ) (f : ℕ → A) → length (table n f) ≡ n
unfolding table
length-table zero f = refl
length-table (suc n) f = length-append (table n f) (f n ∷ []) ∙ (let q = length-table n f in omega arith)

-- place i holds f i
pub table_at : {A : Type 0} (n i : ℕ) (d : A) (f : ℕ → A) → i < n → get_or (table n f) i d ≡ f i
unfolding table
table_at zero i d f h = absurd (omega arith)
table_at (suc n) i d f h = go (eqb i n) refl (table_at n i d f)
  where
    go : (b : Bool) → eqb i n ≡ b → (i < n → get_or (table n f) i d ≡ f i) → get_or (table n f ++ (f n ∷ [])) i d ≡ f i
    go true e ih = rw (eqb-true i n e) (get_or_at (table n f) (f n) [] d n (length-table n f))
    go false e ih =
        let ne = eqb-false i n e in
        let q = length-table n f in
        get_or-append (table n f) (f n ∷ []) d i (omega (arith, ne)) ∙ ih (omega (arith, ne))

pub table-ext : {A : Type 0} (n : ℕ) (f g : ℕ → A) → ((i : ℕ) → i < n → f i ≡ g i) → table n f ≡ table n g
unfolding table
table-ext zero f g h = refl
table-ext (suc n) f g h = rw (table-ext n f g (λ i l. h i (omega arith)), h n (omega arith))

-- one place changed
pub table-set : {A : Type 0} (n i : ℕ) (x : A) (f g : ℕ → A) → i < n → x ≡ g i → ((j : ℕ) → (j ≡ i → ⊥) → f j ≡ g j) → set (table n f) i x ≡ table n g
table-set n i x f g h here other =
    let q = length-table n f in
    let s = length-set (table n f) i x in
    ext_get_or x (set (table n f) i x) (table n g) (s ∙ q ∙ sym (length-table n g)) (λ j l. go j (omega arith) (eqb j i) refl)
  where
    go : (j : ℕ) → j < n → (b : Bool) → eqb j i ≡ b → get_or (set (table n f) i x) j x ≡ get_or (table n g) j x
    go j l true e =
        let q = length-table n f in
        rw (eqb-true j i e) (get_or-set_same (table n f) i x x (omega arith) ∙ here ∙ sym (table_at n i x g h))
    go j l false e =
        let ne = eqb-false j i e in
        get_or-set_other (table n f) i j x x ne ∙ table_at n j x f l ∙ other j ne ∙ sym (table_at n j x g l)

-- what is written place by place is a table, and then what stood past its end
pub written-table : {A : Type 0} (f : ℕ → A) (n : ℕ) (xs : List A) → n ≤ length xs → written f n xs ≡ table n f ++ drop n xs
unfolding written table
written-table f zero xs h = refl
written-table f (suc n) xs h =
    rw (written-table f n xs (omega arith), drop-cons xs n (f n))
    (set_at (table n f) (get_or xs n (f n)) (drop (suc n) xs) (f n) n (length-table n f) ∙ sym (append_snoc (table n f) (f n) (drop (suc n) xs)))

pub written_over : {A : Type 0} (f : ℕ → A) (n : ℕ) (xs : List A) → n ≤ length xs → written f n xs ≡ over (table n f) xs
written_over f n xs h = written-table f n xs h ∙ ap (λ (m : ℕ). table n f ++ drop m xs) (sym (length-table n f))

-- a list is the table of its places
pub table_of : {A : Type 0} (n : ℕ) (d : A) (xs : List A) → length xs ≡ n → xs ≡ table n (λ i. get_or xs i d)
table_of n d xs e =
    ext_get_or d xs (table n (λ i. get_or xs i d)) (e ∙ sym (length-table n (λ i. get_or xs i d)))
    (λ i l. sym (table_at n i d (λ j. get_or xs j d) (omega arith)))

-- a list of n places, each of them written
pub written-whole : {A : Type 0} (n : ℕ) (d : A) (f : ℕ → A) (xs : List A) → length xs ≡ n → written f n xs ≡ table n f
written-whole n d f xs e =
    let q = length-written f n xs in
    ext_get_or d (written f n xs) (table n f) (q ∙ e ∙ sym (length-table n f))
    (λ i l. written_below f d n xs (omega arith) i (omega arith) ∙ sym (table_at n i d f (omega arith)))

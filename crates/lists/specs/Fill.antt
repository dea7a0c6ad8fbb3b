-- Lists made place by place.
use Rattle.std.specs.Prelude.{List, [], ◌∷◌, ◌++◌, ℕ, zero, suc, length, set, drop}

-- place i holds f i for each i below n, and the others are unchanged
unfoldable pub written : {A : Type 0} → (ℕ → A) → ℕ → List A → List A
written f zero xs = xs
written f (suc n) xs = set (written f n xs) n (f n)

-- the first n places hold x, and the others are unchanged
abbrev pub filled : {A : Type 0} → A → ℕ → List A → List A
filled x n xs = written (λ i. x) n xs

-- f 0, f 1, .. f (n - 1)
unfoldable pub table : {A : Type 0} → ℕ → (ℕ → A) → List A
table zero f = []
table (suc n) f = table n f ++ (f n ∷ [])

-- xs, and past its end what stood in ys
abbrev pub over : {A : Type 0} → List A → List A → List A
over xs ys = xs ++ drop (length xs) ys

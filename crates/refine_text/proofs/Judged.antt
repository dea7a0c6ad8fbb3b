-- The number of an input, from the reader's: 12 for a header beyond the program's limits. Assumes nothing.
use mathlib.Core.Path.{◌≡◌, refl, sym, ap, ◌∙◌}
use mathlib.Core.Bool.{Bool, true, false, cond}
use mathlib.Core.List.{List}
use mathlib.Core.Logic.{◌⊎◌, inl, inr, ⊎_elim}
use Prim.Native.Nat.{ℕ, zero, suc, ◌+◌, ◌≤◌, ◌<◌}
use native.Mathlib.Omega.{arith}
use lib.ListN.{length}
use lib.Dec.{ltb}
use borrow.Author.Tests.{lt-ltb, le-ltb, ltb-true, ltb-false, ne_eqb}
use Rattle.lists.specs.Number.{or_else}
use Rattle.lists.proofs.Bools.{and-false, or-true, or-false}
use Rattle.plan_blocks.specs.Word.{word}
use Rattle.plan_blocks.specs.Decode.{bad_length, plan_of, file_number}
use Rattle.plan_reader.specs.Read.{short, number_for}
use Rattle.plan_reader.proofs.ReadLaws.{long-enough, accepted-places}
use Rattle.refine_text.specs.Refine.{plan_vertices, plan_arcs, input_bytes, beyond, ranked, input_number}

-- "12 unread for an input above 22,016 bytes"
pub unread : (s : List ℕ) → input_bytes < length s → 12 ≡ input_number s
unfolding input_number
unread s h = rw (lt-ltb input_bytes (length s) h)

-- the header's two numbers, and the program's limits
module _ (s : List ℕ) where
  pub many-vertices : (x : ℕ) → x ≡ word s 1 → plan_vertices < x → beyond (plan_of s) ≡ true
  unfolding beyond plan_of
  many-vertices x e h = rw (← e, lt-ltb plan_vertices x h)

  pub many-arcs : (x : ℕ) → x ≡ word s 2 → plan_arcs < x → beyond (plan_of s) ≡ true
  unfolding beyond plan_of
  many-arcs x e h = rw (← e, lt-ltb plan_arcs x h) (or-true (ltb plan_vertices (word s 1)))

  pub few-enough : word s 1 ≤ plan_vertices → word s 2 ≤ plan_arcs → beyond (plan_of s) ≡ false
  unfolding beyond plan_of
  few-enough h l = rw (le-ltb plan_vertices (word s 1) h, le-ltb plan_arcs (word s 2) l)

  within : beyond (plan_of s) ≡ false → (word s 1 ≤ plan_vertices) × (word s 2 ≤ plan_arcs)
  unfolding beyond plan_of
  within h =
      let p = or-false (ltb plan_vertices (word s 1)) (ltb plan_arcs (word s 2)) h in
      (ltb-false plan_vertices (word s 1) p.0, ltb-false plan_arcs (word s 2) p.1)

  not_short : word s 1 ≤ plan_vertices → word s 2 ≤ plan_arcs → short (plan_of s).n (plan_of s).a plan_vertices plan_vertices (plan_vertices + 1) plan_arcs plan_arcs ≡ false
  unfolding short plan_of
  not_short h l = rw (le-ltb plan_vertices (word s 1) h, le-ltb (plan_vertices + 1) (word s 1 + 1) (omega arith), le-ltb plan_arcs (word s 2) l)

-- the number by its rank
ranked-low : (g : ℕ) (b : Bool) → suc g ≤ 12 → ranked (suc g) b ≡ suc g
unfolding ranked
ranked-low g b l = rw (ne_eqb (suc g) 0 (λ z. omega arith), le-ltb 12 (suc g) l, and-false b)

ranked-high : (f : ℕ) → (f ≡ 0) ⊎ (12 < f) → ranked f true ≡ 12
unfolding ranked
ranked-high zero h = refl
ranked-high (suc g) h = rw (ne_eqb (suc g) 0 (λ z. omega arith), lt-ltb 12 (suc g) (⊎_elim (λ z. absurd (omega arith)) (λ l. l) h))

ranked-within : (f : ℕ) → ranked f false ≡ f
unfolding ranked
ranked-within f = refl

-- 15 or 0, after a file that is accepted
fifteen : (b : Bool) (x : ℕ) → x ≡ cond b 15 0 → (x ≡ 15) ⊎ (x ≡ 0)
fifteen true x q = inl q
fifteen false x q = inr q

file-or-places : (f m : ℕ) (b : Bool) → m ≡ or_else f (cond b 15 0) → (f ≡ 0) ⊎ (m ≡ f)
file-or-places zero m b o = inl refl
file-or-places (suc g) m b o = inr o

or-zero : (f m : ℕ) → m ≡ or_else f 0 → m ≡ f
or-zero zero m o = o
or-zero (suc g) m o = o

nine : (s : List ℕ) → bad_length s ≡ true → file_number s ≡ 9
unfolding file_number
nine s h = rw h

-- m is the reader's number for targets of the program's lengths
module _ (s : List ℕ) (m : ℕ) (few : length s ≤ input_bytes) (e : m ≡ number_for s plan_vertices plan_vertices (plan_vertices + 1) plan_arcs plan_arcs) where
  is-ranked : input_number s ≡ ranked (file_number s) (beyond (plan_of s))
  unfolding input_number
  is-ranked = rw (le-ltb input_bytes (length s) few)

  by-file : m ≡ or_else (file_number s) (cond (short (plan_of s).n (plan_of s).a plan_vertices plan_vertices (plan_vertices + 1) plan_arcs plan_arcs) 15 0)
  unfolding number_for
  by-file = e

  -- a number that no limit comes before
  pub judged-low : m ≤ 12 → (m ≡ 0 → ⊥) → m ≡ input_number s
  judged-low l ne = go (file_number s) by-file is-ranked
    where
      go : (f : ℕ) → m ≡ or_else f (cond (short (plan_of s).n (plan_of s).a plan_vertices plan_vertices (plan_vertices + 1) plan_arcs plan_arcs) 15 0) → input_number s ≡ ranked f (beyond (plan_of s)) → m ≡ input_number s
      go zero o r = ⊎_elim (λ z. absurd (omega arith)) (λ z. absurd (ne z)) (fifteen (short (plan_of s).n (plan_of s).a plan_vertices plan_vertices (plan_vertices + 1) plan_arcs plan_arcs) m o)
      go (suc g) o r = o ∙ sym (r ∙ ranked-low g (beyond (plan_of s)) (omega arith))

  module _ (high : 12 < m) where
    -- the reader has seen a whole header
    pub whole-header : 512 ≤ length s
    whole-header = go (bad_length s) refl
      where
        go : (b : Bool) → bad_length s ≡ b → 512 ≤ length s
        go true q = let n = nine s q in ⊎_elim (λ z. absurd (omega arith)) (λ z. absurd (omega arith)) (file-or-places (file_number s) m (short (plan_of s).n (plan_of s).a plan_vertices plan_vertices (plan_vertices + 1) plan_arcs plan_arcs) by-file)
        go false q = long-enough s q

    -- 12 ahead of 13 and 14, and in place of 15
    pub judged-beyond : beyond (plan_of s) ≡ true → 12 ≡ input_number s
    judged-beyond b =
        sym (is-ranked ∙ ap (λ (t : Bool). ranked (file_number s) t) b ∙ ranked-high (file_number s) (⊎_elim (λ z. inl z) (λ (z : m ≡ file_number s). inr (omega arith)) (file-or-places (file_number s) m (short (plan_of s).n (plan_of s).a plan_vertices plan_vertices (plan_vertices + 1) plan_arcs plan_arcs) by-file)))

    -- 13 and 14 of a header within the limits
    pub judged-within : (x y : ℕ) → x ≡ word s 1 → x ≤ plan_vertices → y ≡ word s 2 → y ≤ plan_arcs → m ≡ input_number s
    judged-within x y ex lx ey ly =
        let fits = not_short s (omega arith) (omega arith) in
        let o : m ≡ or_else (file_number s) 0 = by-file ∙ ap (λ (t : Bool). or_else (file_number s) (cond t 15 0)) fits in
        or-zero (file_number s) m o ∙ sym (is-ranked ∙ ap (λ (t : Bool). ranked (file_number s) t) (few-enough s (omega arith) (omega arith)) ∙ ranked-within (file_number s))

  pub judged-zero : m ≡ 0 → input_number s ≡ 0
  judged-zero z =
      let r = accepted-places s plan_vertices plan_vertices (plan_vertices + 1) plan_arcs plan_arcs (sym e ∙ z) in
      is-ranked ∙ ap (λ (f : ℕ). ranked f (beyond (plan_of s))) r.accepted ∙ ap (λ (t : Bool). ranked 0 t) (few-enough s r.labels r.neighbours) ∙ ranked-within 0

  -- a refusal's number is not 0
  pub judged-refused : (m ≡ 0 → ⊥) → input_number s ≡ 0 → ⊥
  judged-refused ne z = go (ltb 12 m) refl (beyond (plan_of s)) refl
    where
      go : (h : Bool) → ltb 12 m ≡ h → (b : Bool) → beyond (plan_of s) ≡ b → ⊥
      go false l b q = ne (judged-low (ltb-false 12 m l) ne ∙ z)
      go true l true q = let o = judged-beyond (ltb-true 12 m l) q in omega arith
      go true l false q = let w = within s q in ne (judged-within (ltb-true 12 m l) (word s 1) (word s 2) refl w.0 refl w.1 ∙ z)

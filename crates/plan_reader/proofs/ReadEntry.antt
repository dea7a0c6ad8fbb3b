-- The promise of `read_plan` in its two cases, and the header that it hands over. Assumes nothing.
use mathlib.Core.Path.{◌≡◌, refl, sym, ap, ◌∙◌}
use mathlib.Core.List.{List}
use Prim.Native.Nat.{ℕ}
use borrow.Author.Tests.{eq-eqb, ne_eqb}
use Rattle.lists.specs.Fill.{over}
use Rattle.plan_blocks.specs.declared.header.Header.{Header}
use Rattle.plan_blocks.specs.Word.{word}
use Rattle.plan_blocks.specs.Decode.{header_at, plan_of}
use Rattle.plan_reader.specs.declared.ReadAnswer.{ReadAnswer}
use Rattle.plan_reader.specs.Read.{Targets, read_number, starts_of, header_answer, header_of, refusal_of, handed, read_answer, read_left, Read}

-- two lots of targets are equal where each list is
pub same-targets : {t u : Targets} → t.labels ≡ u.labels → t.weights ≡ u.weights → t.starts ≡ u.starts → t.neighbours ≡ u.neighbours → t.arc_weights ≡ u.arc_weights → t ≡ u
same-targets a b c d e = λ i. record { labels = a i; weights = b i; starts = c i; neighbours = d i; arc_weights = e i }

promised : (s : List ℕ) (t u : Targets) (r : ReadAnswer) → r ≡ read_answer s t → u ≡ read_left s t → Read s t r u
promised s t u r a e = record {
  answered = a;
  labels = ap (λ (x : Targets). x.labels) e;
  weights = ap (λ (x : Targets). x.weights) e;
  starts = ap (λ (x : Targets). x.starts) e;
  neighbours = ap (λ (x : Targets). x.neighbours) e;
  arc_weights = ap (λ (x : Targets). x.arc_weights) e;
}

pub read-refused : (s : List ℕ) (t : Targets) (r : ReadAnswer) (m : ℕ) → m ≡ read_number s t → (m ≡ 0 → ⊥) → r ≡ refusal_of m → Read s t r t
unfolding read_answer read_left
read-refused s t r m e ne q =
    let f = ne_eqb (read_number s t) 0 (λ z. ne (e ∙ z)) in
    promised s t t r (rw f (q ∙ ap refusal_of e)) (rw f refl)

pub read_done : (s : List ℕ) (t u : Targets) (r : ReadAnswer) (m : ℕ) → m ≡ read_number s t → m ≡ 0 → r ≡ header_of (plan_of s)
    → u.labels ≡ over (plan_of s).labels t.labels → u.weights ≡ over (plan_of s).weights t.weights → u.starts ≡ over (starts_of (word s 1) (plan_of s).degrees) t.starts
    → u.neighbours ≡ over (plan_of s).neighbours t.neighbours → u.arc_weights ≡ over (plan_of s).arc_weights t.arc_weights → Read s t r u
unfolding read_answer read_left handed plan_of
read_done s t u r m e z q a b c d g =
    let f = eq-eqb (read_number s t) 0 (sym e ∙ z) in
    promised s t u r (rw f q) (rw f (same-targets a b c d g))

-- the header that is handed over is that of the plan in the file
pub header-handed : (s : List ℕ) (header : Header) (r : ReadAnswer) → header ≡ header_at s → r ≡ header_answer header → r ≡ header_of (plan_of s)
unfolding header_of plan_of
header-handed s header r e q = q ∙ ap header_answer e

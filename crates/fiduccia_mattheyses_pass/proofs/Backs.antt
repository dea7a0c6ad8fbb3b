-- Vertices moved one after the other, and moved back: the rewind. Assumes nothing.
use mathlib.Core.Path.{◌≡◌, refl, sym, ap, ◌∙◌}
use mathlib.Core.Bool.{Bool, true, false}
use mathlib.Core.List.{List, [], ◌∷◌, ◌++◌}
use Prim.Native.Nat.{ℕ, suc, ◌<◌}
use native.Mathlib.Omega.{arith}
use lib.Dec.{ltb, eqb}
use lib.ListN.{length, get_or, set, length-set, take, drop, take-append-drop}
use lib.Seq.{get_or-set_same, get_or-set_other, set_comm, set_out}
use borrow.Author.Tests.{eqb-true, eqb-false, ltb-true, ltb-false}
use Rattle.imbalance.specs.Load.{part}
use Rattle.exchange.proofs.TwoMoves.{moved_back}
use Rattle.fiduccia_mattheyses_choice.specs.Choice.{other, flip}
use Rattle.fiduccia_mattheyses_pass.specs.Pass.{flips}

abbrev Two : List ℕ → Type 0
Two p = (x : ℕ) → part p x < 2

flip-flip : (p : List ℕ) (v : ℕ) → Two p → flip (flip p v) v ≡ p
unfolding flip
flip-flip p v two_labels = go (ltb v (length p)) refl
  where
    go : (b : Bool) → ltb v (length p) ≡ b → set (set p v (other (part p v))) v (other (part (set p v (other (part p v))) v)) ≡ p
    go true e =
        let h = get_or-set_same p v (other (part p v)) 0 (ltb-true v (length p) e) in
        let t = two_labels v in
        let q : other (other (part p v)) ≡ part p v = omega arith in
        rw (h, q) (moved_back p v (other (part p v)))
    go false e =
        let l = ltb-false v (length p) e in
        rw (set_out p v (other (part p v)) l) (set_out p v (other (part p v)) l)

flip-apart : (p : List ℕ) (u v : ℕ) → (u ≡ v → ⊥) → flip (flip p u) v ≡ flip (flip p v) u
unfolding flip
flip-apart p u v ne =
    rw (get_or-set_other p u v (other (part p u)) 0 (λ q. ne (sym q)), get_or-set_other p v u (other (part p v)) 0 ne)
    (set_comm p u v (other (part p u)) (other (part p v)) ne)

flip-comm : (p : List ℕ) (u v : ℕ) → flip (flip p u) v ≡ flip (flip p v) u
flip-comm p u v = go (eqb u v) refl
  where
    go : (b : Bool) → eqb u v ≡ b → flip (flip p u) v ≡ flip (flip p v) u
    go true e = rw (eqb-true u v e)
    go false e = flip-apart p u v (eqb-false u v e)

two-flip : (p : List ℕ) (v : ℕ) → Two p → Two (flip p v)
unfolding flip
two-flip p v two_labels x = go (eqb x v) refl
  where
    in-or-out : (b : Bool) → ltb v (length p) ≡ b → part (set p v (other (part p v))) v < 2
    in-or-out true e = rw (get_or-set_same p v (other (part p v)) 0 (ltb-true v (length p) e)) (omega arith)
    in-or-out false e = rw (set_out p v (other (part p v)) (ltb-false v (length p) e)) (two_labels v)

    go : (b : Bool) → eqb x v ≡ b → part (set p v (other (part p v))) x < 2
    go true e = rw (eqb-true x v e) (in-or-out (ltb v (length p)) refl)
    go false e = rw (get_or-set_other p v x (other (part p v)) 0 (eqb-false x v e)) (two_labels x)

pub two-flips : (p vs : List ℕ) → Two p → Two (flips p vs)
unfolding flips
two-flips p [] two_labels = two_labels
two-flips p (v ∷ vs) two_labels = two-flips (flip p v) vs (two-flip p v two_labels)

flips-flip : (p : List ℕ) (v : ℕ) (vs : List ℕ) → flips (flip p v) vs ≡ flip (flips p vs) v
unfolding flips
flips-flip p v [] = refl
flips-flip p v (u ∷ us) = ap (λ (q : List ℕ). flips q us) (flip-comm p v u) ∙ flips-flip (flip p u) v us

pub flips-append : (p a b : List ℕ) → flips p (a ++ b) ≡ flips (flips p a) b
unfolding flips
flips-append p [] b = refl
flips-append p (v ∷ a) b = flips-append (flip p v) a b

pub flips-back : (p vs : List ℕ) → Two p → flips (flips p vs) vs ≡ p
unfolding flips
flips-back p [] two_labels = refl
flips-back p (v ∷ vs) two_labels =
    ap (λ (q : List ℕ). flips q vs) (ap (λ (q : List ℕ). flip q v) (flips-flip p v vs) ∙ flip-flip (flips p vs) v (two-flips p vs two_labels))
    ∙ flips-back p vs two_labels

-- the moves past the first k undone
pub rewound : (p vs : List ℕ) (k : ℕ) → Two p → flips (flips p vs) (drop k vs) ≡ flips p (take k vs)
rewound p vs k two_labels =
    ap (λ (q : List ℕ). flips q (drop k vs)) (ap (flips p) (sym (take-append-drop k vs)) ∙ flips-append p (take k vs) (drop k vs))
    ∙ flips-back (flips p (take k vs)) (drop k vs) (two-flips p (take k vs) two_labels)

-- a vertex that is not among those moved keeps its part
pub flips-other : (p us : List ℕ) (x : ℕ) → ((i : ℕ) → i < length us → get_or us i 0 ≡ x → ⊥) → part (flips p us) x ≡ part p x
unfolding flips flip
flips-other p [] x h = refl
flips-other p (u ∷ us) x h = flips-other (flip p u) us x (λ i l. h (suc i) (omega arith)) ∙ keeps
  where
    keeps : part (flip p u) x ≡ part p x
    keeps = get_or-set_other p u x (other (part p u)) 0 (λ e. h 0 (omega arith) (sym e))

pub flips-long : (p us : List ℕ) → length (flips p us) ≡ length p
unfolding flips flip
flips-long p [] = refl
flips-long p (u ∷ us) = flips-long (flip p u) us ∙ length-set p u (other (part p u))

-- one vertex more
pub flips-more : (p us : List ℕ) (v : ℕ) → flips p (us ++ (v ∷ [])) ≡ flip (flips p us) v
unfolding flips
flips-more p us v = flips-append p us (v ∷ [])

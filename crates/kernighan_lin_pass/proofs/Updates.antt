-- The neighbours of a taken vertex, told arc by arc. Assumes nothing.
use mathlib.Core.Path.{◌≡◌, sym, ap, ◌∙◌}
use mathlib.Core.Bool.{Bool, true, false, cond}
use mathlib.Core.List.{List}
use Prim.Native.Nat.{ℕ, ◌+◌, ◌*◌, ◌≤◌, ◌<◌}
use native.Mathlib.Omega.{arith}
use native.Mathlib.Nat.{add-zero}
use lib.ListN.{length, get_or, set, length-set}
use lib.Dec.{eqb}
use lib.IntN.{ℤ, pos, neg_ℤ, ◌+ℤ◌, ◌-ℤ◌, +ℤ_idr, +ℤ_assoc, pos-+ℤ-pos, neg_ℤ-+ℤ}
use lib.Signed.{mag}
use borrow.Author.Tests.{eq-eqb, ne_eqb}
use Rattle.lists.specs.Sum.{between, weigh}
use Rattle.lists.specs.Fill.{table}
use Rattle.lists.proofs.Differences.{mag_up, mag_down}
use Rattle.lists.proofs.Sums.{between_none, between_more}
use Rattle.lists.proofs.Tables.{table_at, table-ext, table_of, table-set}
use Rattle.imbalance.specs.Load.{part}
use Rattle.imbalance.specs.Limit.{most_weight}
use Rattle.topology.specs.Graph.{Graph, first, past, neighbour, weight, arcs, joins}
use Rattle.topology.proofs.RowWalks.{Walk, row_of, enters, further, at-end, counts}
use Rattle.kernighan_lin_pass.specs.Gain.{updated}
use Rattle.kernighan_lin_pass.specs.inner.Steps.{Fit, Within, update_bound}
use Rattle.kernighan_lin_pass.proofs.Sizes.{part_small}

-- z told a weight of j, added or taken away
abbrev pub shift : Bool → ℤ → ℕ → ℤ
shift t z j = cond t (z +ℤ pos (2 * j)) (z -ℤ pos (2 * j))

abbrev pub arc_shift : Bool → ℕ → ℤ
arc_shift t w = cond t (pos (2 * w)) (neg_ℤ (pos (2 * w)))

shift_none : (t : Bool) (z : ℤ) → z ≡ shift t z 0
shift_none true z = sym (+ℤ_idr z)
shift_none false z = sym (+ℤ_idr z)

shift-more : (t : Bool) (z : ℤ) (j w k : ℕ) → k ≡ j + w → shift t z j +ℤ arc_shift t w ≡ shift t z k
shift-more true z j w k e =
    let q : 2 * j + 2 * w ≡ 2 * k = omega arith in
    +ℤ_assoc z (pos (2 * j)) (pos (2 * w)) ∙ ap (λ (y : ℤ). z +ℤ y) (pos-+ℤ-pos (2 * j) (2 * w) ∙ ap pos q)
shift-more false z j w k e =
    let q : 2 * j + 2 * w ≡ 2 * k = omega arith in
    +ℤ_assoc z (neg_ℤ (pos (2 * j))) (neg_ℤ (pos (2 * w)))
    ∙ ap (λ (y : ℤ). z +ℤ y) (sym (neg_ℤ-+ℤ (pos (2 * j)) (pos (2 * w))) ∙ ap neg_ℤ (pos-+ℤ-pos (2 * j) (2 * w) ∙ ap pos q))

pub shift_small : (t : Bool) (z : ℤ) (j m : ℕ) → mag z ≤ m → j ≤ most_weight → mag (shift t z j) ≤ m + update_bound
shift_small true z j m h l = omega (arith, mag_up z (2 * j))
shift_small false z j m h l = omega (arith, mag_down z (2 * j))

-- the weight of the arcs from a up to e that go to u
abbrev joins_to : Graph → ℕ → ℕ → ℕ → ℕ
joins_to g a e u = between a e (counts g (λ x. eqb x u))

abbrev told_to : Graph → List ℕ → ℕ → List ℤ → ℕ → ℕ → ℕ → ℤ
told_to g p v gains a e u = shift (eqb (part p u) (part p v)) (get_or gains u (pos 0)) (joins_to g a e u)

-- the arcs from a up to e have told
pub record Telling (g : Graph) (p : List ℕ) (v : ℕ) (gains₀ : List ℤ) (a b e : ℕ) (gains : List ℤ) : Type 0 where
  pub walk : Walk (length p) g.neighbours a b e
  pub long : length gains ≡ length p
  pub gains_are : gains ≡ table (length p) (told_to g p v gains₀ a e)

module _ (g : Graph) (p : List ℕ) (v : ℕ) (gains₀ : List ℤ) (fit : Fit (length p) g) (a b : ℕ) where
  pub begins : length gains₀ ≡ length p → v < length p → a ≡ first g v → b ≡ past g v → Telling g p v gains₀ a b a gains₀
  begins long below q r = record {
    walk = enters (row_of fit.rows v a b below q r);
    long = long;
    gains_are =
        table_of (length p) (pos 0) gains₀ long
        ∙ table-ext (length p) (λ u. get_or gains₀ u (pos 0)) (told_to g p v gains₀ a a)
        (λ u l.
        shift_none (eqb (part p u) (part p v)) (get_or gains₀ u (pos 0))
        ∙ ap (shift (eqb (part p u) (part p v)) (get_or gains₀ u (pos 0))) (sym (between_none a (counts g (λ x. eqb x u)))));
  }

  module _ (e : ℕ) (gains : List ℤ) (inv : Telling g p v gains₀ a b e gains) where
    -- no gain grows by more than twice a row
    pub gain-small : (m : ℕ) → Within m gains₀ → (x : ℕ) → x < length p → mag (get_or gains x (pos 0)) ≤ m + update_bound
    gain-small m h x l =
        let w = inv.walk in
        rw (inv.gains_are, table_at (length p) x (pos 0) (told_to g p v gains₀ a e) l)
        (shift_small (eqb (part p x) (part p v)) (get_or gains₀ x (pos 0)) (joins_to g a e x) m (h x) (part_small (length p) g fit a e w.from (omega (arith, w.row.inside)) (λ j. eqb (neighbour g j) x)))

    -- arc e tells x
    pub turn : e < b → (x w : ℕ) (y : ℤ) → x ≡ neighbour g e → x < length p → w ≡ weight g e → y ≡ get_or gains x (pos 0) +ℤ arc_shift (eqb (part p x) (part p v)) w → Telling g p v gains₀ a b (e + 1) (set gains x y)
    turn l x w y xs lx ws ys = record {
      walk = further inv.walk l;
      long = length-set gains x y ∙ inv.long;
      gains_are =
          ap (λ (z : List ℤ). set z x y) inv.gains_are
          ∙ table-set (length p) x y (told_to g p v gains₀ a e) (told_to g p v gains₀ a (e + 1)) lx here other;
    }
      where
        more : (u : ℕ) → joins_to g a (e + 1) u ≡ joins_to g a e u + weigh (eqb (neighbour g e) u) (weight g e)
        more u = between_more a e (counts g (λ z. eqb z u)) inv.walk.from

        here : y ≡ told_to g p v gains₀ a (e + 1) x
        here =
            ys
            ∙ ap (λ (z : ℤ). z +ℤ arc_shift (eqb (part p x) (part p v)) w) (ap (λ (z : List ℤ). get_or z x (pos 0)) inv.gains_are ∙ table_at (length p) x (pos 0) (told_to g p v gains₀ a e) lx)
            ∙ shift-more (eqb (part p x) (part p v)) (get_or gains₀ x (pos 0)) (joins_to g a e x) w (joins_to g a (e + 1) x)
            (more x ∙ rw (eq-eqb (neighbour g e) x (sym xs), ws))

        other : (j : ℕ) → (j ≡ x → ⊥) → told_to g p v gains₀ a e j ≡ told_to g p v gains₀ a (e + 1) j
        other j ne =
            ap (shift (eqb (part p j) (part p v)) (get_or gains₀ j (pos 0)))
            (sym (more j ∙ rw (ne_eqb (neighbour g e) j (λ q. ne (sym q ∙ sym xs))) (add-zero (joins_to g a e j))))

    pub ended : a ≡ first g v → b ≡ past g v → b ≤ e → gains ≡ updated g p v gains₀
    unfolding updated joins arcs
    ended q r l = rw (at-end inv.walk l, q, r) at inv.gains_are

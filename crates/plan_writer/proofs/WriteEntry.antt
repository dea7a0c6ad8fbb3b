-- The promise of `write_plan` in its two cases, and what number 0 tells. Assumes nothing.
use Rattle.std.proofs.Common.{◌≡◌, ℕ, ◌+◌, ◌*◌, ◌<◌, ◌≤◌, true, false, not, ◌||◌, eqb, ltb, List, length, get_or, sym, refl, ◌∙◌, arith, ltb-false, ltb-true, eq-eqb, ne_eqb, eqb-true}
use borrow.Author.Tests.{not-false}
use Rattle.lists.specs.Fill.{over}
use Rattle.lists.proofs.Bools.{or-false}
use Rattle.lists.proofs.Alls.{all-at}
use Rattle.imbalance.specs.Ceiling.{unfit_choice}
use Rattle.imbalance.specs.Limit.{most_vertices, most_arcs}
use Rattle.topology.specs.Graph.{Graph, in_rows}
use Rattle.topology.specs.Rule.{starts_ok}
use Rattle.topology.proofs.Starts.{start-rises, start-inside}
use Rattle.plan_blocks.specs.declared.header.Header.{Header}
use Rattle.plan_blocks.specs.Block.{new_kind, blocks_for, blocks_of}
use Rattle.plan_blocks.specs.Plan.{out_of_range}
use Rattle.plan_blocks.specs.Encode.{encode}
use Rattle.plan_blocks.proofs.Accepts.{InRange, in-range, not-given}
use Rattle.plan_writer.specs.Write.{Given, plan_from, vertices, arcs, unfit, miscounted, bad_starts, bad_labels, size_of, write_number, write_answer, write_left, Written}
use Rattle.plan_writer.specs.inner.Writing.{VerticesFit, ArcsFit, header_from}

-- the rows that are given
abbrev pub rows_in : Given → Graph
rows_in g = in_rows g.starts g.neighbours g.arc_weights

-- what number 0 says of what is given and of the target's length
pub record Fits (g : Given) (places : ℕ) : Type 0 where
  pub numbers : out_of_range (vertices g) (arcs g) g.k ≡ false
  pub ranged : InRange (vertices g) (arcs g) g.k
  pub fit : unfit_choice g.ceiling ≡ false
  pub weighed : length g.weights ≡ vertices g
  pub started : length g.starts ≡ vertices g + 1
  pub paired : arcs g ≡ length g.arc_weights
  pub ordered : starts_ok (vertices g) (rows_in g) ≡ true
  pub named : (v : ℕ) → v < vertices g → get_or g.labels v 0 < g.k
  pub roomy : size_of (vertices g) (arcs g) ≤ places

module _ (g : Given) (places : ℕ) where
  pub fits : write_number g places ≡ 0 → Fits g places
  unfolding write_number unfit miscounted bad_starts bad_labels
  fits h =
      let n = vertices g in
      let a = arcs g in
      let p = not-given (unfit g) 12 _ (omega arith) h in
      let q = not-given (miscounted g) 1 _ (omega arith) p.1 in
      let r = not-given (bad_starts g) 3 _ (omega arith) q.1 in
      let t = not-given (bad_labels g.k g.labels) 14 _ (omega arith) r.1 in
      let u = not-given (ltb places (size_of n a)) 15 0 (omega arith) t.1 in
      let numbers = or-false (out_of_range n a g.k) (unfit_choice g.ceiling) p.0 in
      let x = or-false (not (eqb (length g.weights) n)) (not (eqb (length g.starts) (n + 1)) || not (eqb a (length g.arc_weights))) q.0 in
      let y = or-false (not (eqb (length g.starts) (n + 1))) (not (eqb a (length g.arc_weights))) x.1 in
      record {
        numbers = numbers.0;
        ranged = in-range n a g.k numbers.0;
        fit = numbers.1;
        weighed = eqb-true (length g.weights) n (not-false _ x.0);
        started = eqb-true (length g.starts) (n + 1) (not-false _ y.0);
        paired = eqb-true a (length g.arc_weights) (not-false _ y.1);
        ordered = not-false (starts_ok n (rows_in g)) r.0;
        named = λ v l. ltb-true (get_or g.labels v 0) g.k (all-at n v (λ v. ltb (get_or g.labels v 0) g.k) (not-false _ t.0) l);
        roomy = ltb-false places (size_of n a) u.0;
      }

-- what the records ask is fit then
module _ (g : Given) (places : ℕ) (f : Fits g places) where
  vertices-fit : VerticesFit g.labels g.weights g.starts
  vertices-fit =
      let i = f.ranged in
      record {
        few = i.few;
        weighed = f.weighed;
        started = f.started;
        rises = start-rises (vertices g) (rows_in g) f.ordered;
        within = λ v l. (let m = start-inside (vertices g) (rows_in g) f.ordered v l in omega arith);
        named = λ v l. (let k = f.named v l in omega arith);
      }

  arcs-fit : ArcsFit g.neighbours g.arc_weights
  arcs-fit = record { few = f.ranged.few_arcs; paired = sym f.paired }

-- what the writer's steps ask of that header and of the length of the target, which is kept
module _ (g : Given) (places : ℕ) (f : Fits g places) (header : Header) (e : header ≡ header_from g) (kept : ℕ) (same : kept ≡ places) where
  pub blocks-asked : (header.n ≤ most_vertices) × (header.a ≤ most_arcs) × (size_of header.n header.a ≤ kept)
  blocks-asked = let i = f.ranged in rw (e, same) (i.few, i.few_arcs, f.roomy)

  pub vertices-asked : VerticesFit g.labels g.weights g.starts × (512 * (1 + blocks_for (vertices g)) ≤ kept)
  unfolding size_of blocks_of
  vertices-asked = let r = f.roomy in (vertices-fit g places f, omega arith)

  pub arcs-asked : ArcsFit g.neighbours g.arc_weights × (header.n ≤ most_vertices) × (size_of header.n (arcs g) ≤ kept)
  arcs-asked = let i = f.ranged in rw (e, same) (arcs-fit g places f, i.few, f.roomy)

module _ (g : Given) (t u : List ℕ) (m : ℕ) (e : m ≡ write_number g (length t)) where
  pub write-refused : (m ≡ 0 → ⊥) → u ≡ t → Written g t (record { number = m; length = 0 }) u
  unfolding write_answer write_left
  write-refused ne q =
      let f = ne_eqb (write_number g (length t)) 0 (λ z. ne (e ∙ z)) in
      record { answered = rw (f, ← e) refl; target = rw f q }

  pub write_done : (size : ℕ) → m ≡ 0 → size ≡ size_of (vertices g) (arcs g) → u ≡ over (encode new_kind (plan_from g)) t → Written g t (record { number = 0; length = size }) u
  unfolding write_answer write_left
  write_done size z es q =
      let f = eq-eqb (write_number g (length t)) 0 (sym e ∙ z) in
      let y = sym e ∙ z in
      record { answered = rw (y, ← es) refl; target = rw f q }

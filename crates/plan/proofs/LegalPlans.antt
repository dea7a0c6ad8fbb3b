-- What the writer takes and what plans are: a plan that the writer takes is legal, and every legal plan is one that it takes. Assumes nothing.
use mathlib.Core.Path.{◌≡◌, refl, sym, ap, ◌∙◌, subst}
use mathlib.Core.Bool.{Bool, true, false, not, cond, ◌&&◌}
use mathlib.Core.List.{List}
use Prim.Native.Nat.{ℕ, zero, suc, ◌+◌, ◌-◌, ◌*◌, ◌≤◌, ◌<◌}
use native.Mathlib.Omega.{arith}
use native.Mathlib.Numerals.{add-one}
use lib.ListN.{length, get_or}
use lib.Seq.{ext_get_or}
use lib.Dec.{T, ltb, eqb}
use lib.Ieee.{Float, binary64, of_bits, to_bits, fits}
use lib.Ieee.Bits.{of_bits-to_bits, to_bits-of_bits, to_bits-lt, of_bits-fits}
use borrow.Author.Tests.{eq-eqb, ne_eqb, le-ltb, lt-ltb, lt-leb, eqb-true, eqb-false, ltb-false, not-false}
use Rattle.lists.specs.Sum.{sum}
use Rattle.lists.specs.Fill.{table}
use Rattle.lists.proofs.Orders.{clash}
use Rattle.lists.proofs.Bools.{or-false}
use Rattle.lists.proofs.Sums.{sum-none, sum_more}
use Rattle.lists.proofs.Totals.{sum-ext}
use Rattle.lists.proofs.Alls.{all-every}
use Rattle.lists.proofs.Tables.{length-table, table_at, table-ext, table_of}
use Rattle.imbalance.specs.Ceiling.{zero64, legal_e, unfit_choice}
use Rattle.imbalance.specs.declared.Ceiling.{Ceiling}
use Rattle.imbalance.proofs.Choices.{fit-legal}
use Rattle.topology.proofs.Starts.{start_first, start-last, start-rises, starts-hold}
use Rattle.plan_blocks.specs.Word.{wrap}
use Rattle.plan_blocks.specs.Plan.{Plan, Legal, header_in, out_of_range, unfit_value, value_of, each_of}
use Rattle.imbalance.proofs.Patterns.{legal-number}
use Rattle.plan_blocks.proofs.Bits.{fit-whole, choice-above}
use Rattle.plan_blocks.proofs.Accepts.{in-range}
use Rattle.plan_reader.specs.Read.{starts_of, ceiling_in}
use Rattle.plan_writer.specs.Write.{Given, plan_with, plan_from, vertices, arcs, unfit, miscounted, bad_starts, bad_labels, size_of, write_number}
use Rattle.plan_writer.proofs.WriteEntry.{rows_in, Fits}

-- what the types say of what is given: each element is a u32, and so are the whole number and the number of each part; the imbalance is an f64
pub record Typed (g : Given) : Type 0 where
  pub weights : (v : ℕ) → get_or g.weights v 0 < wrap
  pub neighbours : (e : ℕ) → get_or g.neighbours e 0 < wrap
  pub arc_weights : (e : ℕ) → get_or g.arc_weights e 0 < wrap
  pub whole : g.ceiling.whole < wrap
  pub imbalance : T (fits binary64 g.ceiling.imbalance)
  pub each : (t : ℕ) → t < 16 → get_or g.ceiling.each t 0 < wrap

abbrev asks : ℕ → ℕ → Float → List ℕ → Ceiling
asks choice whole e each = record { choice = choice; whole = whole; imbalance = e; each = each }

-- there is no choice above 3
no_more : (asked : Ceiling) → unfit_choice asked ≡ false → 3 < asked.choice → ⊥
unfolding unfit_choice
no_more asked h above =
    let p = or-false (ltb 3 asked.choice) (eqb asked.choice 2 && not (legal_e asked.imbalance)) h in
    let m = ltb-false 3 asked.choice p.0 in
    omega arith

-- the value of a choice that fits
module _ (whole : ℕ) (e : Float) (each : List ℕ) (small : whole < wrap) (float : T (fits binary64 e)) where
  pub value-fit : (choice : ℕ) → unfit_choice (asks choice whole e each) ≡ false → unfit_value choice (value_of (asks choice whole e each)) ≡ false
  unfolding unfit_value value_of
  value-fit zero h = refl
  value-fit (suc zero) h = lt-leb wrap whole small
  value-fit (suc (suc zero)) h =
      let l = fit-legal (asks 2 whole e each) h refl in
      rw (of_bits-to_bits binary64 e float) (ap not (true_of (legal_e e) l))
    where
      true_of : (t : Bool) → T t → t ≡ true
      true_of true x = refl
      true_of false x = absurd x
  value-fit (suc (suc (suc zero))) h = refl
  value-fit (suc (suc (suc (suc c)))) h = absurd (no_more (asks (suc (suc (suc (suc c)))) whole e each) h (omega arith))

  pub value-eight : (choice : ℕ) → value_of (asks choice whole e each) < wrap * wrap
  unfolding value_of
  value-eight choice = go (eqb choice 1) (eqb choice 2)
    where
      go : (s t : Bool) → cond s whole (cond t (to_bits binary64 e) 0) < wrap * wrap
      go true t = omega arith
      go false true = to_bits-lt binary64 e float
      go false false = omega arith

-- the number of each part that is written, with choice 3 and with any other
module _ (asked : Ceiling) (t : ℕ) (l : t < 16) where
  pub each-written : asked.choice ≡ 3 → get_or (each_of asked) t 0 ≡ get_or asked.each t 0
  unfolding each_of
  each-written new = table_at 16 t 0 _ l ∙ rw new

  pub each-left-out : (asked.choice ≡ 3 → ⊥) → get_or (each_of asked) t 0 ≡ 0
  unfolding each_of
  each-left-out other = table_at 16 t 0 _ l ∙ rw (ne_eqb asked.choice 3 other)

-- there are sixteen of them, and each is a u32
each-sixteen : (asked : Ceiling) → length (each_of asked) ≡ 16
unfolding each_of
each-sixteen asked = length-table 16 _

each_fits : (asked : Ceiling) → ((t : ℕ) → t < 16 → get_or asked.each t 0 < wrap) → (t : ℕ) → t < 16 → get_or (each_of asked) t 0 < wrap
each_fits asked typed t l = go (eqb asked.choice 3) refl
  where
    go : (b : Bool) → eqb asked.choice 3 ≡ b → get_or (each_of asked) t 0 < wrap
    go true e = rw (each-written asked t l (eqb-true asked.choice 3 e)) (typed t l)
    go false e = rw (each-left-out asked t l (eqb-false asked.choice 3 e)) (omega arith)

-- rows' lengths sum to the last start
pub telescope : (starts : List ℕ) (n m : ℕ) → ((v : ℕ) → v < n → get_or starts v 0 ≤ get_or starts (v + 1) 0) → m ≤ n → sum m (λ v. get_or starts (v + 1) 0 - get_or starts v 0) + get_or starts 0 0 ≡ get_or starts m 0
unfolding sum
telescope starts n zero h l = omega arith
telescope starts n (suc m) h l =
    let i = telescope starts n m h (omega arith) in
    let r = h m (omega arith) in
    rw (← add-one m) (omega arith)

-- A PLAN THAT THE WRITER TAKES is legal
pub legal-given : (g : Given) (places : ℕ) → Typed g → Fits g places → Legal (plan_from g)
unfolding plan_with
legal-given g places t f =
    let n = vertices g in
    let d : ℕ → ℕ = λ v. get_or g.starts (v + 1) 0 - get_or g.starts v 0 in
    let z = start_first n (rows_in g) f.ordered in
    let l = start-last n (rows_in g) f.ordered in
    let s = telescope g.starts n n (start-rises n (rows_in g) f.ordered) (omega arith) in
    let e : sum n d ≡ arcs g = omega arith in
    record {
      ranged = f.numbers;
      fit = value-fit g.ceiling.whole g.ceiling.imbalance g.ceiling.each t.whole t.imbalance g.ceiling.choice f.fit;
      eight = value-eight g.ceiling.whole g.ceiling.imbalance g.ceiling.each t.whole t.imbalance g.ceiling.choice;
      sixteen = each-sixteen g.ceiling;
      each_fits = each_fits g.ceiling t.each;
      each_used = λ other i k. each-left-out g.ceiling i k other;
      weighed = f.weighed;
      labelled = refl;
      degreed = length-table n d;
      joined = refl;
      paired = sym f.paired;
      weights_fit = λ v l. t.weights v;
      labels_fit = f.named;
      degrees_sum = sum-ext n _ d (λ v l. table_at n v 0 d l) ∙ e;
      neighbours_fit = λ e l. t.neighbours e;
      arc_weights_fit = λ e l. t.arc_weights e;
    }

-- a choice with the two uses of its value, as the reader hands them over
abbrev handed_over : ℕ → ℕ → List ℕ → Ceiling
handed_over choice value each = asks choice (cond (eqb choice 1) value 0) (cond (eqb choice 2) (of_bits binary64 value) zero64) each

-- what the writer is to be given for a plan
abbrev pub given_of : Plan → Given
given_of p =
    record {
      labels = p.labels;
      weights = p.weights;
      starts = starts_of p.n p.degrees;
      neighbours = p.neighbours;
      arc_weights = p.arc_weights;
      k = p.k;
      ceiling = ceiling_in (header_in p);
    }

-- a value that fits its choice is kept
value-kept : (choice value : ℕ) (each : List ℕ) → unfit_value choice value ≡ false → value < wrap * wrap → value_of (handed_over choice value each) ≡ value
unfolding value_of unfit_value
value-kept zero value each h l = sym (eqb-true value 0 (not-false (eqb value 0) h))
value-kept (suc zero) value each h l = refl
value-kept (suc (suc zero)) value each h l = to_bits-of_bits binary64 value l (legal-number (of_bits binary64 value) (legal-two value h))
  where
    legal-two : (value : ℕ) → not (legal_e (of_bits binary64 value)) ≡ false → T (legal_e (of_bits binary64 value))
    legal-two value h = subst T (sym (not-false (legal_e (of_bits binary64 value)) h)) tt
value-kept (suc (suc (suc zero))) value each h l = sym (eqb-true value 0 (not-false (eqb value 0) h))
value-kept (suc (suc (suc (suc c)))) value each h l = clash _ (choice-above (suc (suc (suc (suc c)))) value (omega arith)) h

-- its choice fits too
choice-kept : (choice value : ℕ) (each : List ℕ) → unfit_value choice value ≡ false → unfit_choice (handed_over choice value each) ≡ false
unfolding unfit_choice unfit_value
choice-kept zero value each h = refl
choice-kept (suc zero) value each h = refl
choice-kept (suc (suc zero)) value each h = h
choice-kept (suc (suc (suc zero))) value each h = refl
choice-kept (suc (suc (suc (suc c)))) value each h = clash _ (choice-above (suc (suc (suc (suc c)))) value (omega arith)) h

imbalance-float : (choice value : ℕ) → T (fits binary64 (cond (eqb choice 2) (of_bits binary64 value) zero64))
unfolding fits
imbalance-float choice value = go (eqb choice 2)
  where
    go : (t : Bool) → T (fits binary64 (cond t (of_bits binary64 value) zero64))
    go true = of_bits-fits binary64 value
    go false = tt

module _ (p : Plan) (h : Legal p) where
  starts-at : (v : ℕ) → v ≤ p.n → get_or (starts_of p.n p.degrees) v 0 ≡ sum v (λ u. get_or p.degrees u 0)
  unfolding starts_of
  starts-at v l = table_at (p.n + 1) v 0 (λ v. sum v (λ u. get_or p.degrees u 0)) (omega arith)

  starts-long : length (starts_of p.n p.degrees) ≡ p.n + 1
  unfolding starts_of
  starts-long = length-table (p.n + 1) _

  row_is : (v : ℕ) → v < p.n → get_or (starts_of p.n p.degrees) (v + 1) 0 - get_or (starts_of p.n p.degrees) v 0 ≡ get_or p.degrees v 0
  row_is v l =
      let a = starts-at v (omega arith) in
      let b = starts-at (v + 1) (omega arith) in
      let m = sum_more v (λ u. get_or p.degrees u 0) in
      omega arith

  -- the numbers by part are kept: those that the choice does not use are 0 already
  each-kept : each_of (ceiling_in (header_in p)) ≡ p.each
  unfolding each_of
  each-kept =
      table-ext 16 _ _ (λ t l. at t l (eqb p.choice 3) refl) ∙ sym (table_of 16 0 p.each h.sixteen)
    where
      at : (t : ℕ) → t < 16 → (b : Bool) → eqb p.choice 3 ≡ b → cond b (get_or p.each t 0) 0 ≡ get_or p.each t 0
      at t l true e = refl
      at t l false e = sym (h.each_used (eqb-false p.choice 3 e) t l)

  -- EVERY LEGAL PLAN is one that the writer is given
  pub plan-given : plan_from (given_of p) ≡ p
  unfolding plan_with
  plan-given =
      λ i. record {
        n = h.labelled i;
        a = h.joined i;
        k = p.k;
        choice = p.choice;
        value = value-kept p.choice p.value p.each h.fit h.eight i;
        each = each-kept i;
        weights = p.weights;
        labels = p.labels;
        degrees = degrees-are i;
        neighbours = p.neighbours;
        arc_weights = p.arc_weights;
      }
    where
      rows : ℕ → ℕ
      rows v = get_or (starts_of p.n p.degrees) (v + 1) 0 - get_or (starts_of p.n p.degrees) v 0

      degrees-are : table (length p.labels) rows ≡ p.degrees
      degrees-are =
          ap (λ (m : ℕ). table m rows) h.labelled
          ∙ ext_get_or 0 (table p.n rows) p.degrees (length-table p.n rows ∙ sym h.degreed) (λ v l. (let e = length-table p.n rows in let m : v < p.n = omega arith in table_at p.n v 0 rows m ∙ row_is v m))

  pub typed-given : ((v : ℕ) → get_or p.weights v 0 < wrap) → ((e : ℕ) → get_or p.neighbours e 0 < wrap) → ((e : ℕ) → get_or p.arc_weights e 0 < wrap) → Typed (given_of p)
  typed-given w n a =
      record {
        weights = w;
        neighbours = n;
        arc_weights = a;
        whole = small (eqb p.choice 1) refl;
        imbalance = imbalance-float p.choice p.value;
        each = h.each_fits;
      }
    where
      small : (t : Bool) → eqb p.choice 1 ≡ t → cond t p.value 0 < wrap
      small true e = fit-whole p.choice p.value h.fit (eqb-true p.choice 1 e)
      small false e = omega arith

  pub fits-given : (places : ℕ) → size_of p.n p.a ≤ places → Fits (given_of p) places
  fits-given places r =
      let en = h.labelled in
      let ea = h.joined in
      let ranged : out_of_range (length p.labels) (length p.neighbours) p.k ≡ false = rw (en, ea) h.ranged in
      let z = starts-at 0 (omega arith) in
      let l = starts-at p.n (omega arith) in
      record {
        numbers = ranged;
        ranged = in-range (length p.labels) (length p.neighbours) p.k ranged;
        fit = choice-kept p.choice p.value p.each h.fit;
        weighed = h.weighed ∙ sym en;
        started = starts-long ∙ ap (λ (m : ℕ). m + 1) (sym en);
        paired = ea ∙ sym h.paired;
        ordered =
            starts-hold (length p.labels) (rows_in (given_of p))
            (z ∙ sum-none (λ u. get_or p.degrees u 0))
            (ap (λ (m : ℕ). get_or (starts_of p.n p.degrees) m 0) en ∙ l ∙ h.degrees_sum ∙ sym ea)
            (λ v m. (let a = starts-at v (omega arith) in let b = starts-at (v + 1) (omega arith) in let s = sum_more v (λ u. get_or p.degrees u 0) in omega arith));
        named = λ v m. h.labels_fit v (rw en at m);
        roomy = rw (en, ea) r;
      }

-- where all fits, the number is 0
pub fits-number : (g : Given) (places : ℕ) → Fits g places → write_number g places ≡ 0
unfolding write_number unfit miscounted bad_starts bad_labels
fits-number g places f =
    simp (
      f.numbers,
      f.fit,
      eq-eqb _ _ f.weighed,
      eq-eqb _ _ f.started,
      eq-eqb _ _ f.paired,
      f.ordered,
      all-every (vertices g) (λ v. ltb (get_or g.labels v 0) g.k) (λ v l. lt-ltb _ _ (f.named v l)),
      le-ltb _ _ f.roomy,
    )

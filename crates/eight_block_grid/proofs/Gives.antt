-- What the calls promise is what the rows compare. Assumes nothing.
use mathlib.Core.Path.{◌≡◌, refl, ap, ap₂, subst, ◌∙◌}
use mathlib.Core.Bool.{Bool, true, false, ◌&&◌}
use mathlib.Core.List.{List, [], ◌∷◌}
use Prim.Native.Nat.{ℕ, ◌≤◌, ◌<◌}
use native.Mathlib.Omega.{arith}
use lib.IntN.{ℤ}
use lib.Dec.{T, ltb, eqb}
use lib.ListN.{get_or, get_or-eq_default}
use borrow.Author.Tests.{ltb-true, ltb-false}
use Rattle.std.specs.Cmp.Lexicographic.{pointwise}
use Rattle.std.specs.Ordering.{int_eq}
use Rattle.lists.specs.Sum.{sum, total}
use Rattle.lists.specs.All.{all, all_from, any, any_from}
use Rattle.lists.specs.Fill.{written, table}
use Rattle.imbalance.specs.Limit.{most_weight, heavy, label_above}
use Rattle.imbalance.specs.Load.{part, load}
use Rattle.imbalance.proofs.Limits.{label-most}
use Rattle.topology.specs.Rule.{misfit, oversize, starts_ok, arc_ok, rows_ok, has_arc, answered, rows_number, graph_number, Rows}
use Rattle.topology.proofs.Numbers as Numbers
use Rattle.fiduccia_mattheyses_pass.specs.inner.Standing.{fresh_gains}
use Rattle.eight_block_grid.proofs.Alikes.{numbers-same, gains-same}
use Rattle.eight_block_grid.proofs.Cuts as Cuts
use Rattle.eight_block_grid.specs.TenRows.{gains_in_a, eight_gains}
use lib.Ieee.{binary64, of_bits, le}
use Rattle.imbalance.specs.Ceiling.{zero64, legal_e, unfit_choice, ceiling_of}
use Rattle.imbalance.specs.declared.Ceiling.{Ceiling}
use Rattle.imbalance.specs.Number.{loads_answer}
use Rattle.imbalance.specs.declared.LoadsAnswer.{LoadsAnswer}
use Rattle.topology.specs.Number.{edge_cut_answer, lambda_cut_answer}
use Rattle.topology.specs.declared.CutAnswer.{CutAnswer}
use Rattle.topology.specs.EightBlockGrid.{grid, ones, A}
use Rattle.fiduccia_mattheyses.specs.Run.{run}
use Rattle.fiduccia_mattheyses.specs.Entry as FM
use Rattle.fiduccia_mattheyses.specs.declared.Report as FMReport
use Rattle.fiduccia_mattheyses_records.specs.Own.{Lists, RefinedWith}
use Rattle.kernighan_lin.specs.Entry as KL
use Rattle.kernighan_lin.specs.declared.Report as KLReport
use Rattle.arc_swap.specs.Entry as Swap
use Rattle.arc_swap.specs.declared.Report as SwapReport
use Rattle.eight_block_grid.specs.Inputs.{zeros, no_gains, quarter, asked, fm_plan, fm_lists, kl_plan, kl_lent, swap_plan, swap_lent, totals_lists}
use Rattle.eight_block_grid.specs.SelfTest.{same, same_gains, row3, cuts_seen, loads_seen, fm_seen, kl_seen, swap_seen, six_tenths, two_twenty_eight, two, ceilings_seen, totals, rounds, cuts_give, loads_give, fm_gives, kl_gives, swap_gives}

-- 0.25, as the code has it
pub quarter-is : of_bits binary64 0x3fd0_0000_0000_0000 ≡ quarter
unfolding of_bits
quarter-is = refl

-- the gains of a list of zeros, written one by one, are those of row 3
pub gains_are : fresh_gains grid A (no_gains 8) ≡ gains_in_a
unfolding written table
gains_are = refl

pub gains-compared : (gains : List ℤ) (b : Bool) → gains ≡ fresh_gains grid A (no_gains 8) → b ≡ pointwise int_eq gains eight_gains → b ≡ row3
gains-compared gains b e s = s ∙ gains-same gains eight_gains ∙ ap (λ (gs : List ℤ). same_gains gs eight_gains) (e ∙ gains_are)

-- the second of two tests, made only where the first holds
pub then-and : {x : Bool} (y : Bool) → x ≡ true → y ≡ (x && y)
then-and y e = rw e refl

pub else-and : {x : Bool} (y : Bool) → x ≡ false → x ≡ (x && y)
else-and y e = rw e refl

pub cuts-give : (labels numbers ns : List ℕ) (edge lambda : CutAnswer) (b : Bool) → edge ≡ edge_cut_answer grid labels → lambda ≡ lambda_cut_answer grid ones labels → ns ≡ cuts_seen edge lambda → b ≡ pointwise eqb ns numbers → b ≡ cuts_give labels numbers
unfolding cuts_give
cuts-give labels numbers ns edge lambda b e l m s = s ∙ numbers-same ns numbers ∙ ap (λ (ms : List ℕ). same ms numbers) (m ∙ ap₂ cuts_seen e l)

pub loads-give : (numbers ns : List ℕ) (r : LoadsAnswer) (b : Bool) → r ≡ loads_answer ones A → ns ≡ loads_seen r → b ≡ pointwise eqb ns numbers → b ≡ loads_give numbers
unfolding loads_give
loads-give numbers ns r b e m s = s ∙ numbers-same ns numbers ∙ ap (λ (ms : List ℕ). same ms numbers) (m ∙ ap loads_seen e)

-- the totals are 5 and 75
pub totals-are : totals.loads.at ≡ 5 ∷ 75 ∷ zeros 14
unfolding FM.answer FM.report_of FM.number_of FM.unfit FM.short unfit_choice label_above graph_number rows_number misfit oversize rows_ok starts_ok arc_ok has_arc answered heavy all all_from any any_from run load sum table total
totals-are = refl

-- 0.0, as the code has it
pub zero_is : of_bits binary64 0 ≡ zero64
unfolding of_bits
zero_is = refl

-- what the call answers, on the ceiling z
abbrev totals_plan_by : Ceiling → FM.Given
totals_plan_by z =
    record {
      starts = grid.starts;
      neighbours = grid.neighbours;
      arcs = grid.weights;
      weights = 5 ∷ 75 ∷ zeros 6;
      settings = record { passes = 0; moves = 0; bad = 0; ceiling = z };
    }

pub totals-called : (z : Ceiling) (r : FMReport.Report) (k : Lists) → z ≡ asked 0 (of_bits binary64 0) → RefinedWith 8 (totals_plan_by z) totals_lists r k → r ≡ totals
totals-called z r k q h = (subst (λ (w : Ceiling). RefinedWith 8 (totals_plan_by w) totals_lists r k) (q ∙ ap (asked 0) zero_is) h).answered

-- each total is within its limit, and each e is legal
pub ceiling-asked : (r : FMReport.Report) → r ≡ totals → (get_or r.loads.at 0 0 ≤ most_weight) × (get_or r.loads.at 1 0 ≤ most_weight)
ceiling-asked r e = rw (e, totals-are) (omega arith)

pub legal-imbalances : T (legal_e six_tenths) × T (legal_e two_twenty_eight) × T (legal_e two)
unfolding legal_e le of_bits
legal-imbalances = (tt, tt, tt)

pub rounded : (r : FMReport.Report) (x y z : ℕ) (b : Bool) → r ≡ totals →
    x ≡ ceiling_of (get_or r.loads.at 0 0) 2 six_tenths → y ≡ ceiling_of (get_or r.loads.at 1 0) 2 two_twenty_eight → z ≡ ceiling_of (get_or r.loads.at 0 0) 3 two →
    b ≡ pointwise eqb (x ∷ y ∷ z ∷ []) (4 ∷ 122 ∷ 5 ∷ []) → b ≡ rounds
unfolding rounds
rounded r x y z b e p q s t =
    t
    ∙ numbers-same (x ∷ y ∷ z ∷ []) (4 ∷ 122 ∷ 5 ∷ [])
    ∙ ap (λ (ns : List ℕ). same ns (4 ∷ 122 ∷ 5 ∷ [])) ((λ i. p i ∷ q i ∷ s i ∷ []) ∙ ap ceilings_seen e)

-- FM's plan with this bad limit and this ceiling
abbrev fm_plan_by : ℕ → Ceiling → FM.Given
fm_plan_by bad z =
    record {
      starts = grid.starts;
      neighbours = grid.neighbours;
      arcs = grid.weights;
      weights = ones;
      settings = record { passes = 64; moves = 8; bad = bad; ceiling = z };
    }

-- Of a refiner: its promise, the numbers seen, and the two comparisons, of the labels first.
pub fm-gives : (choice bad : ℕ) (labels numbers ns : List ℕ) (z : Ceiling) (r : FMReport.Report) (k : Lists) (x y b : Bool) →
    z ≡ asked choice (of_bits binary64 0x3fd0_0000_0000_0000) → RefinedWith 8 (fm_plan_by bad z) fm_lists r k →
    ns ≡ fm_seen r k.made k.rewound → x ≡ pointwise eqb k.labels labels → y ≡ pointwise eqb ns numbers →
    b ≡ (x && y) → b ≡ fm_gives choice bad labels numbers
unfolding fm_gives
fm-gives choice bad labels numbers ns z r k x y b q h m s t j =
    let g : RefinedWith 8 (fm_plan choice bad) fm_lists r k = subst (λ (w : Ceiling). RefinedWith 8 (fm_plan_by bad w) fm_lists r k) (q ∙ ap (asked choice) quarter-is) h in
    j
    ∙ ap₂ ◌&&◌
    (s ∙ numbers-same k.labels labels ∙ ap (λ (ls : List ℕ). same ls labels) g.labels)
    (t ∙ numbers-same ns numbers ∙ ap (λ (ms : List ℕ). same ms numbers) (m ∙ (λ i. fm_seen (g.answered i) (g.made i) (g.rewound i))))

pub kl-gives : (start : List ℕ) (swaps bad : ℕ) (labels numbers ns : List ℕ) (r : KLReport.Report) (k : KL.Lent) (x y b : Bool) →
    KL.Refined (kl_plan swaps bad) (kl_lent start) r k →
    ns ≡ kl_seen r → x ≡ pointwise eqb k.labels labels → y ≡ pointwise eqb ns numbers →
    b ≡ (x && y) → b ≡ kl_gives start swaps bad labels numbers
unfolding kl_gives
kl-gives start swaps bad labels numbers ns r k x y b g m s t j =
    j
    ∙ ap₂ ◌&&◌
    (s ∙ numbers-same k.labels labels ∙ ap (λ (ls : List ℕ). same ls labels) g.labels)
    (t ∙ numbers-same ns numbers ∙ ap (λ (ms : List ℕ). same ms numbers) (m ∙ ap kl_seen g.answered))

-- arc-swap's plan with this ceiling
abbrev swap_plan_by : Ceiling → Swap.Given
swap_plan_by z =
    record {
      starts = grid.starts;
      neighbours = grid.neighbours;
      arcs = grid.weights;
      weights = ones;
      settings = record { ceiling = z };
    }

pub swap-gives : (labels numbers ns : List ℕ) (z : Ceiling) (r : SwapReport.Report) (k : Swap.Lent) (x y b : Bool) →
    z ≡ asked 2 (of_bits binary64 0x3fd0_0000_0000_0000) → Swap.Refined (swap_plan_by z) swap_lent r k →
    ns ≡ swap_seen r k → x ≡ pointwise eqb k.labels labels → y ≡ pointwise eqb ns numbers →
    b ≡ (x && y) → b ≡ swap_gives labels numbers
unfolding swap_gives
swap-gives labels numbers ns z r k x y b q h m s t j =
    let g : Swap.Refined swap_plan swap_lent r k = subst (λ (w : Ceiling). Swap.Refined (swap_plan_by w) swap_lent r k) (q ∙ ap (asked 2) quarter-is) h in
    j
    ∙ ap₂ ◌&&◌
    (s ∙ numbers-same k.labels labels ∙ ap (λ (ls : List ℕ). same ls labels) g.labels)
    (t ∙ numbers-same ns numbers ∙ ap (λ (ms : List ℕ). same ms numbers)
    (m ∙ (λ i. (g.answered i).number ∷ (g.answered i).end ∷ (g.answered i).passes ∷ (g.answered i).first ∷ (g.answered i).last
    ∷ get_or (g.answered i).loads.at 0 0 ∷ get_or (g.answered i).loads.at 1 0
    ∷ (g.run i).attempts ∷ (g.run i).moves ∷ (g.run i).no_gain ∷ (g.run i).bad_balance ∷ [])))

-- Nothing differs: each comparison holds, by the ten rows and by working the three ceilings out. Assumes nothing.
use mathlib.Core.Path.{◌≡◌, refl, ap, ap₂, ◌∙◌}
use mathlib.Core.Bool.{Bool, true, not, cond, ◌&&◌}
use mathlib.Core.List.{List}
use Prim.Native.Nat.{ℕ}
use lib.IntN.{ℤ}
use lib.Dec.{ltb}
use lib.ListN.{length, replicate}
use Rattle.std.specs.Prelude.{Option, Some, None}
use Rattle.std.specs.List.{position_or_len}
use lib.Ieee.{add, div, of_int, mul, of_bits}
use Rattle.lists.specs.All.{all}
use Rattle.imbalance.specs.Ceiling.{ceiling_of, limit_of}
use Rattle.imbalance.specs.Number.{loads_answer}
use Rattle.imbalance.specs.declared.LoadsAnswer.{LoadsAnswer}
use Rattle.topology.specs.Number.{edge_cut_answer, lambda_cut_answer}
use Rattle.topology.specs.declared.CutAnswer.{CutAnswer}
use Rattle.topology.specs.EightBlockGrid.{grid, ones, A}
use Rattle.fiduccia_mattheyses.specs.Entry as FM
use Rattle.fiduccia_mattheyses.specs.declared.Report as FMReport
use Rattle.kernighan_lin.specs.Entry as KL
use Rattle.kernighan_lin.specs.declared.Report as KLReport
use Rattle.arc_swap.specs.Entry as Swap
use Rattle.arc_swap.specs.declared.Report as SwapReport
use Rattle.eight_block_grid.specs.Inputs.{fm_plan, fm_lent, kl_plan, kl_lent, swap_plan, swap_lent}
use Rattle.eight_block_grid.specs.TenRows.{TenRows, eight_gains}
use Rattle.eight_block_grid.specs.SelfTest.{alike, same, same_gains, cuts_seen, loads_seen, fm_seen, kl_seen, swap_seen, cuts_give, loads_give, fm_gives, kl_gives, swap_gives, row1, row2, row3, row4, row5, row6, row7, row8, row9, row10, rounds, first_differing}
use Rattle.eight_block_grid.proofs.Gives.{totals-are}

cuts-hold : (labels numbers : List ℕ) (x y : CutAnswer) → edge_cut_answer grid labels ≡ x → lambda_cut_answer grid ones labels ≡ y → same (cuts_seen x y) numbers ≡ true → cuts_give labels numbers ≡ true
unfolding cuts_give
cuts-hold labels numbers x y e l h = ap₂ (λ (u v : CutAnswer). same (cuts_seen u v) numbers) e l ∙ h

loads-hold : (numbers : List ℕ) (x : LoadsAnswer) → loads_answer ones A ≡ x → same (loads_seen x) numbers ≡ true → loads_give numbers ≡ true
unfolding loads_give
loads-hold numbers x e h = ap (λ (u : LoadsAnswer). same (loads_seen u) numbers) e ∙ h

fm-holds : (choice bad : ℕ) (labels numbers : List ℕ) (r : FMReport.Report) (k : FM.Lent) → FM.answer (fm_plan choice bad) fm_lent ≡ r → FM.left (fm_plan choice bad) fm_lent ≡ k → (same k.labels labels && same (fm_seen r k.made k.rewound) numbers) ≡ true → fm_gives choice bad labels numbers ≡ true
unfolding fm_gives
fm-holds choice bad labels numbers r k e l h = ap₂ (λ (u : FMReport.Report) (v : FM.Lent). same v.labels labels && same (fm_seen u v.made v.rewound) numbers) e l ∙ h

kl-holds : (start : List ℕ) (swaps bad : ℕ) (labels numbers : List ℕ) (r : KLReport.Report) (k : KL.Lent) → KL.answer (kl_plan swaps bad) (kl_lent start) ≡ r → KL.left (kl_plan swaps bad) (kl_lent start) ≡ k → (same k.labels labels && same (kl_seen r) numbers) ≡ true → kl_gives start swaps bad labels numbers ≡ true
unfolding kl_gives
kl-holds start swaps bad labels numbers r k e l h = ap₂ (λ (u : KLReport.Report) (v : KL.Lent). same v.labels labels && same (kl_seen u) numbers) e l ∙ h

swap_holds : (labels numbers : List ℕ) (r : SwapReport.Report) (k : Swap.Lent) → Swap.answer swap_plan swap_lent ≡ r → Swap.left swap_plan swap_lent ≡ k → (same k.labels labels && same (swap_seen r k) numbers) ≡ true → swap_gives labels numbers ≡ true
unfolding swap_gives
swap_holds labels numbers r k e l h = ap₂ (λ (u : SwapReport.Report) (v : Swap.Lent). same v.labels labels && same (swap_seen u v) numbers) e l ∙ h

-- the three ceilings, worked out
pub rounds-hold : rounds ≡ true
unfolding rounds alike all ceiling_of limit_of add div of_int mul of_bits
rounds-hold = rw totals-are refl

module _ (t : TenRows) where
  pub holds-1 : row1 ≡ true
  unfolding alike all
  holds-1 = ap₂ ◌&&◌ (cuts-hold _ _ _ _ t.row_1.0 t.row_1.1 refl) (loads-hold _ _ t.row_1.2 refl)

  pub holds-2 : row2 ≡ true
  unfolding alike all
  holds-2 = cuts-hold _ _ _ _ t.row_2.0 t.row_2.1 refl

  pub holds-3 : row3 ≡ true
  unfolding alike all
  holds-3 = ap (λ (gs : List ℤ). same_gains gs eight_gains) t.row_3

  pub holds-4 : row4 ≡ true
  unfolding alike all
  holds-4 = fm-holds _ _ _ _ _ _ t.row_4.1 t.row_4.2 refl

  pub holds-5 : row5 ≡ true
  unfolding alike all
  holds-5 = fm-holds _ _ _ _ _ _ t.row_5.0 t.row_5.1 refl

  pub holds-6 : row6 ≡ true
  unfolding alike all
  holds-6 = fm-holds _ _ _ _ _ _ t.row_6.0 t.row_6.1 refl

  pub holds-7 : row7 ≡ true
  unfolding alike all
  holds-7 = kl-holds _ _ _ _ _ _ _ t.row_7.0 t.row_7.1 refl

  pub holds-8 : row8 ≡ true
  unfolding alike all
  holds-8 = kl-holds _ _ _ _ _ _ _ t.row_8.0 t.row_8.1 refl

  pub holds-9 : row9 ≡ true
  unfolding alike all
  holds-9 = kl-holds _ _ _ _ _ _ _ t.row_9.0 t.row_9.1 refl

  pub holds-10 : row10 ≡ true
  unfolding alike all
  holds-10 = swap_holds _ _ _ _ t.row_10.0 t.row_10.1 refl

  -- "These ten are proved together": so none differs
  pub none_differs : first_differing ≡ 0
  unfolding first_differing
  none_differs = rw (holds-1, holds-2, holds-3, holds-4, holds-5, holds-6, holds-7, holds-8, holds-9, holds-10, rounds-hold) refl

-- where all of them hold, no place of one that does not is found
pub none-found : (rows : List Bool) (r : Option ℕ) → r ≡ cond (ltb (position_or_len not rows) (length rows)) (Some (position_or_len not rows)) None → rows ≡ replicate 11 true → r ≡ None
none-found rows r e h = e ∙ (rw h refl)

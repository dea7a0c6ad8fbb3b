-- The ten rows of the eight-block grid as one statement, over what the calls are defined to answer and to leave (document 01, "The eight-block grid").
use Rattle.std.specs.Prelude.{◌≡◌, List, [], ◌∷◌, ℕ, ◌-◌, ℤ, pos, negsuc, replicate}
use Rattle.lists.specs.Fill.{table, over}
use Rattle.imbalance.specs.Load.{part}
use Rattle.imbalance.specs.Number.{loads_answer}
use Rattle.imbalance.specs.declared.Loads.{Loads}
use Rattle.topology.specs.Graph.{gain}
use Rattle.topology.specs.Number.{edge_cut_answer, lambda_cut_answer}
use Rattle.topology.specs.EightBlockGrid.{grid, ones, A, B}
use Rattle.fiduccia_mattheyses.specs.Entry as FM
use Rattle.fiduccia_mattheyses_records.specs.Own.{blank}
use Rattle.kernighan_lin.specs.Entry as KL
use Rattle.arc_swap.specs.Entry as Swap
use Rattle.eight_block_grid.specs.Inputs.{zeros, no_gains, fm_plan, fm_lent, kl_plan, kl_lent, swap_plan, swap_lent}

-- "loads 4 and 4", and none in the fourteen other places
abbrev pub four_four : Loads
four_four = record { at = 4 ∷ 4 ∷ zeros 14 }

-- the gain of each vertex of A to the other part
abbrev pub gains_in_a : List ℤ
gains_in_a = table 8 (λ v. gain grid A v (1 - part A v))

-- "-2, 1, 1, -2, 0, 3, 3, 0"
abbrev pub eight_gains : List ℤ
eight_gains = negsuc 1 ∷ pos 1 ∷ pos 1 ∷ negsuc 1 ∷ pos 0 ∷ pos 3 ∷ pos 3 ∷ pos 0 ∷ []

-- "0,0,0,1,0,1,1,1"
abbrev pub labels8 : List ℕ
labels8 = 0 ∷ 0 ∷ 0 ∷ 1 ∷ 0 ∷ 1 ∷ 1 ∷ 1 ∷ []

-- what FM leaves: the labels, the moves made and the moves rewound of its passes, and zeros everywhere else
abbrev pub fm_left : List ℕ → List ℕ → List ℕ → FM.Lent
fm_left labels made rewound =
    record { labels = labels; gains = no_gains 8; moves = blank 8; made = over made (zeros 64); rewound = over rewound (zeros 64) }

pub record TenRows : Type 0 where
  -- "1. A: cut 6, lambda 6, loads 4 and 4."
  pub row_1 : (edge_cut_answer grid A ≡ record { number = 0; cut = 6 }) × (lambda_cut_answer grid ones A ≡ record { number = 0; cut = 6 }) × (loads_answer ones A ≡ record { number = 0; loads = four_four })
  -- "2. B: cut 2, lambda 4."
  pub row_2 : (edge_cut_answer grid B ≡ record { number = 0; cut = 2 }) × (lambda_cut_answer grid ones B ≡ record { number = 0; cut = 4 })
  -- "3. Gains in A: -2, 1, 1, -2, 0, 3, 3, 0."
  pub row_3 : gains_in_a ≡ eight_gains
  -- "4. FM on A, e = 0.25 (ceiling 5), bad limit 0, P = 64, moves 8: B, rows 2/0 and 0/0, end 1."
  pub row_4 : ((FM.terms_of (fm_plan 2 0) fm_lent).ceilings ≡ replicate 16 5) × (FM.answer (fm_plan 2 0) fm_lent ≡ record { number = 0; end = 1; passes = 2; first = 6; last = 2; loads = four_four }) × (FM.left (fm_plan 2 0) fm_lent ≡ fm_left B (2 ∷ 0 ∷ []) (0 ∷ 0 ∷ []))
  -- "5. Same, bad limit 1: B, rows 3/1 and 1/1."
  pub row_5 : (FM.answer (fm_plan 2 1) fm_lent ≡ record { number = 0; end = 1; passes = 2; first = 6; last = 2; loads = four_four }) × (FM.left (fm_plan 2 1) fm_lent ≡ fm_left B (3 ∷ 1 ∷ []) (1 ∷ 1 ∷ []))
  -- "6. Carried ceiling: A, row 0/0."
  pub row_6 : (FM.answer (fm_plan 0 0) fm_lent ≡ record { number = 0; end = 1; passes = 1; first = 6; last = 6; loads = four_four }) × (FM.left (fm_plan 0 0) fm_lent ≡ fm_left A (0 ∷ []) (0 ∷ []))
  -- "7. KL on A, P 1, swap limit 1, bad limit 1: B."
  pub row_7 : (KL.answer (kl_plan 1 1) (kl_lent A) ≡ record { number = 0; end = 0; passes = 1; first = 6; last = 2 }) × (KL.left (kl_plan 1 1) (kl_lent A) ≡ kl_lent B)
  -- "8. KL on B, the same: 0,0,0,1,0,1,1,1, cut 4."
  pub row_8 : (KL.answer (kl_plan 1 1) (kl_lent B) ≡ record { number = 0; end = 1; passes = 1; first = 2; last = 4 }) × (KL.left (kl_plan 1 1) (kl_lent B) ≡ kl_lent labels8)
  -- "9. KL on B, P 1, bad limit 0: B, end 1."
  pub row_9 : (KL.answer (kl_plan 8 0) (kl_lent B) ≡ record { number = 0; end = 1; passes = 1; first = 2; last = 2 }) × (KL.left (kl_plan 8 0) (kl_lent B) ≡ kl_lent B)
  -- "10. Arc-swap on A, e = 0.25, stack 8: B; passes 2, attempts 12, moves 4, no-gain 7, bad-balance 1."
  pub row_10 :
      (Swap.answer swap_plan swap_lent ≡ record { number = 0; end = 1; passes = 2; first = 6; last = 2; loads = four_four })
      × (Swap.left swap_plan swap_lent ≡ record { labels = B; stack = zeros 8; run = record { attempts = 12; moves = 4; no_gain = 7; bad_balance = 1 } })

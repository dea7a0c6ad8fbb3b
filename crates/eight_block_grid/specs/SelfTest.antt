-- The self-test: the number of the first row of the eight-block grid that differs, 11 where the ceilings do, else 0 (document 01, "The eight-block grid" and "Ceiling").
use Rattle.std.specs.Prelude.{◌≡◌, Bool, not, cond, ◌&&◌, List, [], ◌∷◌, ℕ, ℤ, pos, length, get_or, eqb, Float}
use Rattle.std.specs.Int.Signed.{le_z}
use Rattle.std.specs.Float.{binary64}
use Rattle.std.specs.Float.Ieee.{of_bits}
use Rattle.lists.specs.All.{all}
use Rattle.imbalance.specs.Ceiling.{zero64, ceiling_of}
use Rattle.imbalance.specs.Number.{loads_answer}
use Rattle.imbalance.specs.declared.LoadsAnswer.{LoadsAnswer}
use Rattle.topology.specs.Number.{edge_cut_answer, lambda_cut_answer}
use Rattle.topology.specs.declared.CutAnswer.{CutAnswer}
use Rattle.topology.specs.EightBlockGrid.{grid, ones, A, B}
use Rattle.fiduccia_mattheyses.specs.Entry as FM
use Rattle.fiduccia_mattheyses.specs.declared.Report as FMReport
use Rattle.fiduccia_mattheyses_records.specs.Own.{lent_with}
use Rattle.kernighan_lin.specs.Entry as KL
use Rattle.kernighan_lin.specs.declared.Report as KLReport
use Rattle.arc_swap.specs.Entry as Swap
use Rattle.arc_swap.specs.declared.Report as SwapReport
use Rattle.eight_block_grid.specs.Inputs.{fm_plan, fm_lent, kl_plan, kl_lent, swap_plan, swap_lent, totals_plan, totals_lists}
use Rattle.eight_block_grid.specs.TenRows.{gains_in_a, eight_gains, labels8}

-- two lists are of one length, and equal place by place by the test given; x is what lies past the end
unfoldable pub alike : {A : Type 0} → (A → A → Bool) → A → List A → List A → Bool
alike equal x xs ys = eqb (length xs) (length ys) && all (length xs) (λ i. equal (get_or xs i x) (get_or ys i x))

-- two lists of numbers are the same
abbrev pub same : List ℕ → List ℕ → Bool
same xs ys = alike eqb 0 xs ys

-- neither gain is above the other
abbrev pub equal_gains : ℤ → ℤ → Bool
equal_gains g h = le_z g h && le_z h g

-- two lists of gains are the same
abbrev pub same_gains : List ℤ → List ℤ → Bool
same_gains xs ys = alike equal_gains (pos 0) xs ys

-- the number and the cut of both cuts
abbrev pub cuts_seen : CutAnswer → CutAnswer → List ℕ
cuts_seen edge lambda = edge.number ∷ edge.cut ∷ lambda.number ∷ lambda.cut ∷ []

-- the number and the loads of two parts
abbrev pub loads_seen : LoadsAnswer → List ℕ
loads_seen r = r.number ∷ get_or r.loads.at 0 0 ∷ get_or r.loads.at 1 0 ∷ []

-- the number, the end, the passes, the first and the last cut, the loads of two parts; of the first two passes the moves made and the moves rewound
abbrev pub fm_seen : FMReport.Report → List ℕ → List ℕ → List ℕ
fm_seen r made rewound =
    r.number ∷ r.end ∷ r.passes ∷ r.first ∷ r.last ∷ get_or r.loads.at 0 0 ∷ get_or r.loads.at 1 0
    ∷ get_or made 0 0 ∷ get_or rewound 0 0 ∷ get_or made 1 0 ∷ get_or rewound 1 0 ∷ []

-- the number, the end, the passes, the first and the last cut
abbrev pub kl_seen : KLReport.Report → List ℕ
kl_seen r = r.number ∷ r.end ∷ r.passes ∷ r.first ∷ r.last ∷ []

-- the same, the loads of two parts, and the run's attempts, moves, no-gain and bad-balance counts
abbrev pub swap_seen : SwapReport.Report → Swap.Lent → List ℕ
swap_seen r k =
    r.number ∷ r.end ∷ r.passes ∷ r.first ∷ r.last ∷ get_or r.loads.at 0 0 ∷ get_or r.loads.at 1 0
    ∷ k.run.attempts ∷ k.run.moves ∷ k.run.no_gain ∷ k.run.bad_balance ∷ []

-- the cuts of the labels are these
unfoldable pub cuts_give : List ℕ → List ℕ → Bool
cuts_give labels numbers = same (cuts_seen (edge_cut_answer grid labels) (lambda_cut_answer grid ones labels)) numbers

-- the loads of A are these
unfoldable pub loads_give : List ℕ → Bool
loads_give numbers = same (loads_seen (loads_answer ones A)) numbers

-- FM on A, by its ceiling's choice and its bad limit, leaves these labels, and its numbers are these
unfoldable pub fm_gives : ℕ → ℕ → List ℕ → List ℕ → Bool
fm_gives choice bad labels numbers =
    let k = FM.left (fm_plan choice bad) fm_lent in
    same k.labels labels && same (fm_seen (FM.answer (fm_plan choice bad) fm_lent) k.made k.rewound) numbers

-- KL from the labels `start`, by its swap limit and its bad limit
unfoldable pub kl_gives : List ℕ → ℕ → ℕ → List ℕ → List ℕ → Bool
kl_gives start swaps bad labels numbers =
    same (KL.left (kl_plan swaps bad) (kl_lent start)).labels labels
    && same (kl_seen (KL.answer (kl_plan swaps bad) (kl_lent start))) numbers

-- arc-swap on A
unfoldable pub swap_gives : List ℕ → List ℕ → Bool
swap_gives labels numbers =
    same (Swap.left swap_plan swap_lent).labels labels
    && same (swap_seen (Swap.answer swap_plan swap_lent) (Swap.left swap_plan swap_lent)) numbers

-- each row: the call's answer compared with the document's, whose numbers stand in the order named above
abbrev pub row1 : Bool
row1 = cuts_give A (0 ∷ 6 ∷ 0 ∷ 6 ∷ []) && loads_give (0 ∷ 4 ∷ 4 ∷ [])

abbrev pub row2 : Bool
row2 = cuts_give B (0 ∷ 2 ∷ 0 ∷ 4 ∷ [])

abbrev pub row3 : Bool
row3 = same_gains gains_in_a eight_gains

abbrev pub row4 : Bool
row4 = fm_gives 2 0 B (0 ∷ 1 ∷ 2 ∷ 6 ∷ 2 ∷ 4 ∷ 4 ∷ 2 ∷ 0 ∷ 0 ∷ 0 ∷ [])

abbrev pub row5 : Bool
row5 = fm_gives 2 1 B (0 ∷ 1 ∷ 2 ∷ 6 ∷ 2 ∷ 4 ∷ 4 ∷ 3 ∷ 1 ∷ 1 ∷ 1 ∷ [])

abbrev pub row6 : Bool
row6 = fm_gives 0 0 A (0 ∷ 1 ∷ 1 ∷ 6 ∷ 6 ∷ 4 ∷ 4 ∷ 0 ∷ 0 ∷ 0 ∷ 0 ∷ [])

abbrev pub row7 : Bool
row7 = kl_gives A 1 1 B (0 ∷ 0 ∷ 1 ∷ 6 ∷ 2 ∷ [])

abbrev pub row8 : Bool
row8 = kl_gives B 1 1 labels8 (0 ∷ 1 ∷ 1 ∷ 2 ∷ 4 ∷ [])

abbrev pub row9 : Bool
row9 = kl_gives B 8 0 B (0 ∷ 1 ∷ 1 ∷ 2 ∷ 2 ∷ [])

abbrev pub row10 : Bool
row10 = swap_gives B (0 ∷ 1 ∷ 2 ∷ 6 ∷ 2 ∷ 4 ∷ 4 ∷ 12 ∷ 4 ∷ 7 ∷ 1 ∷ [])

-- The imbalances 0.6, 2.28 and 2.0, by their bits.
abbrev pub six_tenths : Float
six_tenths = of_bits binary64 0x3fe3_3333_3333_3333

abbrev pub two_twenty_eight : Float
two_twenty_eight = of_bits binary64 0x4002_3d70_a3d7_0a3d

abbrev pub two : Float
two = of_bits binary64 0x4000_0000_0000_0000

-- The ceilings of 5 over two parts with e = 0.6, of 75 over two with 2.28 and of 5 over three with 2.0 ("one rounding per operation"). Rounded to the nearest number, a tie to the even one, they are 4, 122 and 5; towards zero or down the first is 3 and the last 4, and up the second is 123.
abbrev pub ceilings_seen : FMReport.Report → List ℕ
ceilings_seen r =
    ceiling_of (get_or r.loads.at 0 0) 2 six_tenths ∷ ceiling_of (get_or r.loads.at 1 0) 2 two_twenty_eight
    ∷ ceiling_of (get_or r.loads.at 0 0) 3 two ∷ []

-- the report whose loads are the totals
abbrev pub totals : FMReport.Report
totals = FM.answer (totals_plan zero64) (lent_with 8 totals_lists)

-- the processor rounds as document 01's ceiling asks
unfoldable pub rounds : Bool
rounds = same (ceilings_seen totals) (4 ∷ 122 ∷ 5 ∷ [])

-- the number of the first row that differs, 11 where the ceilings do, else 0
unfoldable pub first_differing : ℕ
first_differing =
    cond (not row1) 1
    (cond (not row2) 2
    (cond (not row3) 3
    (cond (not row4) 4
    (cond (not row5) 5
    (cond (not row6) 6
    (cond (not row7) 7
    (cond (not row8) 8
    (cond (not row9) 9
    (cond (not row10) 10
    (cond (not rounds) 11 0))))))))))

-- THE PROMISE: the answer r is that comparison, and nothing differs
pub record Tested (r : ℕ) : Type 0 where
  pub compared : r ≡ first_differing
  pub none_differs : r ≡ 0

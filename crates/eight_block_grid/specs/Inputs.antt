-- What the rows of the eight-block grid are run on, and the lists as the self-test lends them (document 01, "The eight-block grid").
use Rattle.std.specs.Prelude.{false, List, ◌∷◌, ℕ, ℤ, pos, negsuc, replicate, Float}
use Rattle.std.specs.Float.{fin}
use Rattle.imbalance.specs.declared.Ceiling.{Ceiling}
use Rattle.topology.specs.EightBlockGrid.{grid, ones, A}
use Rattle.fiduccia_mattheyses.specs.Entry as FM
use Rattle.fiduccia_mattheyses_records.specs.Own.{Lists, lent_with}
use Rattle.kernighan_lin.specs.Entry as KL
use Rattle.arc_swap.specs.Entry as Swap

-- m zeros, as numbers and as gains
abbrev pub zeros : ℕ → List ℕ
zeros m = replicate m 0

abbrev pub no_gains : ℕ → List ℤ
no_gains m = replicate m (pos 0)

-- "e = 0.25", which is 1 times 2 to the power -2
abbrev pub quarter : Float
quarter = fin false 1 (negsuc 1)

-- what is asked of the ceiling by one of the choices that have no number for each part
abbrev pub asked : ℕ → Float → Ceiling
asked choice e = record { choice = choice; whole = 0; imbalance = e; each = zeros 16 }

-- FM: "P = 64, moves 8", by the ceiling's choice and the bad limit
abbrev pub fm_plan : ℕ → ℕ → FM.Given
fm_plan choice bad =
    record {
      starts = grid.starts;
      neighbours = grid.neighbours;
      arcs = grid.weights;
      weights = ones;
      settings = record { passes = 64; moves = 8; bad = bad; ceiling = asked choice quarter };
    }

-- FM on A: eight gains, and two row lists of 64; the function itself adds eight move records
abbrev pub fm_lists : Lists
fm_lists = record { labels = A; gains = no_gains 8; made = zeros 64; rewound = zeros 64 }

abbrev pub fm_lent : FM.Lent
fm_lent = lent_with 8 fm_lists

-- Two totals as the loads of two parts: block 0 weighs 5, block 1 75 and no other anything, and no pass is allowed
abbrev pub totals_plan : Float → FM.Given
totals_plan e =
    record {
      starts = grid.starts;
      neighbours = grid.neighbours;
      arcs = grid.weights;
      weights = 5 ∷ 75 ∷ zeros 6;
      settings = record { passes = 0; moves = 0; bad = 0; ceiling = asked 0 e };
    }

abbrev pub totals_lists : Lists
totals_lists = record { labels = 0 ∷ 1 ∷ zeros 6; gains = no_gains 8; made = zeros 1; rewound = zeros 1 }

-- KL: "P 1", by the swap limit and the bad limit
abbrev pub kl_plan : ℕ → ℕ → KL.Given
kl_plan swaps bad =
    record {
      starts = grid.starts;
      neighbours = grid.neighbours;
      arcs = grid.weights;
      weights = ones;
      settings = record { passes = 1; swaps = swaps; bad = bad };
    }

-- KL on labels: eight gains, eight locks and four swaps
abbrev pub kl_lent : List ℕ → KL.Lent
kl_lent labels = record { labels = labels; gains = no_gains 8; locks = zeros 8; swaps = zeros 4 }

-- "Arc-swap on A, e = 0.25, stack 8"
abbrev pub swap_plan : Swap.Given
swap_plan =
    record {
      starts = grid.starts;
      neighbours = grid.neighbours;
      arcs = grid.weights;
      weights = ones;
      settings = record { ceiling = asked 2 quarter };
    }

abbrev pub swap_lent : Swap.Lent
swap_lent = record { labels = A; stack = zeros 8; run = Swap.no_counts }

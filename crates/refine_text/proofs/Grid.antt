-- The text that document 01 prints in full for A with e = 0.25 ("The eight-block grid"), computed from the definition. Assumes nothing.
use mathlib.Core.Path.{◌≡◌, refl}
use mathlib.Core.Bool.{true, false}
use mathlib.Core.List.{List, [], ◌∷◌, ◌++◌}
use Prim.Native.Nat.{ℕ, ◌≤◌, ◌<◌}
use native.Mathlib.Omega.{arith}
use lib.ListN.{length, get_or, replicate}
use lib.Dec.{ltb}
use borrow.Author.Tests.{ltb-true, le-ltb}
use lib.IntN.{negsuc}
use lib.Ieee.{fin, of_bits, le, add, div, of_int, mul}
use Rattle.lists.specs.Sum.{sum, between, total}
use Rattle.lists.specs.All.{all, all_from, any, any_from}
use Rattle.lists.specs.Best.{best}
use Rattle.lists.specs.Fill.{table, written}
use Rattle.lists.proofs.Alls.{all-at}
use Rattle.imbalance.specs.Limit.{heavy, label_above}
use Rattle.imbalance.specs.Load.{load}
use Rattle.imbalance.specs.Ceiling.{legal_e, unfit_choice, ceilings, ceiling, ceiling_of, limit_of, largest}
use Rattle.topology.specs.Graph.{arcs, into, gain, joins}
use Rattle.topology.specs.Cut.{cut}
use Rattle.topology.specs.Rule.{answered, arc_ok, graph_number, has_arc, misfit, oversize, rows_number, rows_ok, starts_ok}
use Rattle.topology.specs.EightBlockGrid.{grid, ones, A}
use Rattle.fiduccia_mattheyses_choice.specs.Choice.{flip, member, worth, after, fits, allowed, better, choice}
use Rattle.fiduccia_mattheyses_pass.specs.Pass.{flips, move_on, next, walk, pass}
use Rattle.fiduccia_mattheyses.specs.Run.{run}
use Rattle.fiduccia_mattheyses.specs.Entry.{answer, left, left_by, number_of, report_of, short, unfit}
use Rattle.plan_blocks.specs.Word.{wrap}
use Rattle.plan_blocks.specs.Block.{blocks_of, blocks_for}
use Rattle.plan_blocks.specs.Plan.{Plan, Legal, out_of_range, unfit_value}
use Rattle.plan_blocks.specs.Encode.{file_word, encode}
use Rattle.plan_blocks.specs.Decode.{plan_of, file_number}
use Rattle.plan_blocks.proofs.WordLaws.{length-bytes}
use Rattle.plan_blocks.proofs.RoundTrips.{decoded, written-then-read}
use Rattle.plan_reader.specs.declared.ReadAnswer.{ReadAnswer}
use Rattle.plan_reader.specs.Read.{starts_of, header_of}
use Rattle.refine_words.specs.Text.{ascii, decimal, decimal_in, numbers, line}
use Rattle.refine_words.specs.Line.{end_line, cut_line, loads_line, passes_line, opening, pass_line, pass_lines, labels_line}
use Rattle.refine_text.specs.Refine.{beyond, ranked, input_number, two_lines, two_shown, two_text, run_text, plan_text, text_of}

-- the numbers by part, which the ceiling's choice 2 does not use
abbrev unused : List ℕ
unused = replicate 16 0

-- the header of A's plan: two parts, and the ceiling by e = 0.25
abbrev header : ReadAnswer
header =
    record {
      number = 0;
      n = 8;
      a = 20;
      k = 2;
      ceiling = record { choice = 2; whole = 0; imbalance = fin false 1 (negsuc 1); each = unused };
    }

-- the seven lines of document 01
abbrev pub printed_text : List ℕ
printed_text =
    ascii "end 1\n"
    ++ ascii "cut 6 2\n"
    ++ ascii "loads 4 4\n"
    ++ ascii "passes 2\n"
    ++ ascii "pass 2 0\n"
    ++ ascii "pass 0 0\n"
    ++ ascii "labels 0 0 1 1 0 0 1 1\n"

pub printed-in-full : run_text header grid.starts grid.neighbours grid.weights ones A ≡ printed_text
unfolding run_text two_text two_shown two_lines end_line cut_line loads_line passes_line opening pass_line pass_lines labels_line decimal decimal_in numbers line answer left left_by number_of report_of short unfit answered arc_ok graph_number has_arc misfit oversize rows_number rows_ok starts_ok joins heavy label_above legal_e of_bits le unfit_choice all all_from any any_from written run pass walk next move_on flips choice better allowed fits after worth member flip best gain into arcs cut load between sum table total ceilings ceiling largest ceiling_of limit_of add div of_int mul
printed-in-full = refl

-- A's plan: eight blocks of weight 1, ten links of weight 1 both ways, and the bits of 0.25
abbrev plan : Plan
plan =
    record {
      n = 8;
      a = 20;
      k = 2;
      choice = 2;
      value = 4598175219545276416;
      each = unused;
      weights = ones;
      labels = A;
      degrees = 2 ∷ 3 ∷ 3 ∷ 2 ∷ 2 ∷ 3 ∷ 3 ∷ 2 ∷ [];
      neighbours = grid.neighbours;
      arc_weights = grid.weights;
    }

-- the reader hands over that header and the grid's starts
pub handed-over : (header_of plan ≡ header) × (starts_of plan.n plan.degrees ≡ grid.starts)
unfolding header_of starts_of of_bits table sum
handed-over = (refl, refl)

-- every number of a list is below a bound, by one computed test
below : (n b : ℕ) (xs : List ℕ) → all n (λ v. ltb (get_or xs v 0) b) ≡ true → (v : ℕ) → v < n → get_or xs v 0 < b
below n b xs e v l = ltb-true (get_or xs v 0) b (all-at n v (λ v. ltb (get_or xs v 0) b) e l)

legal : Legal plan
unfolding out_of_range unfit_value legal_e of_bits le all sum
legal =
    record {
      ranged = refl;
      fit = refl;
      eight = omega arith;
      sixteen = refl;
      each_fits = below 16 wrap unused refl;
      each_used = λ other t l. (let h = below 16 1 unused refl t l in omega arith);
      weighed = refl;
      labelled = refl;
      degreed = refl;
      joined = refl;
      paired = refl;
      weights_fit = below 8 wrap ones refl;
      labels_fit = below 8 2 A refl;
      degrees_sum = refl;
      neighbours_fit = below 20 wrap grid.neighbours refl;
      arc_weights_fit = below 20 wrap grid.weights refl;
    }

-- the file of that plan, of either kind, is read as it
module _ (file : ℕ) (known : file ≤ 1) where
  read_back : (file_number (encode file plan) ≡ 0) × (plan_of (encode file plan) ≡ plan)
  read_back = decoded (encode file plan) plan (written-then-read plan legal file known)

  in-number : input_number (encode file plan) ≡ 0
  unfolding input_number ranked beyond encode blocks_of blocks_for
  in-number =
      let l = length-bytes 384 (file_word file plan) in
      rw (le-ltb 22016 (length (encode file plan)) (omega arith), read_back.0, read_back.1) refl

  -- "On A with e = 0.25 it prints in full": the file of A's plan gives that text
  pub file-printed-in-full : text_of (encode file plan) ≡ printed_text
  unfolding text_of plan_text
  file-printed-in-full =
      rw (in-number, read_back.1, handed-over.0, handed-over.1) printed-in-full

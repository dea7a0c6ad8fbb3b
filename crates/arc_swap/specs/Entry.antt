-- The call of arc-swap: its number, its report, and what it leaves in each lent list and in the run record (document 01, "Arc-swap" and "Numbers a call gives back").
use Rattle.std.specs.Prelude.{◌≡◌, true, false, cond, List, [], ℕ, ◌+◌, length, ltb, eqb}
use Rattle.lists.specs.Sum.{total}
use Rattle.lists.specs.Fill.{filled, table}
use Rattle.lists.specs.Number.{or_else}
use Rattle.imbalance.specs.Limit.{label_above}
use Rattle.imbalance.specs.Load.{part, load, loads_of}
use Rattle.imbalance.specs.Ceiling.{unfit_choice, largest, ceilings}
use Rattle.imbalance.specs.Number.{no_loads}
use Rattle.topology.specs.Given.{GivenWith, graph_of}
use Rattle.topology.specs.Rule.{graph_number}
use Rattle.topology.specs.Cut.{cut}
use Rattle.arc_swap.specs.declared.RunRecord.{RunRecord}
use Rattle.arc_swap.specs.declared.Settings.{Settings}
use Rattle.arc_swap.specs.declared.Report.{Report}
use Rattle.arc_swap.specs.Run.{Terms, State, Run, run}

-- what is only read
abbrev pub Given : Type 0
Given = GivenWith Settings

-- what is lent: the labels, the stack and the run record
pub record Lent : Type 0 where
  pub labels : List ℕ
  pub stack : List ℕ
  pub run : RunRecord

-- "The smallest number that applies is given; 0 only if none does." 6: a label above 15. 7: "choice 2 with e NaN, below 0 or above 64", and "7 and 12 now begin at choice 4". The stack "never gives 8".
unfoldable pub number : Given → List ℕ → ℕ
number p labels =
    or_else (graph_number (length labels) p.weights (graph_of p))
    (cond (label_above 15 labels) 6
    (cond (unfit_choice p.settings.ceiling) 7 0))

-- "k is the largest label + 1, at least 2"
unfoldable pub parts_of : List ℕ → ℕ
parts_of labels =
    let k = largest (length labels) (λ v. part labels v) + 1 in
    cond (ltb k 2) 2 k

-- what stands still during the run: k and the ceilings are worked out once, from the starting labels; every vertex may move
abbrev pub terms_of : Given → Lent → Terms
terms_of p l =
    record {
      graph = graph_of p;
      weights = p.weights;
      ceilings = ceilings (table 16 (load p.weights l.labels)) (total p.weights) (parts_of l.labels) p.settings.ceiling;
      movable = λ v. true;
      parts = parts_of l.labels;
      places = length l.stack;
    }

-- "The run record .. is lent and first zeroed"
abbrev pub no_counts : RunRecord
no_counts = record { attempts = 0; moves = 0; no_gain = 0; bad_balance = 0 }

abbrev pub begin : List ℕ → State
begin labels = record { labels = labels; stack = []; counts = no_counts; gains = []; full = false }

-- the run that the call makes: passes enough, as each but the last lowers the cut
abbrev pub run_of : Given → Lent → Run
run_of p l = run (terms_of p l) (cut (graph_of p) l.labels + 1) 0 (begin l.labels)

-- a refusal: the number, and zero in every other field
abbrev pub refused : ℕ → Report
refused number = record { number = number; end = 0; passes = 0; first = 0; last = 0; loads = no_loads }

-- "FM and arc-swap with n = 0 come before all checks: done, end 3, all else zero"
abbrev pub empty : Report
empty = record { number = 0; end = 3; passes = 0; first = 0; last = 0; loads = no_loads }

-- "Report: end, passes, first and last cut, loads of the k parts."
unfoldable pub report_of : Given → Lent → Report
report_of p l =
    record {
      number = 0;
      end = (run_of p l).end;
      passes = (run_of p l).passes;
      first = cut (graph_of p) l.labels;
      last = cut (graph_of p) (run_of p l).state.labels;
      loads = loads_of p.weights (run_of p l).state.labels;
    }

-- the stack "is zeroed whole"
unfoldable pub left_by : Given → Lent → Lent
left_by p l =
    record {
      labels = (run_of p l).state.labels;
      stack = filled 0 (length l.stack) l.stack;
      run = (run_of p l).state.counts;
    }

-- THE ANSWER
unfoldable pub answer : Given → Lent → Report
answer p l =
    cond (eqb (length l.labels) 0) empty
    (cond (eqb (number p l.labels) 0) (report_of p l)
    (refused (number p l.labels)))

-- WHAT IS LEFT: with n = 0 "nothing written but the zeroed run record"; "A refusal writes nothing anywhere"
unfoldable pub left : Given → Lent → Lent
left p l =
    cond (eqb (length l.labels) 0) (record { labels = l.labels; stack = l.stack; run = no_counts })
    (cond (eqb (number p l.labels) 0) (left_by p l)
    l)

-- THE PROMISE: of what is given p, what is lent at entry l, a report r and what is lent at exit k
pub record Refined (p : Given) (l : Lent) (r : Report) (k : Lent) : Type 0 where
  pub answered : r ≡ answer p l
  pub labels : k.labels ≡ (left p l).labels
  pub stack : k.stack ≡ (left p l).stack
  pub run : k.run ≡ (left p l).run

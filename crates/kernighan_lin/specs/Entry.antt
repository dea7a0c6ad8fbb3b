-- What a call of KL answers and leaves in each list, for every input (document 01, "KL" and "Numbers a call gives back").
use Rattle.std.specs.Prelude.{◌≡◌, Bool, true, not, cond, ◌||◌, List, ℕ, ◌/◌, length, ltb, eqb, ℤ, pos}
use Rattle.lists.specs.Sum.{sum, weigh}
use Rattle.lists.specs.All.{any}
use Rattle.lists.specs.Fill.{filled}
use Rattle.lists.specs.Number.{or_else}
use Rattle.imbalance.specs.Limit.{most_passes, label_above}
use Rattle.imbalance.specs.Load.{part}
use Rattle.topology.specs.Graph.{Graph}
use Rattle.topology.specs.Given.{GivenWith, graph_of}
use Rattle.topology.specs.Rule.{graph_number}
use Rattle.topology.specs.Cut.{cut}
use Rattle.kernighan_lin_pass.specs.Pass.{Terms}
use Rattle.kernighan_lin.specs.declared.Lengths.{Lengths}
use Rattle.kernighan_lin.specs.declared.Settings.{Settings}
use Rattle.kernighan_lin.specs.declared.Report.{Report}
use Rattle.kernighan_lin.specs.Run.{Run, run}

-- what is only read
abbrev pub Given : Type 0
Given = GivenWith Settings

-- what is lent
pub record Lent : Type 0 where
  pub labels : List ℕ
  pub gains : List ℤ
  pub locks : List ℕ
  pub swaps : List ℕ

-- some vertex has label t
unfoldable pub uses : List ℕ → ℕ → Bool
uses labels t = any (length labels) (λ v. eqb (part labels v) t)

-- how many different labels there are, of 0 to 15
unfoldable pub different : List ℕ → ℕ
different labels = sum 16 (λ t. weigh (uses labels t) 1)

-- 6: "above 15, or not exactly two different labels"
unfoldable pub mislabelled : List ℕ → Bool
mislabelled labels = label_above 15 labels || not (eqb (different labels) 2)

-- the lengths of the lent lists
abbrev pub lengths_of : Lent → Lengths
lengths_of l = record { gains = length l.gains; locks = length l.locks; swaps = length l.swaps }

-- 8: "a lent working list is too short". "Lists: gains n, locks n, swaps n/2 rounded down."
unfoldable pub short : ℕ → Lengths → Bool
short n lengths = ltb lengths.gains n || ltb lengths.locks n || ltb lengths.swaps (n / 2)

-- "The smallest number that applies is given; 0 only if none does": 7 is a "pass limit above 1,024"
unfoldable pub number_of : Graph → List ℕ → List ℕ → Lengths → ℕ → ℕ
number_of g weights labels lengths passes =
    or_else (graph_number (length labels) weights g)
    (cond (mislabelled labels) 6
    (cond (ltb most_passes passes) 7
    (cond (short (length labels) lengths) 8 0)))

-- the call's number
abbrev pub number : Given → Lent → ℕ
number p l = number_of (graph_of p) p.weights l.labels (lengths_of l) p.settings.passes

-- "First part is the label met first in the labels as given, for all passes": that of vertex 0. Today every vertex may move.
abbrev pub terms_of : Given → Lent → Terms
terms_of p l =
    record { graph = graph_of p; movable = λ v. true; first = part l.labels 0; bad_limit = p.settings.bad }

-- the run from the labels as given
unfoldable pub run_of : Given → Lent → Run
run_of p l = run (terms_of p l) p.settings.swaps p.settings.passes 0 l.labels

-- "Report: end, passes, first and last cut."
unfoldable pub report_of : Given → Lent → Report
report_of p l =
    record {
      number = 0;
      end = (run_of p l).end;
      passes = (run_of p l).passes;
      first = cut (graph_of p) l.labels;
      last = cut (graph_of p) (run_of p l).labels;
    }

-- "A refusal .. answers a zero report": zero in every field but the number
abbrev pub refused : ℕ → Report
refused k = record { number = k; end = 0; passes = 0; first = 0; last = 0 }

-- "After a done call, the gain, move, lock and swap lists hold zeros up to the needed length and are unchanged past it."
unfoldable pub left_by : Given → Lent → Lent
left_by p l =
    record {
      labels = (run_of p l).labels;
      gains = filled (pos 0) (length l.labels) l.gains;
      locks = filled 0 (length l.labels) l.locks;
      swaps = filled 0 (length l.labels / 2) l.swaps;
    }

-- THE ANSWER
unfoldable pub answer : Given → Lent → Report
answer p l = cond (eqb (number p l) 0) (report_of p l) (refused (number p l))

-- THE LISTS: "A refusal writes nothing anywhere"
unfoldable pub left : Given → Lent → Lent
left p l = cond (eqb (number p l) 0) (left_by p l) l

-- THE PROMISE: of what is given p, the lists l at entry, a report r and the lists k at exit.
pub record Refined (p : Given) (l : Lent) (r : Report) (k : Lent) : Type 0 where
  pub answered : r ≡ answer p l
  pub labels : k.labels ≡ (left p l).labels
  pub gains : k.gains ≡ (left p l).gains
  pub locks : k.locks ≡ (left p l).locks
  pub swaps : k.swaps ≡ (left p l).swaps

-- What the refine program prints, as a definition of its input (document 01, the end of "The eight-block grid").
use Rattle.std.specs.Prelude.{◌≡◌, Bool, cond, ◌&&◌, ◌||◌, List, ◌++◌, ℕ, length, take, replicate, ltb, eqb, pos}
use Rattle.lists.specs.Fill.{over}
use Rattle.imbalance.specs.Limit.{most_vertices}
use Rattle.plan_blocks.specs.Plan.{Plan}
use Rattle.plan_blocks.specs.Decode.{plan_of, file_number}
use Rattle.plan_reader.specs.declared.ReadAnswer.{ReadAnswer}
use Rattle.plan_reader.specs.Read.{starts_of, header_of}
use Rattle.fiduccia_mattheyses.specs.declared.Report.{Report as TwoReport}
use Rattle.fiduccia_mattheyses.specs.Entry.{Given as TwoGiven, Lent as TwoLent, answer as two_answer, left as two_left}
use Rattle.fiduccia_mattheyses_records.specs.Own.{Lists, lent_with}
use Rattle.arc_swap.specs.declared.RunRecord.{RunRecord}
use Rattle.arc_swap.specs.declared.Report.{Report as ManyReport}
use Rattle.arc_swap.specs.Entry.{Given as ManyGiven, Lent as ManyLent, answer as many_answer, left as many_left, parts_of, no_counts}
use Rattle.refine_words.specs.Line.{refusal, opening, pass_lines, counts_line, labels_line}

-- "The refine program reads a plan of at most 512 vertices and 2,048 arcs"
abbrev pub plan_vertices : ℕ
plan_vertices = 512

abbrev pub plan_arcs : ℕ
plan_arcs = 2048

-- no input "above 22,016 bytes" is read
abbrev pub input_bytes : ℕ
input_bytes = 22016

-- the bytes lent for the text, which always fits
abbrev pub text_bytes : ℕ
text_bytes = 16384

-- this plan has more
unfoldable pub beyond : Plan → Bool
beyond p = ltb plan_vertices p.n || ltb plan_arcs p.a

-- "12 beyond that, ranked by number": the reader's number, and 12 where that is 0 or above 12
unfoldable pub ranked : ℕ → Bool → ℕ
ranked number b = cond (b && (eqb number 0 || ltb 12 number)) 12 number

-- the number of an input: "12 unread for an input above 22,016 bytes"
unfoldable pub input_number : List ℕ → ℕ
input_number s = cond (ltb input_bytes (length s)) 12 (ranked (file_number s) (beyond (plan_of s)))

-- the lists that FM is lent: the labels, gains for 512 vertices, and two row lists of P = 64
abbrev pub two_lists : List ℕ → Lists
two_lists labels = record { labels = labels; gains = replicate plan_vertices (pos 0); made = replicate 64 0; rewound = replicate 64 0 }

-- the same with 512 move records
abbrev pub two_lent : List ℕ → TwoLent
two_lent labels = lent_with plan_vertices (two_lists labels)

-- a run of FM: the loads of its 2 parts, and a line a pass
unfoldable pub two_lines : TwoReport → List ℕ → List ℕ → List ℕ → List ℕ
two_lines r made rewound labels =
    opening r.end r.first r.last (take 2 r.loads.at) r.passes ++ pass_lines r.passes made rewound ++ labels_line labels

-- FM's text, of its report and the lists it leaves: its lines, or its refusal
unfoldable pub two_shown : TwoReport → TwoLent → List ℕ
two_shown r k = cond (eqb r.number 0) (two_lines r k.made k.rewound k.labels) (refusal r.number)

-- FM's text for what it reads and the labels
unfoldable pub two_text : TwoGiven → List ℕ → List ℕ
two_text p labels = two_shown (two_answer p (two_lent labels)) (two_left p (two_lent labels))

-- what arc-swap is lent: the labels, a "stack 4,096", and the run record
abbrev pub many_lent : List ℕ → ManyLent
many_lent labels = record { labels = labels; stack = replicate most_vertices 0; run = no_counts }

-- a run of arc-swap, "with its own k": the loads of its k parts, and its counts
unfoldable pub many_lines : ℕ → ManyReport → RunRecord → List ℕ → List ℕ
many_lines k r run labels =
    opening r.end r.first r.last (take k r.loads.at) r.passes
    ++ counts_line run.attempts run.moves run.no_gain run.bad_balance
    ++ labels_line labels

-- arc-swap's text, of its report and what it leaves: its lines, or its refusal
unfoldable pub many_shown : ℕ → ManyReport → ManyLent → List ℕ
many_shown k r left = cond (eqb r.number 0) (many_lines k r left.run left.labels) (refusal r.number)

-- arc-swap's text for what it reads and the labels
unfoldable pub many_text : ManyGiven → List ℕ → List ℕ
many_text p labels = many_shown (parts_of labels) (many_answer p (many_lent labels)) (many_left p (many_lent labels))

-- "header k = 2 runs FM with P 64, move limit n, bad limit 0"
abbrev pub two_given_by : ReadAnswer → List ℕ → List ℕ → List ℕ → List ℕ → TwoGiven
two_given_by h starts neighbours arcs weights =
    record {
      starts = starts;
      neighbours = neighbours;
      arcs = arcs;
      weights = weights;
      settings = record { passes = 64; moves = h.n; bad = 0; ceiling = h.ceiling };
    }

-- "above 2 it runs arc-swap"
abbrev pub many_given_by : ReadAnswer → List ℕ → List ℕ → List ℕ → List ℕ → ManyGiven
many_given_by h starts neighbours arcs weights =
    record {
      starts = starts;
      neighbours = neighbours;
      arcs = arcs;
      weights = weights;
      settings = record { ceiling = h.ceiling };
    }

-- the text of a header and its lists
unfoldable pub run_text : ReadAnswer → List ℕ → List ℕ → List ℕ → List ℕ → List ℕ → List ℕ
run_text h starts neighbours arcs weights labels =
    cond (eqb h.k 2) (two_text (two_given_by h starts neighbours arcs weights) labels)
    (many_text (many_given_by h starts neighbours arcs weights) labels)

-- the text of a plan, with the header as the reader hands it over
unfoldable pub plan_text : Plan → List ℕ
plan_text p = run_text (header_of p) (starts_of p.n p.degrees) p.neighbours p.arc_weights p.weights p.labels

-- THE TEXT of an input: "the reader's number comes before the refiner's"
unfoldable pub text_of : List ℕ → List ℕ
text_of s = cond (eqb (input_number s) 0) (plan_text (plan_of s)) (refusal (input_number s))

-- THE PROMISE: of an input s, the output t at entry, an answer r and the output u at exit. The text, and past its end what stood there.
pub record Printed (s t : List ℕ) (r : ℕ) (u : List ℕ) : Type 0 where
  pub answered : r ≡ length (text_of s)
  pub output : u ≡ over (text_of s) t

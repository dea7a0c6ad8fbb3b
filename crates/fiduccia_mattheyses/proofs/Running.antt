-- The passes of a run, turn by turn. Assumes nothing.
use mathlib.Core.Path.{◌≡◌, refl, sym, ap, ◌∙◌}
use mathlib.Core.Bool.{true, false}
use mathlib.Core.List.{List, [], ◌∷◌, ◌++◌, map, append_assoc}
use Prim.Native.Nat.{ℕ, suc, ◌+◌, ◌-◌, ◌≤◌, ◌<◌}
use native.Mathlib.Omega.{arith}
use lib.Dec.{ltb}
use lib.ListN.{length, get_or, set, drop, length-append, length-drop}
use lib.Seq.{drop-cons, set_at}
use lib.IntN.{ℤ}
use borrow.Author.Tests.{lt-ltb, le-ltb}
use Rattle.lists.specs.Fill.{over}
use Rattle.imbalance.specs.declared.Loads.{Loads}
use Rattle.topology.specs.Cut.{cut}
use Rattle.fiduccia_mattheyses_choice.specs.Choice.{Terms}
use Rattle.fiduccia_mattheyses_pass.specs.Pass.{Pass, pass}
use Rattle.fiduccia_mattheyses_pass.specs.declared.Move.{Move}
use Rattle.fiduccia_mattheyses_pass.specs.declared.Passed.{Passed}
use Rattle.lists.specs.declared.end.End.TheVariants.{PassLimit, NoGain}
use Rattle.fiduccia_mattheyses.specs.declared.Ended.{Ended}
use Rattle.fiduccia_mattheyses.specs.Run.{Run, run}
use Rattle.fiduccia_mattheyses_pass.specs.inner.Steps.{PassAsked, PassDone}
use Rattle.fiduccia_mattheyses.specs.inner.Steps.{RowAsked, RowDone, PassesAsked, PassesDone}

-- the rows so far, before those of the rest of the run
abbrev after-rows : List Pass → Run → Run
after-rows rows x = record { end = x.end; rows = rows ++ x.rows; labels = x.labels }

-- the run by what its first pass lowered
pub run-last : (s : Terms) (k : ℕ) (p : List ℕ) → ltb (pass s p).least (cut s.graph p) ≡ false → run s (suc k) p ≡ record { end = 1; rows = pass s p ∷ []; labels = (pass s p).labels }
unfolding run
run-last s k p e = rw (e, run)

pub run_more :
    (s : Terms) (k : ℕ) (p : List ℕ)
    → ltb (pass s p).least (cut s.graph p) ≡ true
    → run s (suc k) p ≡ record { end = (run s k (pass s p).labels).end; rows = pass s p ∷ (run s k (pass s p).labels).rows; labels = (run s k (pass s p).labels).labels }
unfolding run
run_more s k p e = rw (e, run)

-- one number more, at the next place
over-more : (xs ys : List ℕ) (k x : ℕ) → length xs ≡ k → k < length ys → set (over xs ys) k x ≡ over (xs ++ (x ∷ [])) ys
over-more xs ys k x e l =
    let a : drop (length xs) ys ≡ get_or ys k 0 ∷ drop (suc k) ys = ap (λ (i : ℕ). drop i ys) e ∙ drop-cons ys k 0 l in
    let b : length (xs ++ (x ∷ [])) ≡ suc k = length-append xs (x ∷ []) ∙ omega arith in
    ap (λ (t : List ℕ). set (xs ++ t) k x) a
    ∙ set_at xs (get_or ys k 0) (drop (suc k) ys) x k e
    ∙ sym (append_assoc xs (x ∷ []) (drop (suc k) ys))
    ∙ ap (λ (i : ℕ). (xs ++ (x ∷ [])) ++ drop i ys) (sym b)

pub over-long : (xs ys : List ℕ) → length xs ≤ length ys → length (over xs ys) ≡ length ys
over-long xs ys h = length-append xs (drop (length xs) ys) ∙ (let a = length-drop (length xs) ys in omega arith)

map_more : (f : Pass → ℕ) (xs : List Pass) (x : Pass) → map f (xs ++ (x ∷ [])) ≡ map f xs ++ (f x ∷ [])
map_more f [] x = refl
map_more f (y ∷ xs) x = ap (λ (l : List ℕ). f y ∷ l) (map_more f xs x)

map-long : (f : Pass → ℕ) (xs : List Pass) → length (map f xs) ≡ length xs
map-long f [] = refl
map-long f (x ∷ xs) = ap suc (map-long f xs)

append-none : (xs : List Pass) → xs ++ [] ≡ xs
append-none [] = refl
append-none (x ∷ xs) = ap (λ (l : List Pass). x ∷ l) (append-none xs)

-- the moves made, and those rewound, pass by pass
abbrev pub mades : List Pass → List ℕ
mades rows = map (λ (r : Pass). r.made) rows

abbrev pub rewounds : List Pass → List ℕ
rewounds rows = map (λ (r : Pass). r.rewound) rows

-- what the run knows after `passes` passes
pub record Running (s : Terms) (limit : ℕ) (p : List ℕ) (moves₀ : List Move) (made₀ rewound₀ : List ℕ) (labels : List ℕ) (gains : List ℤ) (moves : List Move) (made rewound : List ℕ) (loads : Loads) (cut₀ passes : ℕ) : Type 0 where
  pub rows : List Pass
  pub asked : PassAsked s labels gains moves loads.at cut₀
  pub long : length labels ≡ length p
  pub count : length rows ≡ passes
  pub within : passes ≤ limit
  pub made_are : made ≡ over (mades rows) made₀
  pub rewound_are : rewound ≡ over (rewounds rows) rewound₀
  pub moves_long : length moves ≡ length moves₀
  pub moves_past : drop (length p) moves ≡ drop (length p) moves₀
  pub rest : run s limit p ≡ after-rows rows (run s (limit - passes) labels)

module _ (s : Terms) (limit : ℕ) (p : List ℕ) (gains₀ : List ℤ) (moves₀ : List Move) (made₀ rewound₀ : List ℕ) (first : Loads) (cut₀ : ℕ) (a : PassesAsked s limit p gains₀ moves₀ made₀ rewound₀ first.at cut₀) where
  module _ (labels : List ℕ) (gains : List ℤ) (moves : List Move) (made rewound : List ℕ) (loads : Loads) (cut₁ passes : ℕ) (g : Running s limit p moves₀ made₀ rewound₀ labels gains moves made rewound loads cut₁ passes) where
    pub rows_long : (length made ≡ length made₀) × (length rewound ≡ length rewound₀)
    rows_long =
        let c = g.count in
        let w = g.within in
        let i = a.in_made in
        let j = a.in_rewound in
        let m = map-long (λ (r : Pass). r.made) g.rows in
        let n = map-long (λ (r : Pass). r.rewound) g.rows in
        (ap length g.made_are ∙ over-long (mades g.rows) made₀ (omega arith), ap length g.rewound_are ∙ over-long (rewounds g.rows) rewound₀ (omega arith))

    -- a pass's counts are small, and its row is in the lists
    pub row-asked : passes < limit → (labels' : List ℕ) (moves' : List Move) (r : Passed) → PassDone s labels moves labels' moves' r → RowAsked made rewound passes r.made r.kept
    row-asked lt labels' moves' r d =
        let f = d.few in
        let n = g.asked.fixed.rows.few in
        let l = rows_long in
        let l0 = l.0 in
        let l1 = l.1 in
        let i = a.in_made in
        let j = a.in_rewound in
        let k = a.few_passes in
        record { in_made = omega arith; in_rewound = omega arith; few_passes = omega arith; few = omega arith; kept_within = d.kept_within }

    -- at the pass limit
    pub running-full : limit ≤ passes → (r : Ended) → r ≡ record { end = PassLimit; passes = passes; cut = cut₁; loads = loads } → PassesDone s limit p moves₀ made₀ rewound₀ labels moves made rewound r
    unfolding run
    running-full h r e =
        let z : limit - passes ≡ 0 = omega arith in
        let t : run s limit p ≡ record { end = 0; rows = g.rows ++ []; labels = labels } = rw z at g.rest in
        let rs : (run s limit p).rows ≡ g.rows = ap (λ (x : Run). x.rows) t ∙ append-none g.rows in
        rw e
        (record {
          labelled = sym (ap (λ (x : Run). x.labels) t);
          end_is = sym (ap (λ (x : Run). x.end) t);
          passes_are = sym (ap length rs ∙ g.count);
          cut_is = g.asked.cut_is;
          loaded = g.asked.loaded;
          made_are = g.made_are ∙ ap (λ (x : List Pass). over (mades x) made₀) (sym rs);
          rewound_are = g.rewound_are ∙ ap (λ (x : List Pass). over (rewounds x) rewound₀) (sym rs);
          moves_long = g.moves_long;
          moves_past = g.moves_past;
        })

    -- one pass more
    module _ (lt : passes < limit) (labels' : List ℕ) (gains' : List ℤ) (moves' : List Move) (r : Passed) (d : PassDone s labels moves labels' moves' r) (gl : length gains' ≡ length gains) (made' rewound' : List ℕ) (next : ℕ) (w : RowDone made rewound passes r.made r.kept made' rewound' next) where
      abbrev this : Pass
      this = pass s labels

      abbrev rows' : List Pass
      rows' = g.rows ++ (this ∷ [])

      made-now : made' ≡ over (mades rows') made₀
      made-now =
          let c = g.count in
          let i = a.in_made in
          let m = map-long (λ (q : Pass). q.made) g.rows in
          w.made_are
          ∙ ap (set made passes) d.made_is
          ∙ ap (λ (l : List ℕ). set l passes this.made) g.made_are
          ∙ over-more (mades g.rows) made₀ passes this.made (m ∙ c) (omega arith)
          ∙ ap (λ (l : List ℕ). over l made₀) (sym (map_more (λ (q : Pass). q.made) g.rows this))

      rewound-now : rewound' ≡ over (rewounds rows') rewound₀
      rewound-now =
          let c = g.count in
          let i = a.in_rewound in
          let m = map-long (λ (q : Pass). q.rewound) g.rows in
          w.rewound_are
          ∙ ap (set rewound passes) d.rewound_is
          ∙ ap (λ (l : List ℕ). set l passes this.rewound) g.rewound_are
          ∙ over-more (rewounds g.rows) rewound₀ passes this.rewound (m ∙ c) (omega arith)
          ∙ ap (λ (l : List ℕ). over l rewound₀) (sym (map_more (λ (q : Pass). q.rewound) g.rows this))

      unrolled : run s limit p ≡ after-rows g.rows (run s (suc (limit - (passes + 1))) labels)
      unrolled = let z : limit - passes ≡ suc (limit - (passes + 1)) = omega arith in rw z at g.rest

      -- a pass that lowered nothing ends the run
      pub pass-ends : cut₁ ≤ r.cut → (q : Ended) → q ≡ record { end = NoGain; passes = next; cut = r.cut; loads = r.loads } → PassesDone s limit p moves₀ made₀ rewound₀ labels' moves' made' rewound' q
      pass-ends h q e =
          let k = g.asked.cut_is in
          let l = d.least_is in
          let b : ltb this.least (cut s.graph labels) ≡ false = le-ltb this.least (cut s.graph labels) (omega arith) in
          let t : run s limit p ≡ record { end = 1; rows = rows'; labels = this.labels } = unrolled ∙ ap (after-rows g.rows) (run-last s (limit - (passes + 1)) labels b) in
          let rs : (run s limit p).rows ≡ rows' = ap (λ (x : Run). x.rows) t in
          rw e
          (record {
            labelled = d.labelled ∙ sym (ap (λ (x : Run). x.labels) t);
            end_is = sym (ap (λ (x : Run). x.end) t);
            passes_are = w.passes_are ∙ sym (ap length rs ∙ length-append g.rows (this ∷ []) ∙ ap (λ (j : ℕ). j + 1) g.count);
            cut_is = d.cut_is;
            loaded = d.loaded;
            made_are = made-now ∙ ap (λ (x : List Pass). over (mades x) made₀) (sym rs);
            rewound_are = rewound-now ∙ ap (λ (x : List Pass). over (rewounds x) rewound₀) (sym rs);
            moves_long = d.moves_long ∙ g.moves_long;
            moves_past = ap (λ (i : ℕ). drop i moves') (sym g.long) ∙ d.moves_past ∙ ap (λ (i : ℕ). drop i moves) g.long ∙ g.moves_past;
          })

      -- else it goes on
      pub pass-goes-on : r.cut < cut₁ → Running s limit p moves₀ made₀ rewound₀ labels' gains' moves' made' rewound' r.loads r.cut (passes + 1)
      pass-goes-on h =
          let k = g.asked.cut_is in
          let l = d.least_is in
          let b : ltb this.least (cut s.graph labels) ≡ true = lt-ltb this.least (cut s.graph labels) (omega arith) in
          let t : run s limit p ≡ after-rows g.rows (record { end = (run s (limit - (passes + 1)) this.labels).end; rows = this ∷ (run s (limit - (passes + 1)) this.labels).rows; labels = (run s (limit - (passes + 1)) this.labels).labels }) = unrolled ∙ ap (after-rows g.rows) (run_more s (limit - (passes + 1)) labels b) in
          let ll : length labels' ≡ length labels = d.long in
          record {
            rows = rows';
            asked = record {
              fixed = rw ll g.asked.fixed;
              two_labels = d.two_labels;
              gained = gl ∙ g.asked.gained ∙ sym ll;
              places = let q = g.asked.places in let z = d.moves_long in omega arith;
              loaded = d.loaded;
              cut_is = d.cut_is;
            };
            long = ll ∙ g.long;
            count = length-append g.rows (this ∷ []) ∙ ap (λ (j : ℕ). j + 1) g.count;
            within = omega arith;
            made_are = made-now;
            rewound_are = rewound-now;
            moves_long = d.moves_long ∙ g.moves_long;
            moves_past = ap (λ (i : ℕ). drop i moves') (sym g.long) ∙ d.moves_past ∙ ap (λ (i : ℕ). drop i moves) g.long ∙ g.moves_past;
            rest =
                t
                ∙ ap (λ (z : List Pass). record { end = (run s (limit - (passes + 1)) this.labels).end; rows = z; labels = (run s (limit - (passes + 1)) this.labels).labels }) (sym (append_assoc g.rows (this ∷ []) (run s (limit - (passes + 1)) this.labels).rows))
                ∙ ap (λ (z : List ℕ). after-rows rows' (run s (limit - (passes + 1)) z)) (sym d.labelled);
          }

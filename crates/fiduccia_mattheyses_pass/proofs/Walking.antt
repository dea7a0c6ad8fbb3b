-- The walk of a pass, turn by turn: the code stands as the state says, and each move is recorded. Assumes nothing.
use mathlib.Core.Path.{◌≡◌, refl, sym, ap, ap₂, ◌∙◌}
use mathlib.Core.Bool.{Bool, true, false, cond}
use mathlib.Core.List.{List, [], ◌∷◌, ◌++◌, append_assoc}
use Prim.Native.Nat.{ℕ, suc, ◌+◌, ◌-◌, ◌≤◌, ◌<◌}
use native.Mathlib.Omega.{arith}
use lib.Dec.{ltb}
use lib.ListN.{length, get_or, set, drop, length-append, length-drop}
use lib.Seq.{drop-cons, set_at}
use lib.IntN.{ℤ}
use Rattle.imbalance.specs.Limit.{most_vertices}
use Rattle.imbalance.specs.Load.{part}
use Rattle.topology.specs.Cut.{cut}
use Rattle.fiduccia_mattheyses_choice.specs.Choice.{Terms, flip}
use Rattle.fiduccia_mattheyses_pass.specs.Pass.{State, start, move_on, walk, flips}
use Rattle.fiduccia_mattheyses_choice.specs.inner.Scan.{Scannable}
use Rattle.fiduccia_mattheyses_pass.specs.inner.Standing.{Fixed, Stands, Moveable, gains_after, standing_after}
use Rattle.fiduccia_mattheyses_pass.specs.declared.Standing.{Standing}
use Rattle.std.specs.Prelude.{Option as Maybe, None}
use Rattle.fiduccia_mattheyses_pass.specs.declared.NextMove.{NextMove}
use Rattle.fiduccia_mattheyses_pass.specs.inner.Next.{go}
use Rattle.fiduccia_mattheyses_pass.proofs.Moved.{count-few}
use Rattle.fiduccia_mattheyses_pass.proofs.Backs.{flips-more}
use Rattle.fiduccia_mattheyses_pass.proofs.Walks.{walk-stop, walk_step}
use Rattle.fiduccia_mattheyses_pass.proofs.Stands.{asked, scannable, stops, goes, Goes, moveable, places-left, stands-move}
use Rattle.fiduccia_mattheyses_pass.specs.declared.Move.{Move}
use Rattle.fiduccia_mattheyses_pass.specs.Pass.{no_move as no_move}
use Rattle.fiduccia_mattheyses_pass.specs.inner.Steps.{records, recorded, WalkAsked, WalkDone}

-- ---- the records
pub length-records : (p vs : List ℕ) → length (records p vs) ≡ length vs
unfolding records
length-records p [] = refl
length-records p (v ∷ vs) = ap suc (length-records (flip p v) vs)

records-more : (p vs : List ℕ) (v : ℕ) → records p (vs ++ (v ∷ [])) ≡ records p vs ++ (record { vertex = v; part = part (flips p vs) v } ∷ [])
unfolding records flips
records-more p [] v = refl
records-more p (u ∷ vs) v = ap (λ (l : List Move). record { vertex = u; part = part p u } ∷ l) (records-more (flip p u) vs v)

-- one record more, at the next place
recorded_more :
    (p vs : List ℕ) (moves : List Move) (v k x : ℕ)
    → length vs ≡ k
    → k < length moves
    → x ≡ part (flips p vs) v
    → set (recorded p vs moves) k (record { vertex = v; part = x }) ≡ recorded p (vs ++ (v ∷ [])) moves
recorded_more p vs moves v k x e l q =
    let r : Move = record { vertex = v; part = x } in
    let a : drop (length vs) moves ≡ get_or moves k no_move ∷ drop (suc k) moves = ap (λ (i : ℕ). drop i moves) e ∙ drop-cons moves k no_move l in
    let b : length (vs ++ (v ∷ [])) ≡ suc k = length-append vs (v ∷ []) ∙ omega arith in
    ap (λ (t : List Move). set (records p vs ++ t) k r) a
    ∙ set_at (records p vs) (get_or moves k no_move) (drop (suc k) moves) r k (length-records p vs ∙ e)
    ∙ sym (append_assoc (records p vs) (r ∷ []) (drop (suc k) moves))
    ∙ ap₂ (λ (h t : List Move). h ++ t)
    (ap (λ (y : ℕ). records p vs ++ (record { vertex = v; part = y } ∷ [])) q ∙ sym (records-more p vs v))
    (ap (λ (i : ℕ). drop i moves) (sym b))

pub recorded-long : (p vs : List ℕ) (moves : List Move) → length vs ≤ length moves → length (recorded p vs moves) ≡ length moves
recorded-long p vs moves h = length-append (records p vs) (drop (length vs) moves) ∙ (let a = length-records p vs in let b = length-drop (length vs) moves in omega arith)

-- what the walk knows after `made` moves
pub record Walking (s : Terms) (limit : ℕ) (p : List ℕ) (moves₀ : List Move) (labels : List ℕ) (gains : List ℤ) (moves : List Move) (st : Standing) (made : ℕ) : Type 0 where
  pub state : State
  pub stands : Stands s (length p) state labels gains st
  pub count : length state.moved ≡ made
  pub moved_from : state.labels ≡ flips p state.moved
  pub recorded_are : moves ≡ recorded p state.moved moves₀
  pub kept_within : state.kept ≤ made
  pub within : made ≤ limit
  pub rest : walk s (limit - made) state ≡ walk s limit (start s p)

module _ (s : Terms) (limit : ℕ) (p : List ℕ) (moves₀ : List Move) where
  pub walking_start : (gains : List ℤ) (first : Standing) → WalkAsked s p gains moves₀ first → Walking s limit p moves₀ p gains moves₀ first 0
  unfolding flips records
  walking_start gains first a = record {
    state = start s p;
    stands = a.stands;
    count = refl;
    moved_from = refl;
    recorded_are = refl;
    kept_within = omega arith;
    within = omega arith;
    rest = let r : limit - 0 ≡ limit = omega arith in rw r;
  }

  module _ (f : Fixed s (length p)) (wide : length p ≤ length moves₀) (labels : List ℕ) (gains : List ℤ) (moves : List Move) (st : Standing) (made : ℕ) (w : Walking s limit p moves₀ labels gains moves st made) where
    -- what the code is to do next
    unfoldable pub answer : Maybe NextMove
    answer = asked s (length p) f w.state labels gains st w.stands

    -- what the next move asks
    pub scanned : Scannable gains labels s.weights st.loads.at × (length s.ceilings ≡ 16) × (st.bad ≤ most_vertices)
    scanned = (
      scannable s (length p) f w.state labels gains st w.stands,
      f.capped,
      (let a = w.stands.bad_is in let b = w.stands.bad_within in let d = count-few (length p) w.state.moved w.stands.counted in let e = f.rows.few in omega arith),
    )

    -- the list of records keeps its length
    pub moves_long : length moves ≡ length moves₀
    moves_long =
        let d = count-few (length p) w.state.moved w.stands.counted in
        ap length w.recorded_are ∙ recorded-long p w.state.moved moves₀ (omega arith)

    -- the walk is at its end
    ended : w.state ≡ walk s limit (start s p) → WalkDone s p moves₀ (walk s limit (start s p)) labels gains moves made st
    ended e = rw (← e) (record {
      stands = w.stands;
      moved_from = w.moved_from;
      recorded_are = w.recorded_are;
      made_is = sym w.count;
      kept_within = let a = w.count in let b = w.kept_within in omega arith;
    })

    pub walking-full : limit ≤ made → WalkDone s p moves₀ (walk s limit (start s p)) labels gains moves made st
    unfolding walk
    walking-full h = ended (let r : limit - made ≡ 0 = omega arith in rw r at w.rest)

    pub walking-stop : (r : Maybe NextMove) → r ≡ answer → r ≡ None → WalkDone s p moves₀ (walk s limit (start s p)) labels gains moves made st
    unfolding answer
    walking-stop r e q =
        ended (sym (walk-stop s (limit - made) w.state (stops s (length p) f w.state labels gains st w.stands (sym e ∙ q))) ∙ w.rest)

    module _ (r : Maybe NextMove) (v : ℕ) (g : ℤ) (b : ℕ) (e : r ≡ answer) (q : r ≡ go v g b) where
      pub going : Goes s (length p) w.state labels v g b
      unfolding answer
      going = goes s (length p) f w.state labels gains st w.stands v g b (sym e ∙ q)

      -- what the move asks, and the room for its record
      pub move-asked : Moveable s.graph gains labels s.weights st v g
      move-asked = moveable s (length p) f w.state labels gains st w.stands v g b going

      pub move-places : (v < length labels) × (v ≤ most_vertices) × (made < length moves)
      move-places =
          let a = going.here in
          let long = w.stands.long in
          let few = f.rows.few in
          let rm = places-left s (length p) f w.state labels gains st w.stands v g b going in
          let c = w.count in
          let m = ap length w.recorded_are ∙ recorded-long p w.state.moved moves₀ (omega arith) in
          (a, omega arith, omega arith)

      -- after the move
      pub walking-move :
          made < limit
          → (labels' : List ℕ) (gains' : List ℤ) (moves' : List Move) (st' : Standing) (x : ℕ)
          → x ≡ part labels v
          → moves' ≡ set moves made (record { vertex = v; part = x })
          → labels' ≡ flip labels v
          → gains' ≡ gains_after s.graph labels gains v
          → st' ≡ standing_after st (part labels v) (get_or s.weights v 0) g b (made + 1)
          → Walking s limit p moves₀ labels' gains' moves' st' (made + 1)
      unfolding move_on
      walking-move lt labels' gains' moves' st' x ex em el eg es =
          let c = w.count in
          let on = w.stands in
          let long = on.long in
          let rm = places-left s (length p) f w.state labels gains st on v g b going in
          record {
            state = move_on s w.state v;
            stands = stands-move s (length p) f w.state labels gains st on v g b going labels' gains' st' el eg (es ∙ ap (λ (k : ℕ). standing_after st (part labels v) (get_or s.weights v 0) g b (k + 1)) (sym c));
            count = length-append w.state.moved (v ∷ []) ∙ ap (λ (k : ℕ). k + 1) c;
            moved_from = ap (λ (l : List ℕ). flip l v) w.moved_from ∙ sym (flips-more p w.state.moved v);
            recorded_are =
                em
                ∙ ap (λ (l : List Move). set l made (record { vertex = v; part = x })) w.recorded_are
                ∙ recorded_more p w.state.moved moves₀ v made x c (omega arith) (ex ∙ ap (λ (l : List ℕ). part l v) (on.labelled ∙ w.moved_from));
            kept_within = kept-one (ltb (cut s.graph (flip w.state.labels v)) w.state.least);
            within = omega arith;
            rest =
                let n : limit - made ≡ suc (limit - (made + 1)) = omega arith in
                sym (walk_step s (limit - (made + 1)) w.state (move_on s w.state v) going.next-is) ∙ (rw n at w.rest);
          }
        where
          kept-one : (t : Bool) → cond t (length w.state.moved + 1) w.state.kept ≤ made + 1
          kept-one true = let c = w.count in omega arith
          kept-one false = let k = w.kept_within in omega arith

-- One step of a pass: where the code stands as the state says, its next move is the state's next, and after the move it stands as the next state says. Assumes nothing.
use mathlib.Core.Path.{◌≡◌, refl, sym, ap, ap₂, ◌∙◌}
use mathlib.Core.Bool.{Bool, true, false, not, cond, ◌&&◌}
use mathlib.Core.List.{List, [], ◌∷◌}
use mathlib.Core.Option.{Option, none, some}
use Prim.Native.Nat.{ℕ, ◌+◌, ◌-◌, ◌≤◌, ◌<◌}
use native.Mathlib.Omega.{arith}
use lib.Dec.{ltb, leb, eqb}
use lib.ListN.{length, get_or, set, length-set, length-append, get_or-eq_default}
use lib.Seq.{get_or-set_same, get_or-set_other}
use lib.IntN.{ℤ, pos, ◌-ℤ◌}
use lib.Signed.{mag, lt_z}
use borrow.Author.Tests.{eqb-true, eqb-false, ltb-true, ltb-false}
use Rattle.lists.specs.Sum.{sum, total}
use Rattle.lists.specs.Fill.{table}
use Rattle.lists.proofs.Totals.{sum-holds, sum-most, sum-zero}
use Rattle.lists.proofs.Tables.{length-table, table_at}
use Rattle.lists.proofs.Differences.{pos-minus}
use Rattle.imbalance.specs.Limit.{most_vertices, most_arcs}
use Rattle.imbalance.specs.Load.{part, load}
use Rattle.imbalance.specs.inner.Moved.{loads_moved}
use Rattle.imbalance.proofs.PartLoads.{load-within}
use Rattle.topology.specs.Graph.{Graph, first, past, arcs, into, gain}
use Rattle.topology.specs.Rule.{Symmetric}
use Rattle.topology.specs.Cut.{cut, row_cut}
use Rattle.topology.proofs.Moves.{cut-move, load-holds, loads-move}
use Rattle.fiduccia_mattheyses_choice.specs.inner.Bounds.{lock_size}
use Rattle.fiduccia_mattheyses_pass.specs.inner.Bounds.{most_in_row, most_cut}
use Rattle.fiduccia_mattheyses_choice.specs.Choice.{Terms, other, flip, member, worth, fits, choice, is_bad}
use Rattle.fiduccia_mattheyses_pass.specs.Pass.{State, start, move_on, next}
use Rattle.fiduccia_mattheyses_choice.specs.inner.Scan.{Scannable, lock, picked, pick_below, load_after, ceiling_at}
use Rattle.fiduccia_mattheyses_pass.specs.inner.Next.{go, next_of}
use Rattle.fiduccia_mattheyses_pass.specs.inner.Standing.{gains_after, standing_after, Moveable, Fixed, Stands}
use Rattle.std.specs.Prelude.{Option as Maybe, Some, None}
use Rattle.fiduccia_mattheyses_pass.specs.declared.NextMove.{NextMove}
use Rattle.fiduccia_mattheyses_pass.specs.declared.Standing.{Standing}
use Rattle.fiduccia_mattheyses_pass.proofs.Moved.{at_more, apart_more, count-more, count-leaves-one}
use Rattle.fiduccia_mattheyses_pass.proofs.Worths.{Light, arcs-small, worth-small, gains-move}
use Rattle.fiduccia_mattheyses_choice.proofs.Chosen.{allowed-is, chosen}
use Rattle.fiduccia_mattheyses_pass.proofs.Choices.{pick-choice}

-- each weight is at most the total
weight-most : (ws : List ℕ) (e : ℕ) → get_or ws e 0 ≤ total ws
unfolding total
weight-most ws e = go (ltb e (length ws)) refl
  where
    go : (b : Bool) → ltb e (length ws) ≡ b → get_or ws e 0 ≤ sum (length ws) (λ i. get_or ws i 0)
    go true t = sum-holds (length ws) e (λ i. get_or ws i 0) (ltb-true e (length ws) t)
    go false t = rw (get_or-eq_default ws 0 (ltb-false e (length ws) t)) (omega arith)

-- the limits keep rows and weights small
pub light : {s : Terms} {n : ℕ} → Fixed s n → Light s.graph
light {s} {n} f = record {
  light = λ e. (let a = weight-most s.graph.weights e in let b = f.light_arcs in omega arith);
  short = λ u. short u (ltb u n) refl;
}
  where
    short : (u : ℕ) (b : Bool) → ltb u n ≡ b → past s.graph u - first s.graph u ≤ most_arcs
    short u true t = let l = ltb-true u n t in let a = f.rows.inside u l in let c = f.rows.small in omega arith
    short u false t =
        let l = ltb-false u n t in
        let c = f.rows.counted in
        rw (get_or-eq_default s.graph.starts 0 {n = u + 1} (omega arith)) (omega arith)

-- the cut is far from the end of its type
pub cut_small : (g : Graph) (p : List ℕ) → Light g → length p ≤ most_vertices → cut g p ≤ most_cut
unfolding cut arcs
cut_small g p l few = omega (arith, sum-most (length p) most_in_row (row_cut g p) (λ u k. arcs-small g u (λ x. ltb x u && not (eqb (part p x) (part p u))) l))

-- the cut after a move is the cut less the gain
pub cut-after : (s : Terms) (p : List ℕ) (v : ℕ) → Symmetric (length p) s.graph → v < length p → pos (cut s.graph p) -ℤ worth s p v ≡ pos (cut s.graph (flip p v))
unfolding worth gain flip
cut-after s p v ok l =
    pos-minus (cut s.graph p) (into s.graph p v (other (part p v))) (into s.graph p v (part p v)) (cut s.graph (set p v (other (part p v))))
    (cut-move s.graph p v (other (part p v)) ok l)

-- the loads after a move are those of the labels after it
loads-follow : (ws p : List ℕ) (v : ℕ) → v < length p → part p v < 2 → loads_moved (table 16 (load ws p)) (part p v) (other (part p v)) (get_or ws v 0) ≡ table 16 (load ws (flip p v))
unfolding flip
loads-follow ws p v lv two_labels = loads-move ws p v (other (part p v)) lv (omega arith) (omega arith) (λ r. omega arith)

pub two-flip : (p : List ℕ) (v : ℕ) → v < length p → ((x : ℕ) → part p x < 2) → (x : ℕ) → part (flip p v) x < 2
unfolding flip
two-flip p v lv two_labels x = go (eqb x v) refl
  where
    go : (t : Bool) → eqb x v ≡ t → part (set p v (other (part p v))) x < 2
    go true r = rw (eqb-true x v r, get_or-set_same p v (other (part p v)) 0 lv) (omega arith)
    go false r = rw (get_or-set_other p v x (other (part p v)) 0 (eqb-false x v r)) (two_labels x)

-- what the code's answer tells of the state's next
abbrev vertex_in : Maybe NextMove → ℕ
vertex_in None = 0
vertex_in (Some m) = m.vertex

abbrev gain_in : Maybe NextMove → ℤ
gain_in None = pos 0
gain_in (Some m) = m.gain

abbrev bad_in : Maybe NextMove → ℕ
bad_in None = 0
bad_in (Some m) = m.bad

bad-go : (t u : Bool) (v : ℕ) (g : ℤ) (bad w : ℕ) (h : ℤ) (b : ℕ) → cond t (cond u None (go v g (bad + 1))) (go v g 0) ≡ go w h b → (t && u ≡ false) × (cond t (bad + 1) 0 ≡ b) × (v ≡ w) × (g ≡ h)
bad-go true true v g bad w h b e = let o : ◌≡◌ {A = ℕ} 0 1 = cc in absurd (omega arith)
bad-go true false v g bad w h b e = (refl, ap bad_in e, ap vertex_in e, ap gain_in e)
bad-go false u v g bad w h b e = let f : go v g 0 ≡ go w h b = e in (refl, ap bad_in f, ap vertex_in f, ap gain_in f)

bad-stop : (t u : Bool) (v : ℕ) (g : ℤ) (bad : ℕ) → cond t (cond u None (go v g (bad + 1))) (go v g 0) ≡ None → t && u ≡ true
bad-stop true true v g bad e = refl
bad-stop true false v g bad e = let o : ◌≡◌ {A = ℕ} 0 1 = cc in absurd (omega arith)
bad-stop false u v g bad e = let o : ◌≡◌ {A = ℕ} 0 1 = cc in absurd (omega arith)

-- the state's next, by what is chosen
module _ (s : Terms) (st : State) where
  next-none : choice s st.labels st.moved ≡ none → next s st ≡ none
  unfolding next
  next-none e = rw (e, next)

  next-stop : (v : ℕ) → choice s st.labels st.moved ≡ some v → is_bad s st.labels v && leb s.bad_limit st.bad ≡ true → next s st ≡ none
  unfolding next
  next-stop v e q = rw (e, next) (rw q)

  next-some : (v : ℕ) → choice s st.labels st.moved ≡ some v → is_bad s st.labels v && leb s.bad_limit st.bad ≡ false → next s st ≡ some (move_on s st v)
  unfolding next
  next-some v e q = rw (e, next) (rw q)

-- What a step that goes on knows: the state's next, the vertex, its gain, the counter, and that it was not moved before.
pub record Goes (s : Terms) (n : ℕ) (st : State) (labels : List ℕ) (v : ℕ) (g : ℤ) (b : ℕ) : Type 0 where
  pub next-is : next s st ≡ some (move_on s st v)
  pub here : v < length labels
  pub gain_is : g ≡ worth s labels v
  pub bad_is : b ≡ cond (is_bad s labels v) (st.bad + 1) 0
  pub new : member v st.moved ≡ false
  pub within : fits s labels v ≡ true

module _ (s : Terms) (n : ℕ) (f : Fixed s n) (st : State) (labels : List ℕ) (gains : List ℤ) (c : Standing) (on : Stands s n st labels gains c) where
  abbrev pub asked : Maybe NextMove
  asked = next_of (pick_below gains (load_after c.loads.at s.weights labels) (ceiling_at s.ceilings labels) (length labels)) c.bad s.bad_limit

  loads-are : (t : ℕ) → t < 2 → get_or c.loads.at t 0 ≡ load s.weights labels t
  loads-are t l = rw on.loaded (table_at 16 t 0 (load s.weights labels) (omega arith))

  pick_is : pick_below gains (load_after c.loads.at s.weights labels) (ceiling_at s.ceilings labels) (length labels) ≡ picked (worth s labels) (choice s labels st.moved)
  pick_is = pick-choice s labels st.moved gains c.loads.at f.all_movable (light f) on.gained loads-are

  pub scannable : Scannable gains labels s.weights c.loads.at
  scannable = record {
    gained = on.gained.long;
    weighed = f.weighed ∙ sym on.long;
    two_labels = on.two_labels;
    sixteen = ap length on.loaded ∙ length-table 16 (load s.weights labels);
    light = λ t l. (let a = load-within s.weights labels (f.weighed ∙ sym on.long) t in let b = loads-are t l in let d = f.light in omega arith);
  }

  next-as : (o : Option ℕ) → choice s labels st.moved ≡ o → asked ≡ None → next s st ≡ none
  next-as none e a = next-none s st (rw on.labelled at e)
  next-as (some v) e a =
      let q : next_of (Some (record { vertex = v; gain = worth s labels v })) c.bad s.bad_limit ≡ None = rw (pick_is, e) at a in
      let r = bad-stop (is_bad s labels v) (leb s.bad_limit st.bad) v (worth s labels v) st.bad (rw on.bad_is at q) in
      next-stop s st v (rw on.labelled at e) (rw on.labelled at r)

  -- the code stops where the state has no next
  pub stops : asked ≡ None → next s st ≡ none
  stops a = next-as (choice s labels st.moved) refl a

  goes-as : (o : Option ℕ) → choice s labels st.moved ≡ o → (v : ℕ) (g : ℤ) (b : ℕ) → asked ≡ go v g b → Goes s n st labels v g b
  goes-as none e v g b a =
      let q : next_of None c.bad s.bad_limit ≡ go v g b = rw (pick_is, e) at a in
      let o : ◌≡◌ {A = ℕ} 0 1 = cc in
      absurd (omega arith)
  goes-as (some u) e v g b a =
      let q : next_of (Some (record { vertex = u; gain = worth s labels u })) c.bad s.bad_limit ≡ go v g b = rw (pick_is, e) at a in
      let r = bad-go (is_bad s labels u) (leb s.bad_limit st.bad) u (worth s labels u) st.bad v g b (rw on.bad_is at q) in
      let i = (chosen s labels st.moved u).0 e in
      let al = allowed-is s labels st.moved u i.may in
      let uv : u ≡ v = r.2 in
      record {
        next-is = rw (← uv) (next-some s st u (rw on.labelled at e) (rw on.labelled at r.0));
        here = rw (← uv) i.here;
        gain_is = sym r.3 ∙ ap (worth s labels) uv;
        bad_is = sym r.1 ∙ ap (λ (x : ℕ). cond (is_bad s labels x) (st.bad + 1) 0) uv;
        new = rw (← uv) al.1;
        within = rw (← uv) al.2;
      }

  -- where the code goes on, so does the state, with the same vertex
  pub goes : (v : ℕ) (g : ℤ) (b : ℕ) → asked ≡ go v g b → Goes s n st labels v g b
  goes v g b a = goes-as (choice s labels st.moved) refl v g b a

  module _ (v : ℕ) (g : ℤ) (b : ℕ) (go : Goes s n st labels v g b) where
    symmetric' : Symmetric (length labels) s.graph
    symmetric' = rw on.long f.symmetric

    in-n : v < n
    in-n = let a = on.long in let b = go.here in omega arith

    -- there is room for the move's record
    pub places-left : length st.moved + 1 ≤ n
    places-left = count-leaves-one v st.moved n in-n go.new on.counted

    few' : length labels ≤ most_vertices
    few' = let a = on.long in let b = f.rows.few in omega arith

    -- what the code of a move asks
    pub moveable : Moveable s.graph gains labels s.weights c v g
    moveable = record {
      rows = rw on.long f.rows;
      scanned = scannable;
      here = go.here;
      weight_within = rw (loads-are (part labels v) (on.two_labels v)) (load-holds s.weights labels v go.here);
      small_gains = small-gains;
      small_gain = rw go.gain_is (worth-small s labels v (light f));
      small_cut = rw on.cut_is (cut_small s.graph labels (light f) few');
      small_least = rw on.least_is on.least_low;
    }
      where
        lock-or : (x : ℕ) (t : Bool) → mag (cond t lock (worth s labels x)) ≤ lock_size
        lock-or x true = omega arith
        lock-or x false = let w = worth-small s labels x (light f) in omega arith

        small-gains : (x : ℕ) → mag (get_or gains x (pos 0)) ≤ lock_size
        small-gains x = inside (ltb x (length labels)) refl
          where
            inside : (t : Bool) → ltb x (length labels) ≡ t → mag (get_or gains x (pos 0)) ≤ lock_size
            inside true t = rw (on.gained.each x (ltb-true x (length labels) t)) (lock-or x (member x st.moved))
            inside false t =
                let l = ltb-false x (length labels) t in
                let k = on.gained.long in
                rw (get_or-eq_default gains (pos 0) {n = x} (omega arith)) (omega arith)

    abbrev c' : ℕ
    c' = cut s.graph (flip labels v)

    abbrev after' : Standing
    after' = standing_after c (part labels v) (get_or s.weights v 0) g b (length st.moved + 1)

    cut-now : c.cut -ℤ g ≡ pos c'
    cut-now = ap₂ ◌-ℤ◌ on.cut_is go.gain_is ∙ cut-after s labels v symmetric' go.here

    lower : lt_z (c.cut -ℤ g) c.least ≡ ltb c' st.least
    lower = ap₂ lt_z cut-now on.least_is

    flip-long : length (flip labels v) ≡ length labels
    unfolding flip
    flip-long = length-set labels v (other (part labels v))

    -- after the move the code stands as the next state says
    pub stands-move : (labels' : List ℕ) (gains' : List ℤ) (r : Standing) → labels' ≡ flip labels v → gains' ≡ gains_after s.graph labels gains v → r ≡ after' → Stands s n (move_on s st v) labels' gains' r
    unfolding move_on
    stands-move labels' gains' r el eg er =
        rw (el, eg, er)
        (record {
          labelled = ap (λ (p : List ℕ). flip p v) on.labelled;
          long = flip-long ∙ on.long;
          two_labels = two-flip labels v go.here on.two_labels;
          gained = gains-move s labels st.moved gains v symmetric' (light f) on.two_labels go.here on.gained;
          loaded = ap (λ (l : List ℕ). loads_moved l (part labels v) (other (part labels v)) (get_or s.weights v 0)) on.loaded ∙ loads-follow s.weights labels v go.here (on.two_labels v);
          cut_is = cut-now;
          least_is = least-now;
          least_low = low;
          kept_is = ap (λ (t : Bool). cond t (length st.moved + 1) c.kept) lower ∙ ap (cond (ltb c' st.least) (length st.moved + 1)) on.kept_is ∙ as-state-kept;
          bad_is = go.bad_is ∙ ap (λ (p : List ℕ). cond (is_bad s p v) (st.bad + 1) 0) on.labelled;
          bad_within = rw (length-append st.moved (v ∷ [])) (calmer (is_bad s st.labels v));
          counted = count-more v st.moved n in-n go.new on.counted ∙ sym (length-append st.moved (v ∷ []));
          apart = apart_more v st.moved on.apart go.new;
          inside = at_more v st.moved (λ (x : ℕ). x < n) on.inside in-n;
        })
      where
        push : (t : Bool) (x y : ℕ) → cond t (pos x) (pos y) ≡ pos (cond t x y)
        push true x y = refl
        push false x y = refl

        state-least : cond (ltb c' st.least) c' st.least ≡ cond (ltb (cut s.graph (flip st.labels v)) st.least) (cut s.graph (flip st.labels v)) st.least
        state-least = ap (λ (p : List ℕ). cond (ltb (cut s.graph (flip p v)) st.least) (cut s.graph (flip p v)) st.least) on.labelled

        least-now : cond (lt_z (c.cut -ℤ g) c.least) (c.cut -ℤ g) c.least ≡ pos (cond (ltb (cut s.graph (flip st.labels v)) st.least) (cut s.graph (flip st.labels v)) st.least)
        least-now = rw (lower, cut-now, on.least_is) (push (ltb c' st.least) c' st.least ∙ ap pos state-least)

        low_of : (t : Bool) → cond t c' st.least ≤ most_cut
        low_of true = cut_small s.graph (flip labels v) (light f) (let a = flip-long in let b = few' in omega arith)
        low_of false = on.least_low

        low : cond (ltb (cut s.graph (flip st.labels v)) st.least) (cut s.graph (flip st.labels v)) st.least ≤ most_cut
        low = rw (← state-least) (low_of (ltb c' st.least))

        as-state-kept : cond (ltb c' st.least) (length st.moved + 1) st.kept ≡ cond (ltb (cut s.graph (flip st.labels v)) st.least) (length st.moved + 1) st.kept
        as-state-kept = ap (λ (p : List ℕ). cond (ltb (cut s.graph (flip p v)) st.least) (length st.moved + 1) st.kept) on.labelled

        calmer : (t : Bool) → cond t (st.bad + 1) 0 ≤ length st.moved + 1
        calmer true = let h = on.bad_within in omega arith
        calmer false = omega arith

-- at a pass's start the code stands at the state's start
pub stands-start :
    (s : Terms) (n : ℕ) (f : Fixed s n) (labels : List ℕ) (gains : List ℤ) (c : Standing)
    → length labels ≡ n
    → ((x : ℕ) → part labels x < 2)
    → length gains ≡ length labels
    → ((x : ℕ) → x < length labels → get_or gains x (pos 0) ≡ worth s labels x)
    → c.loads.at ≡ table 16 (load s.weights labels)
    → c.cut ≡ pos (cut s.graph labels)
    → c.least ≡ pos (cut s.graph labels)
    → c.kept ≡ 0
    → c.bad ≡ 0
    → Stands s n (start s labels) labels gains c
unfolding member
stands-start s n f labels gains c long two_labels gl ge ld ct le kp bd = record {
  labelled = refl;
  long = long;
  two_labels = two_labels;
  gained = record { long = gl; each = ge };
  loaded = ld;
  cut_is = ct;
  least_is = le;
  least_low = cut_small s.graph labels (light f) (let a = f.rows.few in omega arith);
  kept_is = kp;
  bad_is = bd;
  bad_within = omega arith;
  counted = sum-zero n;
  apart = λ i j lt k. absurd (omega arith);
  inside = λ i k. absurd (omega arith);
}

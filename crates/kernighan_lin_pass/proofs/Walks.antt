-- The swaps of a pass, one after another. Assumes nothing.
use mathlib.Core.Path.{◌≡◌, refl, sym, ap, ◌∙◌}
use mathlib.Core.Bool.{Bool, true, false, cond, ◌||◌}
use mathlib.Core.List.{List}
use mathlib.Core.Option.{Option, none, some}
use Prim.Native.Nat.{ℕ, zero, suc, ◌+◌, ◌-◌, ◌*◌, ◌≤◌, ◌<◌}
use native.Mathlib.Omega.{arith}
use lib.ListN.{length, get_or, set, length-set}
use lib.Seq.{get_or-set_same, get_or-set_other}
use lib.Dec.{ltb, eqb}
use lib.IntN.{ℤ, pos}
use borrow.Author.Tests.{eqb-true, eqb-false}
use Rattle.lists.proofs.Tables.{length-table}
use Rattle.imbalance.specs.Limit.{most_vertices}
use Rattle.topology.specs.Graph.{Graph}
use Rattle.std.specs.Prelude.{Option as Found, Some, None}
use Rattle.topology.specs.Cut.{cut}
use Rattle.kernighan_lin_pass.specs.Gain.{added, updated}
use Rattle.kernighan_lin_pass.specs.Pass.{Terms, Swap, State, swapped, start, pair, after, next, walk}
use Rattle.kernighan_lin_pass.specs.inner.Steps.{Fit, Within, fresh_bound, swap_bound, pair_at, code_of, swap_of, Coded, back, WalkAsked, counted, WalkDone}
use Rattle.kernighan_lin_pass.specs.declared.choose.Pair.{Pair}
use Rattle.kernighan_lin_pass.specs.declared.pass.Walked.{Walked}
use Rattle.kernighan_lin_pass.proofs.Within.{table-within, added-within, updated-within}
use Rattle.kernighan_lin_pass.proofs.Pairs.{largest-in, pair-in}
use Rattle.kernighan_lin_pass.proofs.Swaps.{length-swapped}
use Rattle.kernighan_lin_pass.proofs.Backs.{swap-twice, read_back, back-same, back_none, back_more}

-- the walk ends where there is no pair
pub walk-stop : (s : Terms) (k : ℕ) (st : State) → pair s st.labels st.gains st.locks ≡ none → walk s k st ≡ st
unfolding walk next
walk-stop s zero st e = refl
walk-stop s (suc k) st e = rw (e, walk)

pub walk_step : (s : Terms) (k : ℕ) (st : State) (t : Swap) → pair s st.labels st.gains st.locks ≡ some t → walk s (suc k) st ≡ walk s k (after s st t)
unfolding walk next
walk_step s k st t e = rw (e, walk)

pub walk_none : (s : Terms) (k : ℕ) (st : State) → k ≡ 0 → walk s k st ≡ st
unfolding walk
walk_none s k st e = rw e

length-updated : (g : Graph) (p : List ℕ) (v : ℕ) (gains : List ℤ) → length (updated g p v gains) ≡ length p
unfolding updated
length-updated g p v gains = length-table (length p) _

-- a pair is two of the vertices
pub pair-below : (s : Terms) (p : List ℕ) (before : List ℤ) (locks : List ℕ) (t : Swap) → pair s p before locks ≡ some t → (t.one < length p) × (t.two < length p)
pair-below s p before locks t e =
    let c = pair-in s p before locks t e in
    ((largest-in s.movable s.first true p (added s.graph p before) locks t.one c.0).0, (largest-in s.movable s.first false p (updated s.graph p t.one (added s.graph p before)) locks t.two c.1).0)

-- what the answer says of the pair
pub answer-none : (s : Terms) (p : List ℕ) (before : List ℤ) (locks : List ℕ) (r : Found Pair) → r ≡ pair_at (pair s p before locks) → r ≡ None → pair s p before locks ≡ none
answer-none s p before locks r e q = go (pair s p before locks) (sym q ∙ e)
  where
    clash : (x : Pair) → ◌≡◌ {A = Found Pair} None (Some x) → ◌≡◌ {A = ℕ} 0 1
    clash x f = cc

    go : (o : Option Swap) → None ≡ pair_at o → o ≡ none
    go none f = refl
    go (some t) f = let z : ◌≡◌ {A = ℕ} 0 1 = clash _ f in absurd (omega arith)

pub answer-some : (s : Terms) (p : List ℕ) (before : List ℤ) (locks : List ℕ) (r : Found Pair) (x : Pair) → r ≡ pair_at (pair s p before locks) → r ≡ Some x → pair s p before locks ≡ some (record { one = x.one; two = x.two })
answer-some s p before locks r x e q = go (pair s p before locks) (sym e ∙ q)
  where
    clash : ◌≡◌ {A = Found Pair} None (Some x) → ◌≡◌ {A = ℕ} 0 1
    clash f = cc

    same : (y : Pair) → Some y ≡ Some x → y ≡ x
    same y f = cc

    go : (o : Option Swap) → pair_at o ≡ Some x → o ≡ some (record { one = x.one; two = x.two })
    go none f = let z : ◌≡◌ {A = ℕ} 0 1 = clash f in absurd (omega arith)
    go (some t) f = rw (sym (same _ f)) refl

-- Where the code stands after the swaps that it has made.
pub record On (s : Terms) (limit : ℕ) (p₀ labels : List ℕ) (gains : List ℤ) (locks codes : List ℕ) (cur : ℕ) (w : Walked) : Type 0 where
  pub upto : w.made ≤ limit
  pub long : length labels ≡ length p₀
  pub gains_long : length gains ≡ length p₀
  pub locks_long : length locks ≡ length p₀
  pub within : Within (swap_bound * w.made) gains
  pub cur-is : cur ≡ cut s.graph labels
  pub best : List ℕ
  pub least_is : w.least ≡ cut s.graph best
  pub kept_upto : w.kept ≤ w.made
  pub coded : Coded (length p₀) w.made codes
  pub back_is : back codes w.made (w.made - w.kept) labels ≡ best
  pub rest : walk s (limit - w.made) (record { labels = labels; gains = gains; locks = locks; made = w.made; kept = best }) ≡ walk s limit (start s p₀)

module _ (s : Terms) (limit : ℕ) (p₀ : List ℕ) (fit : Fit (length p₀) s.graph) where
  -- before the first swap
  pub on-start : (gains : List ℤ) (locks codes : List ℕ) (places before : ℕ) → WalkAsked s p₀ gains locks places limit before → On s limit p₀ p₀ gains locks codes before (record { made = 0; kept = 0; least = before })
  unfolding start
  on-start gains locks codes places before h =
      record {
        upto = omega arith;
        long = refl;
        gains_long = ap length h.gains_are ∙ length-table (length p₀) (λ u. pos 0);
        locks_long = ap length h.locks_are ∙ length-table (length p₀) (λ u. 0);
        within = rw h.gains_are (table-within (length p₀) (swap_bound * 0) (λ u. pos 0) (λ u l. omega arith));
        cur-is = h.cut_is;
        best = p₀;
        least_is = h.cut_is;
        kept_upto = omega arith;
        coded = record { one = λ i l. absurd (omega arith); two = λ i l. absurd (omega arith) };
        back_is = back_none codes 0 (0 - 0) p₀ (omega arith);
        rest = let r : limit - 0 ≡ limit = omega arith in rw (r, h.gains_are, h.locks_are);
      }

  module _ (labels : List ℕ) (gains : List ℤ) (locks codes : List ℕ) (cur : ℕ) (w : Walked) (on : On s limit p₀ labels gains locks codes cur w) where
    abbrev k : ℕ
    k = w.made

    abbrev here : State
    here = record { labels = labels; gains = gains; locks = locks; made = k; kept = on.best }

    pub fit-now : Fit (length labels) s.graph
    fit-now = rw on.long fit

    ended : (labels' : List ℕ) → labels' ≡ labels → here ≡ walk s limit (start s p₀) → WalkDone s limit p₀ labels' codes w
    ended labels' f e =
        let b : on.best ≡ (walk s limit (start s p₀)).kept = ap (λ (x : State). x.kept) e in
        record {
          upto = on.upto;
          kept_upto = on.kept_upto;
          coded = on.coded;
          long = ap length f ∙ on.long;
          back_is = ap (back codes k (k - w.kept)) f ∙ on.back_is ∙ b;
          least_is = on.least_is ∙ ap (cut s.graph) b;
        }

    -- the swaps are all made
    pub on-full : limit ≤ k → WalkDone s limit p₀ labels codes w
    on-full l = let r : limit - k ≡ 0 = omega arith in ended labels refl (sym (walk_none s (limit - k) here r) ∙ on.rest)

    -- or there is no pair
    pub on_none : pair s labels gains locks ≡ none → WalkDone s limit p₀ labels codes w
    on_none e = ended labels refl (sym (walk-stop s (limit - k) here e) ∙ on.rest)

    module _ (lk : k < limit) (t : Swap) (e : pair s labels gains locks ≡ some t) (few : length p₀ ≤ most_vertices) (places : k < length codes) where
      abbrev labels' : List ℕ
      labels' = swapped labels t

      abbrev gains' : List ℤ
      gains' = updated s.graph labels t.one (added s.graph labels gains)

      abbrev locks' : List ℕ
      locks' = set (set locks t.one 1) t.two 1

      abbrev codes' : List ℕ
      codes' = set codes k (code_of t)

      below : (t.one < length labels) × (t.two < length labels)
      below = pair-below s labels gains locks t e

      -- the swap in place k reads back
      here-is : swap_of (get_or codes' k 0) ≡ t
      here-is =
          let l = below.1 in
          let q = on.long in
          let r = read_back t.one t.two (omega arith) in
          ap swap_of (get_or-set_same codes k (code_of t) 0 places) ∙ (λ i. record { one = r.0 i; two = r.1 i })

      coded' : Coded (length p₀) (k + 1) codes'
      coded' = record { one = λ i l. one i l (eqb i k) refl; two = λ i l. two i l (eqb i k) refl }
        where
          one : (i : ℕ) → i < k + 1 → (b : Bool) → eqb i k ≡ b → (swap_of (get_or codes' i 0)).one < length p₀
          one i l true q = rw (eqb-true i k q) (omega (arith, ap (λ (x : Swap). x.one) here-is, below.0, on.long))
          one i l false q = let ne = eqb-false i k q in rw (get_or-set_other codes k i (code_of t) 0 ne) (on.coded.one i (omega (arith, ne)))

          two : (i : ℕ) → i < k + 1 → (b : Bool) → eqb i k ≡ b → (swap_of (get_or codes' i 0)).two < length p₀
          two i l true q = rw (eqb-true i k q) (omega (arith, ap (λ (x : Swap). x.two) here-is, below.1, on.long))
          two i l false q = let ne = eqb-false i k q in rw (get_or-set_other codes k i (code_of t) 0 ne) (on.coded.two i (omega (arith, ne)))

      -- undoing this swap too
      back-old : back codes' (k + 1) (k + 1 - w.kept) labels' ≡ on.best
      back-old =
          let u = on.kept_upto in
          back_more codes' k (k - w.kept) (k + 1 - w.kept) labels' (omega arith)
          ∙ ap (back codes' k (k - w.kept)) (ap (swapped labels') here-is ∙ swap-twice labels t below.0 below.1)
          ∙ back-same codes' codes k (k - w.kept) labels (omega arith) (λ i l. get_or-set_other codes k i (code_of t) 0 (λ q. omega arith))
          ∙ on.back_is

      module _ (cur' : ℕ) (now : cur' ≡ cut s.graph labels') where
        abbrev lower : Bool
        lower = eqb k 0 || ltb cur' w.least

        least' : (b : Bool) → cond b cur' w.least ≡ cut s.graph (cond b labels' on.best)
        least' true = now
        least' false = on.least_is

        upto' : (b : Bool) → cond b (k + 1) w.kept ≤ k + 1
        upto' true = omega arith
        upto' false = omega (arith, on.kept_upto)

        back' : (b : Bool) → back codes' (k + 1) (k + 1 - cond b (k + 1) w.kept) labels' ≡ cond b labels' on.best
        back' true = back_none codes' (k + 1) (k + 1 - (k + 1)) labels' (omega arith)
        back' false = back-old

        after_is : after s here t ≡ record { labels = labels'; gains = gains'; locks = locks'; made = k + 1; kept = cond lower labels' on.best }
        unfolding after
        after_is =
            let q : eqb k 0 || ltb (cut s.graph labels') (cut s.graph on.best) ≡ lower = rw (now, on.least_is) in
            ap (λ (x : Bool). record { labels = labels'; gains = gains'; locks = locks'; made = k + 1; kept = cond x labels' on.best }) q

        on-swap : On s limit p₀ labels' gains' locks' codes' cur' (counted w cur')
        unfolding counted
        on-swap =
            record {
              upto = omega arith;
              long = length-swapped labels t ∙ on.long;
              gains_long = length-updated s.graph labels t.one (added s.graph labels gains) ∙ on.long;
              locks_long = length-set (set locks t.one 1) t.two 1 ∙ length-set locks t.one 1 ∙ on.locks_long;
              within = λ u. omega (arith, updated-within s.graph labels fit-now (swap_bound * k + fresh_bound) (added s.graph labels gains) (added-within s.graph labels fit-now (swap_bound * k) gains on.within) t.one below.0 u);
              cur-is = now;
              best = cond lower labels' on.best;
              least_is = least' lower;
              kept_upto = upto' lower;
              coded = coded';
              back_is = back' lower;
              rest =
                  let n : limit - k ≡ suc (limit - (k + 1)) = omega arith in
                  ap (walk s (limit - (k + 1))) (sym after_is)
                  ∙ sym (walk_step s (limit - (k + 1)) here t e)
                  ∙ ap (λ (m : ℕ). walk s m here) (sym n)
                  ∙ on.rest;
            }

        -- the same of lists and numbers that are these
        pub on-next : (labels'' : List ℕ) (gains'' : List ℤ) (locks'' codes'' : List ℕ) (w'' : Walked) → labels'' ≡ labels' → gains'' ≡ gains' → locks'' ≡ locks' → codes'' ≡ codes' → w'' ≡ counted w cur' → On s limit p₀ labels'' gains'' locks'' codes'' cur' w''
        on-next labels'' gains'' locks'' codes'' w'' a c d e f = rw (a, c, d, e, f) on-swap

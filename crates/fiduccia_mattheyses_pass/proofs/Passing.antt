-- A pass, from what its functions promise. Assumes nothing.
use mathlib.Core.Path.{◌≡◌, refl, sym, ap, ap₂, ◌∙◌}
use mathlib.Core.Bool.{true}
use mathlib.Core.List.{List}
use Prim.Native.Nat.{ℕ, ◌+◌, ◌-◌, ◌≤◌}
use native.Mathlib.Omega.{arith}
use lib.ListN.{length, take, drop}
use lib.Seq.{drop-append-add, drop-drop}
use borrow.Author.Tests.{le-leb}
use lib.IntN.{ℤ, pos}
use lib.Signed.{le_z}
use mir.Syntax.{w64}
use mir.Val.{to_z, of_z}
use Rattle.lists.specs.Fill.{table}
use Rattle.lists.proofs.Fills.{length-written, written_below}
use Rattle.imbalance.specs.Load.{load}
use Rattle.imbalance.specs.declared.Loads.{Loads}
use Rattle.topology.specs.Cut.{cut}
use Rattle.fiduccia_mattheyses_pass.specs.inner.Bounds.{most_cut}
use Rattle.fiduccia_mattheyses_choice.specs.Choice.{Terms, worth}
use Rattle.fiduccia_mattheyses_pass.specs.Pass.{State, start, walk, flips, pass}
use Rattle.fiduccia_mattheyses_pass.specs.inner.Standing.{fresh_gains}
use Rattle.fiduccia_mattheyses_pass.specs.declared.Standing.{Standing}
use Rattle.fiduccia_mattheyses_pass.proofs.Updates.{back}
use Rattle.fiduccia_mattheyses_pass.proofs.Moved.{count-few}
use Rattle.fiduccia_mattheyses_pass.proofs.Backs.{two-flips, flips-long}
use Rattle.fiduccia_mattheyses_pass.proofs.Keeps.{keeps-walk}
use Rattle.fiduccia_mattheyses_pass.proofs.Stands.{stands-start, cut_small, light}
use Rattle.fiduccia_mattheyses_pass.specs.declared.Move.{Move}
use Rattle.fiduccia_mattheyses_pass.specs.declared.Passed.{Passed}
use Rattle.fiduccia_mattheyses_pass.specs.inner.Steps.{first_standing, records, recorded, undone, WalkAsked, WalkDone, RewindAsked, PassAsked, PassDone}
use Rattle.fiduccia_mattheyses_pass.proofs.Walking.{length-records, recorded-long}
use Rattle.fiduccia_mattheyses_pass.proofs.Rewinding.{undone-kept}

pos-injective : (a b : ℕ) → pos a ≡ pos b → a ≡ b
pos-injective a b e = cc

module _ (s : Terms) (p : List ℕ) (gains₀ : List ℤ) (moves₀ : List Move) (loads : Loads) (cut₀ : ℕ) (a : PassAsked s p gains₀ moves₀ loads.at cut₀) where
  abbrev n : ℕ
  n = length p

  -- the cut is far from the end of its type
  pub cut_most : cut₀ ≤ most_cut
  cut_most = rw a.cut_is (cut_small s.graph p (light a.fixed) a.fixed.rows.few)

  -- what the walk asks, after fresh gains
  pub walk-asked : (gains : List ℤ) (first : Standing) → gains ≡ fresh_gains s.graph p gains₀ → first ≡ first_standing loads cut₀ → WalkAsked s p gains moves₀ first
  unfolding worth
  walk-asked gains first eg ef = record {
    fixed = a.fixed;
    stands =
        rw (eg, ef)
        (stands-start s n a.fixed p (fresh_gains s.graph p gains₀) (first_standing loads cut₀) refl a.two_labels
        (length-written _ (length p) gains₀ ∙ a.gained)
        (λ x l. written_below _ (pos 0) (length p) gains₀ (let g = a.gained in omega arith) x l)
        a.loaded
        (ap pos a.cut_is)
        (ap pos a.cut_is)
        refl
        refl);
    places = a.places;
  }

  abbrev e : State
  e = walk s s.move_limit (start s p)

  module _ (labels : List ℕ) (gains : List ℤ) (moves : List Move) (made : ℕ) (last : Standing) (w : WalkDone s p moves₀ e labels gains moves made last) where
    few : length e.moved ≤ n
    few = count-few n e.moved w.stands.counted

    -- what the rewind asks
    pub rewind-asked : RewindAsked s.weights labels moves last.loads.at last.kept made
    rewind-asked = record {
      p = p;
      vs = e.moved;
      before = moves₀;
      labelled = w.stands.labelled ∙ w.moved_from;
      recorded_are = w.recorded_are;
      places = let f = few in let r = a.places in omega arith;
      made_is = w.made_is;
      kept_within = let k = w.stands.kept_is in let m = w.made_is in let h = w.kept_within in omega arith;
      loaded = w.stands.loaded;
      weighed = a.fixed.weighed;
      few = let x = a.fixed.weighed in let y = a.fixed.rows.few in omega arith;
      light = a.fixed.light;
      two_labels = a.two_labels;
      apart = w.stands.apart;
      inside = w.stands.inside;
    }

    -- the least cut, as the code reads it back
    pub least-read : to_z w64 (of_z w64 last.least) ≡ last.least
    least-read = rw w.stands.least_is (back (pos e.least) (let l = w.stands.least_low in omega arith))

    -- the least cut is no negative number
    pub least-plain : le_z (pos 0) last.least ≡ true
    least-plain = rw w.stands.least_is (le-leb 0 e.least (omega arith))

    -- the pass's answer
    pub pass-done :
        (labels' : List ℕ) (back : Loads) (r : Passed)
        → labels' ≡ undone moves last.kept (made - last.kept) labels
        → back.at ≡ table 16 (load s.weights labels')
        → (r.made ≡ made) × (r.kept ≡ last.kept) × (pos r.cut ≡ last.least) × (r.loads ≡ back)
        → PassDone s p moves₀ labels' moves r
    unfolding pass rewind-asked
    pass-done labels' back r el eb er =
        let k = keeps-walk s p s.move_limit in
        let left : labels' ≡ flips p (take e.kept e.moved) =
        el ∙ undone-kept s.weights labels moves last.loads.at last.kept made rewind-asked ∙ ap (λ (i : ℕ). flips p (take i e.moved)) w.stands.kept_is in
        let least : r.cut ≡ e.least = pos-injective r.cut e.least (er.2 ∙ w.stands.least_is) in
        let m = w.made_is in
        let kp = w.stands.kept_is in
        let kw = w.kept_within in
        let e0 = er.0 in
        let e1 = er.1 in
        let f = few in
        record {
          labelled = left;
          made_is = e0 ∙ m;
          kept_within = omega arith;
          rewound_is = ap₂ ◌-◌ (e0 ∙ m) (e1 ∙ kp);
          few = omega arith;
          least_is = least;
          cut_is = least ∙ k.least_is ∙ ap (cut s.graph) (sym left);
          loaded = ap (λ (l : Loads). l.at) er.3 ∙ eb;
          two_labels = λ x. rw left (two-flips p (take e.kept e.moved) a.two_labels x);
          long = ap length left ∙ flips-long p (take e.kept e.moved);
          moves_long = ap length w.recorded_are ∙ recorded-long p e.moved moves₀ (let q = a.places in omega arith);
          moves_past = ap (drop n) w.recorded_are ∙ past e.moved f;
        }
      where
        -- past n the records change nothing
        past : (vs : List ℕ) → length vs ≤ n → drop n (recorded p vs moves₀) ≡ drop n moves₀
        past vs h =
            let l = length-records p vs in
            let q : n ≡ length (records p vs) + (n - length vs) = omega arith in
            let t : length vs + (n - length vs) ≡ n = omega arith in
            ap (λ (i : ℕ). drop i (recorded p vs moves₀)) q
            ∙ drop-append-add (records p vs) (drop (length vs) moves₀) (n - length vs)
            ∙ drop-drop (n - length vs) (length vs) moves₀
            ∙ ap (λ (i : ℕ). drop i moves₀) t

-- How the scan finds the vertex of document 01's "Before each move take ..": what one look at a vertex makes of what is held, and what is held once some vertices have been looked at. What `choose` promises is said in Scan.antt and rests on nothing here.
use Rattle.std.specs.Prelude.{◌≡◌, Bool, true, false, cond, ◌&&◌, List, [], ◌∷◌, ℕ, zero, suc, ◌+◌, ◌-◌, ◌≤◌, ◌<◌, length, get_or, ltb, ℤ, pos, negsuc}
use Rattle.imbalance.specs.Load.{part}
use Rattle.imbalance.specs.Limit.{most_weight}
use Rattle.fiduccia_mattheyses_choice.specs.inner.Bounds.{lock_size, far}
use Rattle.fiduccia_mattheyses_choice.specs.inner.Scan.{is_free, beats}
use Rattle.fiduccia_mattheyses_choice.specs.declared.Held.{Held}

-- the lesser of the two loads
abbrev pub lesser : List ℕ → ℕ
lesser loads = cond (ltb (get_or loads 0 0) (get_or loads 1 0)) (get_or loads 0 0) (get_or loads 1 0)

-- the weights below it are those that fit; none does where the load is above the ceiling
abbrev pub room_of : ℕ → ℕ → ℕ
room_of load ceiling = cond (ltb ceiling load) 0 (cond (ltb (ceiling - load) far) (ceiling - load + 1) far)

-- by a vertex's label: its target's room, and how far its target's load is above the lesser
abbrev pub rooms_of : List ℕ → List ℕ → List ℕ
rooms_of loads ceilings = room_of (get_or loads 1 0) (get_or ceilings 1 0) ∷ room_of (get_or loads 0 0) (get_or ceilings 0 0) ∷ []

abbrev pub lifts_of : List ℕ → List ℕ
lifts_of loads = (get_or loads 1 0 - lesser loads) ∷ (get_or loads 0 0 - lesser loads) ∷ []

-- the lowest gain that a free vertex can have: one above the lock
abbrev pub lowest : ℤ
lowest = negsuc (lock_size - 2)

-- held before there is a vertex: every free vertex goes before it
abbrev pub nobody : Held
nobody = record { past = 0; gain = lowest; load = far }

-- What a scan sees: the gain, label and weight of each vertex, and by a vertex's label the room in its target and how far the target's load is above the lesser of the two.
pub record Sight : Type 0 where
  pub gains : List ℤ
  pub labels : List ℕ
  pub weights : List ℕ
  pub rooms : List ℕ
  pub lifts : List ℕ

abbrev pub sight_of : List ℤ → List ℕ → List ℕ → List ℕ → List ℕ → Sight
sight_of gains labels weights rooms lifts = record { gains = gains; labels = labels; weights = weights; rooms = rooms; lifts = lifts }

-- What a look asks: as many gains and weights as labels, labels 0 or 1, a room and a lift for each, and lifts within the limit.
pub record Sighted (sight : Sight) : Type 0 where
  pub gained : length sight.gains ≡ length sight.labels
  pub weighed : length sight.weights ≡ length sight.labels
  pub two_labels : (v : ℕ) → part sight.labels v < 2
  pub roomed : length sight.rooms ≡ 2
  pub lifted : length sight.lifts ≡ 2
  pub light : (p : ℕ) → p < 2 → get_or sight.lifts p 0 ≤ most_weight

module _ (sight : Sight) where
  abbrev pub gain_of : ℕ → ℤ
  gain_of v = get_or sight.gains v (pos 0)

  -- the load of v's target after the move, above the lesser of the two
  abbrev pub load_of : ℕ → ℕ
  load_of v = get_or sight.lifts (part sight.labels v) 0 + get_or sight.weights v 0

  abbrev pub fits_of : ℕ → Bool
  fits_of v = ltb (get_or sight.weights v 0) (get_or sight.rooms (part sight.labels v) 0)

  abbrev pub may_of : ℕ → Bool
  may_of v = is_free (gain_of v) && fits_of v

  -- v is held where it fits and goes before what was held
  abbrev pub looked : Held → ℕ → Held
  looked held v =
      cond (fits_of v && beats (gain_of v) (load_of v) held.gain held.load)
      (record { past = v + 1; gain = gain_of v; load = load_of v })
      held

  -- after looks at n vertices, one after the other
  unfoldable pub looks : Held → ℕ → ℕ → Held
  looks held from zero = held
  looks held from (suc n) = looked (looks held from n) (from + n)

  -- What is held is a vertex that may move, or still what was held at the start. No locked vertex comes up to its gain.
  pub record Holds (start held : Held) : Type 0 where
    pub found : Bool
    pub vertex : ℕ
    pub past_is : found ≡ true → held.past ≡ vertex + 1
    pub here : found ≡ true → vertex < length sight.labels
    pub may_is : found ≡ true → may_of vertex ≡ true
    pub gain_is : found ≡ true → held.gain ≡ gain_of vertex
    pub load_is : found ≡ true → held.load ≡ load_of vertex
    pub gain_was : found ≡ false → held.gain ≡ start.gain
    pub load_was : found ≡ false → held.load ≡ start.load
    pub free : is_free held.gain ≡ true

  -- Once the vertices below v have been looked at, none of them goes before what is held, and it goes before each that is lower than it.
  pub record Swept (start : Held) (v : ℕ) (held : Held) : Type 0 where
    pub holds : Holds start held
    pub beaten : (u : ℕ) → u < v → may_of u ≡ true → beats (gain_of u) (load_of u) held.gain held.load ≡ false
    pub ahead : holds.found ≡ true → (u : ℕ) → u < holds.vertex → may_of u ≡ true → beats held.gain held.load (gain_of u) (load_of u) ≡ true

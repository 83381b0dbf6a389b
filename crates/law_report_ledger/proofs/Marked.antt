-- Where an id has marks on one lane alone, its standing over all lanes is that of its marks there.
use Rattle.std.proofs.Common.{◌≡◌, ◌≢◌, ◌≤◌, ◌∙◌, sym, ap, refl, subst, ℕ, zero, suc, ◌+◌, ◌-◌, ◌==◌, Bool, true, false, List, [], ◌∷◌, Option, Some, None, arith, get_or, if◌then◌else◌}
use Rattle.std.proofs.lemmas.Bool.{eqb-false, eqb-true}
use Rattle.standings.specs.Standing.{HasStanding, Place, standing_of}
use Rattle.standings.specs.declared.mark.Mark.{Mark}
use Rattle.standings.proofs.Standings.{only}
use Rattle.line_step.specs.State.{LineState, marks_in}
use Rattle.law_lanes.specs.Along.{IsOnOneLane, StandsOnEach}
use Rattle.law_lanes.specs.Lanes.{Lanes, empty_track, track}
use Rattle.law_lanes.specs.Shown.{LaneMarks, LanePlace, marked_from, marked_on, placed, standing_on, with_marks}
use Rattle.law_report_ledger.specs.Standings.{standing_there}

abbrev at : List LineState → LineState → ℕ → ℕ → List Mark
at tracks other place id = marks_in (get_or tracks place other) id

-- the marks of an id, track by track: none, or those on one alone
data IsMarked (tracks : List LineState) (other : LineState) (lane id : ℕ)
    (list : List LaneMarks) : Type 0 where
  nowhere : ((place : ℕ) → at tracks other place id ≡ []) → list ≡ []
      → IsMarked tracks other lane id list
  somewhere : (place : ℕ) → at tracks other place id ≢ []
      → ((next : ℕ) → next ≢ place → at tracks other next id ≡ [])
      → list ≡ record { lane = lane + place; marks = at tracks other place id } ∷ []
      → IsMarked tracks other lane id list

abbrev AreAlone : List LineState → LineState → ℕ → Type 0
AreAlone tracks other id =
    (one two : ℕ) → at tracks other one id ≢ [] → at tracks other two id ≢ [] → one ≡ two

first_marked : (m : Mark) (ms : List Mark) (lane id : ℕ) (t : LineState) (tracks : List LineState)
    (other : LineState) (rest : List LaneMarks) → marks_in t id ≡ m ∷ ms
    → AreAlone (t ∷ tracks) other id → IsMarked tracks other (lane + 1) id rest
    → IsMarked (t ∷ tracks) other lane id (with_marks lane (marks_in t id) rest)
first_marked m ms lane id t tracks other rest is alone (nowhere none empty) =
    somewhere 0 (λ no. absurd (let never : m ∷ ms ≡ [] = sym is ∙ no in cc)) others
    (ap (λ (l : List Mark). with_marks lane l rest) is
    ∙ ap (λ (r : List LaneMarks). record { lane = lane; marks = m ∷ ms } ∷ r) empty
    ∙ ap (λ (l : List Mark). record { lane = lane; marks = l } ∷ []) (sym is)
    ∙ ap (λ (n : ℕ). record { lane = n; marks = marks_in t id } ∷ []) (omega arith)) where
      others : (next : ℕ) → next ≢ 0 → at (t ∷ tracks) other next id ≡ []
      others zero apart = absurd (apart refl)
      others (suc next) apart = none next
first_marked m ms lane id t tracks other rest is alone (somewhere place some apart same) =
    absurd (let zero_is : 0 ≡ suc place =
    alone 0 (suc place) (λ no. absurd (let never : m ∷ ms ≡ [] = sym is ∙ no in cc)) some in
    omega (arith, zero_is))

next_marked : (lane id : ℕ) (t : LineState) (tracks : List LineState) (other : LineState)
    (rest : List LaneMarks) → marks_in t id ≡ [] → IsMarked tracks other (lane + 1) id rest
    → IsMarked (t ∷ tracks) other lane id (with_marks lane (marks_in t id) rest)
next_marked lane id t tracks other rest is (nowhere none empty) =
    nowhere every (ap (λ (l : List Mark). with_marks lane l rest) is ∙ empty) where
      every : (place : ℕ) → at (t ∷ tracks) other place id ≡ []
      every zero = is
      every (suc place) = none place
next_marked lane id t tracks other rest is (somewhere place some apart same) =
    somewhere (suc place) some others
    (ap (λ (l : List Mark). with_marks lane l rest) is ∙ same
    ∙ ap (λ (n : ℕ). record { lane = n; marks = at tracks other place id } ∷ []) (omega arith)) where
      others : (next : ℕ) → next ≢ suc place → at (t ∷ tracks) other next id ≡ []
      others zero differ = is
      others (suc next) differ = apart next (λ same. differ (ap (λ (n : ℕ). suc n) same))

more_marked : (ms : List Mark) (lane id : ℕ) (t : LineState) (tracks : List LineState)
    (other : LineState) (rest : List LaneMarks) → marks_in t id ≡ ms
    → AreAlone (t ∷ tracks) other id → IsMarked tracks other (lane + 1) id rest
    → IsMarked (t ∷ tracks) other lane id (with_marks lane (marks_in t id) rest)
more_marked [] lane id t tracks other rest is alone behind =
    next_marked lane id t tracks other rest is behind
more_marked (m ∷ ms) lane id t tracks other rest is alone behind =
    first_marked m ms lane id t tracks other rest is alone behind

marked : (lane id : ℕ) (tracks : List LineState) (other : LineState) → marks_in other id ≡ []
    → AreAlone tracks other id → IsMarked tracks other lane id (marked_from id lane tracks)
marked lane id [] other none alone = nowhere (λ place. none) refl
marked lane id (t ∷ tracks) other none alone =
    more_marked (marks_in t id) lane id t tracks other (marked_from id (lane + 1) tracks) refl alone
    (marked (lane + 1) id tracks other none
    (λ one two first second.
    let same : suc one ≡ suc two = alone (suc one) (suc two) first second in omega (arith, same)))

-- ---- of a line

track_at : (place : ℕ) (s : Lanes) → track (place + 1) s ≡ get_or s.tracks place (empty_track s)
track_at place s =
    let same : place + 1 - 1 ≡ place = omega arith in
    ap (λ (n : ℕ). get_or s.tracks n (empty_track s)) same

line_marked : (s : Lanes) (id : ℕ) → IsOnOneLane s
    → IsMarked s.tracks (empty_track s) 1 id (marked_on s id)
line_marked s id alone =
    marked 1 id s.tracks (empty_track s) refl
    (λ one two first second.
    let same : one + 1 ≡ two + 1 =
    alone id (one + 1) (two + 1) (omega arith) (omega arith)
    (subst (λ (t : LineState). marks_in t id ≢ []) (sym (track_at one s)) first)
    (subst (λ (t : LineState). marks_in t id ≢ []) (sym (track_at two s)) second) in
    omega (arith, same))

there_placed : (lane own : ℕ) (standing : Option Place)
    → standing_there lane (placed own standing) ≡ (if own == lane then standing else None)
there_placed lane own None = by (own == lane) where
  by : (test : Bool) → ◌≡◌ {A = Option Place} None (if test then None else None)
  by true = refl
  by false = refl
there_placed lane own (Some standing) = refl

there_by : (s : Lanes) (lane id : ℕ) → 1 ≤ lane → (list : List LaneMarks)
    → IsMarked s.tracks (empty_track s) 1 id list
    → standing_there lane (standing_on list) ≡ standing_of (marks_in (track lane s) id)
there_by s lane id some list (nowhere none empty) =
    ap (λ (l : List LaneMarks). standing_there lane (standing_on l)) empty
    ∙ ap standing_of (sym (none (lane - 1)))
there_by s lane id some list (somewhere place has apart is) =
    ap (λ (l : List LaneMarks). standing_there lane (standing_on l)) is
    ∙ there_placed lane (1 + place) (standing_of (at s.tracks (empty_track s) place id))
    ∙ by (1 + place == lane) refl where
      by : (test : Bool) → (1 + place == lane) ≡ test
          → (if test then standing_of (at s.tracks (empty_track s) place id) else None)
          ≡ standing_of (marks_in (track lane s) id)
      by true same =
          let here : 1 + place ≡ lane = eqb-true (1 + place) lane same in
          let number : place ≡ lane - 1 = omega (arith, here) in
          ap (λ (n : ℕ). standing_of (at s.tracks (empty_track s) n id)) number
      by false other =
          let here : 1 + place ≢ lane = eqb-false (1 + place) lane other in
          ap standing_of (sym (apart (lane - 1)
          (λ number. here (let same : 1 + place ≡ lane = omega (arith, number, some) in same))))

-- THE STANDING OVER ALL LANES, as one of this lane
pub there_is : (s : Lanes) (lane id : ℕ) → 1 ≤ lane → IsOnOneLane s
    → standing_there lane (standing_on (marked_on s id)) ≡ standing_of (marks_in (track lane s) id)
there_is s lane id some alone =
    there_by s lane id some (marked_on s id) (line_marked s id alone)

-- and where the id has marks, there is one
abbrev pub Stands : List LaneMarks → Type 0
Stands list = list ≢ [] → (place : LanePlace) × (standing_on list ≡ Some place)

stands_by : (s : Lanes) (id : ℕ) → StandsOnEach s → (list : List LaneMarks)
    → IsMarked s.tracks (empty_track s) 1 id list → Stands list
stands_by s id stands list (nowhere none empty) has = absurd (has empty)
stands_by s id stands list (somewhere place some apart is) has =
    let own = at s.tracks (empty_track s) place id in
    let here : (standing : Place) × HasStanding own standing =
    subst (λ (t : LineState). (standing : Place) × HasStanding (marks_in t id) standing)
    (track_at place s)
    ((stands.one (place + 1) (omega arith)).each id
    (subst (λ (t : LineState). marks_in t id ≢ []) (sym (track_at place s)) some)) in (
      record { lane = 1 + place; standing = here.0 },
      ap standing_on is ∙ ap (placed (1 + place)) (only own here.0 here.1),
    )

pub marked_stands : (s : Lanes) (id : ℕ) → StandsOnEach s → Stands (marked_on s id)
marked_stands s id stands =
    stands_by s id stands (marked_on s id) (line_marked s id stands.alone)

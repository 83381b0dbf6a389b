-- What is told beside the standings that changed.
use Rattle.std.proofs.Common.{◌≡◌, ◌∙◌, ◌==◌, ◌++◌, ℕ, Bool, true, false, List, [], ◌∷◌, Option, Some, None, refl, sym, ap}
use Rattle.std.specs.Prelude.{if◌then◌else◌}
use Rattle.std.specs.List.{AllByRecursion, flat_map}
use Rattle.standings.specs.Told.{told_of}
use Rattle.standings.specs.declared.standing.Standing.{Standing}
use Rattle.standings.specs.declared.standing.Standing.TheVariants as standings
use Rattle.standings.specs.declared.told.Told.{Told}
use Rattle.standings.specs.declared.told.Told.TheVariants as tolds
use Rattle.line_report.specs.declared.happening.Happening.{Happening}
use Rattle.line_report.specs.declared.happening.Happening.TheVariants as happenings
use Rattle.line_report.specs.declared.happening.LaneHappening.{LaneHappening}
use Rattle.line_step.specs.Shown.{ascending, ids_marked, standing_told, standings_told}
use Rattle.line_step.specs.State.{LineState, marks_in}
use Rattle.law_lanes.specs.Along.{happening_for, told_for}
use Rattle.law_lanes.specs.Lanes.{Lanes}
use Rattle.law_lanes.specs.Shown.{LaneMarks, LanePlace, is_same_place, marked_on, marks_told, place_told, standing_happens, standing_on, standings_on}
use Rattle.law_lanes.proofs.Telling.{flat_all}
use Rattle.law_lane_script.specs.Script.{beside_standings, is_standing}

beside_by : (test : Bool) (h : Happening) (front back all : List Happening) → all ≡ front ++ back
    → (if test then all else h ∷ all) ≡ (if test then front else h ∷ front) ++ back
beside_by true h front back all same = same
beside_by false h front back all same = ap (λ (t : List Happening). h ∷ t) same

pub beside_append : (front back : List Happening)
    → beside_standings (front ++ back) ≡ beside_standings front ++ beside_standings back
beside_append [] back = refl
beside_append (h ∷ front) back =
    beside_by (is_standing h) h (beside_standings front) (beside_standings back)
    (beside_standings (front ++ back)) (beside_append front back)

-- ---- over all lanes

abbrev IsStandingOn : LaneHappening → Type 0
IsStandingOn h = is_standing h.what ≡ true

stands_is : (id : ℕ) (standing : Standing) → is_standing (standing_happens id standing) ≡ true
stands_is id (standings.With machine) = refl
stands_is id (standings.Between gap) = refl

place_is : (id : ℕ) (place : Option LanePlace) → AllByRecursion IsStandingOn (place_told id place)
place_is id None = tt
place_is id (Some place) = (stands_is id place.standing, tt)

if_is : (same : Bool) (told : List LaneHappening) → AllByRecursion IsStandingOn told
    → AllByRecursion IsStandingOn (if same then [] else told)
if_is true told all = tt
if_is false told all = all

marks_are : (id : ℕ) (before after : List LaneMarks)
    → AllByRecursion IsStandingOn (marks_told id before after)
marks_are id [] [] = tt
marks_are id (own ∷ others) [] = (refl, tt)
marks_are id before (own ∷ others) =
    if_is (is_same_place (standing_on (own ∷ others)) (standing_on before)) _
    (place_is id (standing_on (own ∷ others)))

standings_are : (before after : Lanes) → AllByRecursion IsStandingOn (standings_on before after)
standings_are before after =
    flat_all IsStandingOn (λ (id : ℕ). marks_told id (marked_on before id) (marked_on after id)) _
    (λ id. marks_are id (marked_on before id) (marked_on after id))

none_if : (here : Bool) (h : Happening) → is_standing h ≡ true
    → beside_standings (if here then h ∷ [] else []) ≡ []
none_if true h is = ap (λ (b : Bool). if b then [] else h ∷ []) is
none_if false h is = refl

none_in : (lane own : ℕ) (h : Happening) → is_standing h ≡ true
    → beside_standings (happening_for lane (record { lane = own; what = h })) ≡ []
none_in lane own (happenings.Done machine act) is = cc
none_in lane own h is = none_if (own == lane) h is

none_for : (lane : ℕ) (told : List LaneHappening) → AllByRecursion IsStandingOn told
    → beside_standings (told_for lane told) ≡ []
none_for lane [] all = refl
none_for lane (h ∷ told) all =
    beside_append (happening_for lane h) (told_for lane told)
    ∙ (λ i. none_in lane h.lane h.what all.0 i ++ none_for lane told all.1 i)

pub lanes_none : (lane : ℕ) (before after : Lanes)
    → beside_standings (told_for lane (standings_on before after)) ≡ []
lanes_none lane before after =
    none_for lane (standings_on before after) (standings_are before after)

-- ---- on a track

abbrev IsStanding : Happening → Type 0
IsStanding h = is_standing h ≡ true

standing_is : (id : ℕ) (told : Option Told) → AllByRecursion IsStanding (standing_told id told)
standing_is id None = tt
standing_is id (Some (tolds.With machine)) = (refl, tt)
standing_is id (Some (tolds.Between gap)) = (refl, tt)
standing_is id (Some tolds.Gone) = (refl, tt)

all_none : (told : List Happening) → AllByRecursion IsStanding told → beside_standings told ≡ []
all_none [] all = refl
all_none (h ∷ told) all =
    ap (λ (b : Bool). if b then beside_standings told else h ∷ beside_standings told) all.0
    ∙ all_none told all.1

pub track_none : (before after : LineState)
    → beside_standings (standings_told before after) ≡ []
track_none before after =
    all_none (standings_told before after)
    (flat_all IsStanding
    (λ (id : ℕ). standing_told id (told_of (marks_in before id) (marks_in after id)))
    (ascending (ids_marked before ++ ids_marked after))
    (λ id. standing_is id (told_of (marks_in before id) (marks_in after id))))

-- The standings that a line on a lane changed are those of the ids that its acts name.
use Rattle.std.proofs.Common.{◌≡◌, ◌∙◌, ◌+◌, ◌++◌, ◌==◌, ℕ, Bool, false, List, [], ◌∷◌, Option, None, Some, ap, refl, sym}
use Rattle.std.specs.List.{AllByRecursion, flat_map}
use Rattle.standings.specs.Marks.{Owned, has_id, is_held, mark_if, marks_at, marks_from}
use Rattle.standings.specs.declared.mark.Mark.{Mark}
use Rattle.standings.specs.declared.mark.Mark.TheVariants.{Kept, Outlet, Intake}
use Rattle.line_report.specs.declared.happening.LaneHappening.{LaneHappening}
use Rattle.line_step.specs.Shown.{ascending, ids_marked, ids_owned, one_id}
use Rattle.line_step.specs.State.{LineState, marks_in, owned}
use Rattle.line_step.proofs.Ascending.{ascending_same}
use Rattle.line_step.proofs.Unnamed.{apart_ids, or_false}
use Rattle.law_lanes.specs.Shown.{marked_from, marked_on, marks_told, standings_on}
use Rattle.line_marks.specs.Indexed.{marks_in_entry, marks_listed}
use Rattle.line_marks.specs.Seats.{both, own_seat}
use Rattle.line_engine.specs.Seats.{seat_from, seat_listed, seat_told}
use Rattle.line_marks.specs.declared.seat.Seat.{Seat}
use Rattle.line_marks.specs.declared.seat.Seat.TheVariants.{Nowhere}
use Rattle.line_engine.specs.declared.track.Track.{Track}
use Rattle.line_engine.specs.Tracks.{IsOwn, lanes_of, states_of}
use Rattle.line_marks.proofs.Following.{listed_is}
use Rattle.line_engine.proofs.Seating.{same_untold, seat_is, seat_of, told_is}

-- ---- an id without a mark

has_one : (id : ℕ) (held : Option ℕ) → has_id id (one_id held) ≡ is_held id held
has_one id None = refl
has_one id (Some other) = or_false (other == id) false refl

no_marks : (machine id : ℕ) (own : Owned) (kept held taking : Bool) → has_id id own.kept ≡ kept → is_held id own.held ≡ held → is_held id own.taking ≡ taking
    → marks_at machine own id ≡ mark_if kept (Kept machine) ++ (mark_if held (Outlet machine) ++ mark_if taking (Intake machine))
no_marks machine id own kept held taking a b c =
    ap (λ (t : Bool). mark_if t (Kept machine) ++ (mark_if (is_held id own.held) (Outlet machine) ++ mark_if (is_held id own.taking) (Intake machine))) a
    ∙ ap (λ (t : Bool). mark_if kept (Kept machine) ++ (mark_if t (Outlet machine) ++ mark_if (is_held id own.taking) (Intake machine))) b
    ∙ ap (λ (t : Bool). mark_if kept (Kept machine) ++ (mark_if held (Outlet machine) ++ mark_if t (Intake machine))) c

nothing_owned : (machine id : ℕ) (own : Owned) → has_id id (ids_owned own) ≡ false → marks_at machine own id ≡ []
nothing_owned machine id own none =
    let first = apart_ids id own.kept (one_id own.held ++ one_id own.taking) none in
    let second = apart_ids id (one_id own.held) (one_id own.taking) first.1 in
    no_marks machine id own false false false first.0 (sym (has_one id own.held) ∙ second.0) (sym (has_one id own.taking) ∙ second.1)

unmarked : (machine id : ℕ) (line : List Owned) → has_id id (flat_map ids_owned line) ≡ false → marks_from machine line id ≡ []
unmarked machine id [] none = refl
unmarked machine id (own ∷ line) none =
    let two = apart_ids id (ids_owned own) (flat_map ids_owned line) none in
    ap (λ (ms : List Mark). ms ++ marks_from (machine + 1) line id) (nothing_owned machine id own two.0) ∙ unmarked (machine + 1) id line two.1

unseated : (id lane : ℕ) (ts : List LineState) → has_id id (flat_map ids_marked ts) ≡ false → seat_from id lane ts ≡ Nowhere
unseated id lane [] none = refl
unseated id lane (t ∷ ts) none =
    let two = apart_ids id (ids_marked t) (flat_map ids_marked ts) none in
    ap (λ (ms : List Mark). both (own_seat lane ms) (seat_from id (lane + 1) ts)) (unmarked 1 id (owned t) two.0) ∙ unseated id (lane + 1) ts two.1

-- ---- what is told of an id, by seats

pub seats_tell : (id : ℕ) (before after : List LineState) → marks_told id (marked_from id 1 before) (marked_from id 1 after) ≡ seat_told id (seat_from id 1 before) (seat_from id 1 after)
seats_tell id before after =
    told_is id (marked_from id 1 before) (marked_from id 1 after)
    ∙ ap (λ (s : Seat). seat_told id s (seat_of (marked_from id 1 after))) (seat_is id 1 before)
    ∙ ap (seat_told id (seat_from id 1 before)) (seat_is id 1 after)

-- the indexes say where an id is seated
pub listed_own : (id : ℕ) (track : Track) → IsOwn track → marks_listed track.index id ≡ marks_in track.state id
listed_own id track own = ap marks_in_entry (own.index.at id) ∙ listed_is (marks_in track.state id)

pub seats_listed : (id lane : ℕ) (tracks : List Track) → AllByRecursion IsOwn tracks → seat_listed id lane tracks ≡ seat_from id lane (states_of tracks)
seats_listed id lane [] owns = refl
seats_listed id lane (track ∷ tracks) owns =
    ap (λ (ms : List Mark). both (own_seat lane ms) (seat_listed id (lane + 1) tracks)) (listed_own id track owns.0)
    ∙ ap (both (own_seat lane (marks_in track.state id))) (seats_listed id (lane + 1) tracks owns.1)

pub flat_same : (f g : ℕ → List LaneHappening) → ((id : ℕ) → f id ≡ g id) → (ids : List ℕ) → flat_map f ids ≡ flat_map g ids
flat_same f g is [] = refl
flat_same f g is (id ∷ ids) = ap (λ (told : List LaneHappening). told ++ flat_map f ids) (is id) ∙ ap (λ (told : List LaneHappening). g id ++ told) (flat_same f g is ids)

-- the standings that changed, where nothing is told of ids that are not among some
pub standings_among : (ids : List ℕ) (before after : List Track) → AllByRecursion IsOwn before → AllByRecursion IsOwn after
    → ((id : ℕ) → has_id id ids ≡ false → seat_from id 1 (states_of before) ≡ seat_from id 1 (states_of after))
    → standings_on (lanes_of before) (lanes_of after) ≡ flat_map (λ (id : ℕ). seat_told id (seat_listed id 1 before) (seat_listed id 1 after)) (ascending ids)
standings_among ids before after owns now_owns same =
    ascending_same (λ (id : ℕ). marks_told id (marked_on (lanes_of before) id) (marked_on (lanes_of after) id)) (flat_map ids_marked (states_of before) ++ flat_map ids_marked (states_of after)) ids
    (λ id none. seats_tell id (states_of before) (states_of after) ∙ both_nowhere id none)
    (λ id none. seats_tell id (states_of before) (states_of after) ∙ ap (λ (s : Seat). seat_told id s (seat_from id 1 (states_of after))) (same id none) ∙ same_untold id (seat_from id 1 (states_of after)))
    ∙ flat_same (λ (id : ℕ). marks_told id (marked_on (lanes_of before) id) (marked_on (lanes_of after) id)) (λ (id : ℕ). seat_told id (seat_listed id 1 before) (seat_listed id 1 after))
    (λ id. seats_tell id (states_of before) (states_of after) ∙ ap (λ (s : Seat). seat_told id s (seat_from id 1 (states_of after))) (sym (seats_listed id 1 before owns)) ∙ ap (seat_told id (seat_listed id 1 before)) (sym (seats_listed id 1 after now_owns)))
    (ascending ids)
  where
    both_nowhere : (id : ℕ) → has_id id (flat_map ids_marked (states_of before) ++ flat_map ids_marked (states_of after)) ≡ false → seat_told id (seat_from id 1 (states_of before)) (seat_from id 1 (states_of after)) ≡ []
    both_nowhere id none =
        let two = apart_ids id (flat_map ids_marked (states_of before)) (flat_map ids_marked (states_of after)) none in
        ap (λ (s : Seat). seat_told id s (seat_from id 1 (states_of after))) (unseated id 1 (states_of before) two.0) ∙ ap (seat_told id Nowhere) (unseated id 1 (states_of after) two.1)

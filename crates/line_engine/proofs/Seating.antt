-- Where an id is seated, over several lanes.
use Rattle.std.proofs.Common.{◌≡◌, ◌∙◌, ◌+◌, ◌-◌, ◌≤◌, ◌<◌, ◌==◌, ℕ, true, false, zero, suc, List, [], ◌∷◌, ap, arith, drop, length, refl, sym, eq-eqb}
use Rattle.std.proofs.lemmas.List.{drop_all, drop_more}
use Rattle.std.specs.Prelude.{Option, Some, None, if◌then◌else◌, slice_get, slice_index_or}
use Rattle.standings.specs.Standing.{standing_of}
use Rattle.standings.specs.declared.mark.Mark.{Mark}
use Rattle.standings.specs.declared.standing.Standing.{Standing}
use Rattle.standings.specs.declared.standing.Standing.TheVariants.{Between, With}
use Rattle.standings.specs.Told.{is_same_standing}
use Rattle.line_report.specs.Lanes.{told_on}
use Rattle.line_report.specs.declared.happening.Happening.TheVariants as happenings
use Rattle.line_step.specs.State.{LineState, marks_in}
use Rattle.line_step.proofs.Ascending.{choose_false, choose_true}
use Rattle.law_lanes.specs.Shown.{LaneMarks, LanePlace, is_same_place, marked_from, marks_told, place_told, placed, standing_happens, standing_on, with_marks}
use Rattle.line_marks.specs.declared.seat.Seat.{Seat}
use Rattle.line_marks.specs.declared.seat.Seat.TheVariants.{Nowhere, Unclear, At}
use Rattle.line_engine.specs.declared.track.Track.{Track}
use Rattle.line_marks.specs.Indexed.{marks_listed}
use Rattle.line_marks.specs.Seats.{both, own_seat, seat_at}
use Rattle.line_engine.specs.Seats.{is_same_seat, place_in, seat_beside, seat_from, seat_listed, seat_told}
use Rattle.line_engine.specs.Tracks.{track_in, with_behind}

-- ---- seats together

pub both_nowhere : (one : Seat) → both one Nowhere ≡ one
both_nowhere Nowhere = refl
both_nowhere Unclear = refl
both_nowhere (At place) = refl

pub both_assoc : (one other third : Seat) → both (both one other) third ≡ both one (both other third)
both_assoc Nowhere other third = refl
both_assoc Unclear Nowhere third = refl
both_assoc Unclear Unclear Nowhere = refl
both_assoc Unclear Unclear Unclear = refl
both_assoc Unclear Unclear (At p) = refl
both_assoc Unclear (At q) Nowhere = refl
both_assoc Unclear (At q) Unclear = refl
both_assoc Unclear (At q) (At p) = refl
both_assoc (At r) Nowhere third = refl
both_assoc (At r) Unclear Nowhere = refl
both_assoc (At r) Unclear Unclear = refl
both_assoc (At r) Unclear (At p) = refl
both_assoc (At r) (At q) Nowhere = refl
both_assoc (At r) (At q) Unclear = refl
both_assoc (At r) (At q) (At p) = refl

pub both_swap : (one other : Seat) → both one other ≡ both other one
both_swap Nowhere other = sym (both_nowhere other)
both_swap Unclear Nowhere = refl
both_swap Unclear Unclear = refl
both_swap Unclear (At p) = refl
both_swap (At q) Nowhere = refl
both_swap (At q) Unclear = refl
both_swap (At q) (At p) = refl

-- ---- by the marks of lanes

-- what a list of lanes gives
abbrev pub seat_of : List LaneMarks → Seat
seat_of [] = Nowhere
seat_of (own ∷ []) = seat_at own.lane (standing_of own.marks)
seat_of (own ∷ other ∷ others) = Unclear

seat_more : (lane : ℕ) (standing : Option Standing) (other : LaneMarks) (others : List LaneMarks) → Unclear ≡ both (seat_at lane standing) (seat_of (other ∷ others))
seat_more lane None other [] = seat_more_by (standing_of other.marks)
  where
    seat_more_by : (standing : Option Standing) → Unclear ≡ both Unclear (seat_at other.lane standing)
    seat_more_by None = refl
    seat_more_by (Some s) = refl
seat_more lane None other (third ∷ others) = refl
seat_more lane (Some s) other [] = seat_more_to (standing_of other.marks)
  where
    seat_more_to : (standing : Option Standing) → Unclear ≡ both (At (record { lane = lane; standing = s })) (seat_at other.lane standing)
    seat_more_to None = refl
    seat_more_to (Some t) = refl
seat_more lane (Some s) other (third ∷ others) = refl

seat_with : (lane : ℕ) (marks : List Mark) (others : List LaneMarks) → seat_of (with_marks lane marks others) ≡ both (own_seat lane marks) (seat_of others)
seat_with lane [] others = refl
seat_with lane (mark ∷ marks) [] = sym (both_nowhere (seat_at lane (standing_of (mark ∷ marks))))
seat_with lane (mark ∷ marks) (other ∷ others) = seat_more lane (standing_of (mark ∷ marks)) other others

pub seat_is : (id lane : ℕ) (ts : List LineState) → seat_of (marked_from id lane ts) ≡ seat_from id lane ts
seat_is id lane [] = refl
seat_is id lane (t ∷ ts) = seat_with lane (marks_in t id) (marked_from id (lane + 1) ts) ∙ ap (both (own_seat lane (marks_in t id))) (seat_is id (lane + 1) ts)

place_at : (lane : ℕ) (standing : Option Standing) → place_in (seat_at lane standing) ≡ placed lane standing
place_at lane None = refl
place_at lane (Some standing) = refl

pub place_is : (marks : List LaneMarks) → place_in (seat_of marks) ≡ standing_on marks
place_is [] = refl
place_is (own ∷ []) = place_at own.lane (standing_of own.marks)
place_is (own ∷ other ∷ others) = refl

-- ---- what is told

told_at : (id : ℕ) (b : Seat) (lane : ℕ) (s : Option Standing) → (if is_same_place (placed lane s) (place_in b) then [] else place_told id (placed lane s)) ≡ seat_told id b (seat_at lane s)
told_at id Nowhere lane None = refl
told_at id Unclear lane None = refl
told_at id (At before) lane None = refl
told_at id Nowhere lane (Some s) = refl
told_at id Unclear lane (Some s) = refl
told_at id (At before) lane (Some s) = refl

told_many : (id : ℕ) (b : Seat) → (if is_same_place None (place_in b) then [] else place_told id None) ≡ seat_told id b Unclear
told_many id Nowhere = refl
told_many id Unclear = refl
told_many id (At before) = refl

told_now : (id : ℕ) (b : Seat) (own : LaneMarks) (others : List LaneMarks) → (if is_same_place (standing_on (own ∷ others)) (place_in b) then [] else place_told id (standing_on (own ∷ others))) ≡ seat_told id b (seat_of (own ∷ others))
told_now id b own [] = told_at id b own.lane (standing_of own.marks)
told_now id b own (other ∷ others) = told_many id b

gone_at : (id lane : ℕ) (s : Option Standing) → told_on 1 (happenings.Gone id ∷ []) ≡ seat_told id (seat_at lane s) Nowhere
gone_at id lane None = refl
gone_at id lane (Some s) = refl

gone_told : (id : ℕ) (own : LaneMarks) (others : List LaneMarks) → marks_told id (own ∷ others) [] ≡ seat_told id (seat_of (own ∷ others)) Nowhere
gone_told id own [] = gone_at id own.lane (standing_of own.marks)
gone_told id own (other ∷ others) = refl

some_told : (id : ℕ) (before : List LaneMarks) (own : LaneMarks) (others : List LaneMarks) → (if is_same_place (standing_on (own ∷ others)) (standing_on before) then [] else place_told id (standing_on (own ∷ others))) ≡ seat_told id (seat_of before) (seat_of (own ∷ others))
some_told id before own others =
    ap (λ (place : Option LanePlace). if is_same_place (standing_on (own ∷ others)) place then [] else place_told id (standing_on (own ∷ others))) (sym (place_is before))
    ∙ told_now id (seat_of before) own others

pub told_is : (id : ℕ) (before after : List LaneMarks) → marks_told id before after ≡ seat_told id (seat_of before) (seat_of after)
told_is id [] [] = refl
told_is id (own ∷ others) [] = gone_told id own others
told_is id [] (own ∷ others) = some_told id [] own others
told_is id (first ∷ more) (own ∷ others) = some_told id (first ∷ more) own others

-- nothing is told of an id that is seated as it was
same_standing : (s : Standing) → is_same_standing (Some s) (Some s) ≡ true
same_standing (With machine) = eq-eqb machine machine refl
same_standing (Between gap) = eq-eqb gap gap refl

pub same_untold : (id : ℕ) (s : Seat) → seat_told id s s ≡ []
same_untold id Nowhere = refl
same_untold id Unclear = refl
same_untold id (At place) =
    choose_true (is_same_seat (At place) place) [] (told_on place.lane (standing_happens id place.standing ∷ []))
    (choose_true (place.lane == place.lane) (is_same_standing (Some place.standing) (Some place.standing)) false (eq-eqb place.lane place.lane refl) ∙ same_standing place.standing)

-- ---- one lane and the others

beyond : (id own lane : ℕ) (tracks : List Track) → own < lane → seat_beside own id lane tracks ≡ seat_listed id lane tracks
beyond id own lane [] past = refl
beyond id own lane (track ∷ tracks) past =
    let other : (lane == own) ≡ false = grind (arith, past) in
    ap (λ (s : Seat). both s (seat_beside own id (lane + 1) tracks)) (choose_false (lane == own) Nowhere (own_seat lane (marks_listed track.index id)) other)
    ∙ ap (both (own_seat lane (marks_listed track.index id))) (beyond id own (lane + 1) tracks (omega (arith, past)))

listed_at : (id own lane place : ℕ) (tracks : List Track) (track : Track) → slice_get tracks place ≡ Some track → own ≡ lane + place
    → seat_listed id lane tracks ≡ both (own_seat own (marks_listed track.index id)) (seat_beside own id lane tracks)
listed_at id own lane place [] track there is = absurd (cc)
listed_at id own lane zero (first ∷ tracks) track there is =
    let one : own ≡ lane = omega (arith, is) in
    let same : first ≡ track = cc in
    let here : (lane == own) ≡ true = eq-eqb lane own (sym one) in
    ap (λ (t : Track). both (own_seat lane (marks_listed t.index id)) (seat_listed id (lane + 1) tracks)) same
    ∙ ap (λ (n : ℕ). both (own_seat n (marks_listed track.index id)) (seat_listed id (lane + 1) tracks)) (sym one)
    ∙ ap (both (own_seat own (marks_listed track.index id))) (sym (beyond id own (lane + 1) tracks (omega (arith, one)))
    ∙ ap (λ (s : Seat). both s (seat_beside own id (lane + 1) tracks)) (sym (choose_true (lane == own) Nowhere (own_seat lane (marks_listed first.index id)) here)))
listed_at id own lane (suc place) (first ∷ tracks) track there is =
    let other : (lane == own) ≡ false = grind (arith, is) in
    let mine : Seat = own_seat own (marks_listed track.index id) in
    let one : Seat = own_seat lane (marks_listed first.index id) in
    ap (both one) (listed_at id own (lane + 1) place tracks track there (omega (arith, is)))
    ∙ sym (both_assoc one mine (seat_beside own id (lane + 1) tracks))
    ∙ ap (λ (s : Seat). both s (seat_beside own id (lane + 1) tracks)) (both_swap one mine)
    ∙ both_assoc mine one (seat_beside own id (lane + 1) tracks)
    ∙ ap (λ (s : Seat). both mine (both s (seat_beside own id (lane + 1) tracks))) (sym (choose_false (lane == own) Nowhere one other))

-- the seat on all lanes is that on one and that on the others
pub seats_apart : (id lane : ℕ) (tracks : List Track) (track : Track) → track_in lane tracks ≡ Some track
    → seat_listed id 1 tracks ≡ both (own_seat lane (marks_listed track.index id)) (seat_beside lane id 1 tracks)
seats_apart id zero tracks track there = absurd (cc)
seats_apart id (suc place) tracks track there = listed_at id (suc place) 1 place tracks track there (omega arith)

-- the index of a lane changes nothing on the others
beside_others : (id own lane place : ℕ) (tracks : List Track) (track : Track) → own ≡ lane + place
    → seat_beside own id lane (with_behind place track tracks) ≡ seat_beside own id lane tracks
beside_others id own lane place [] track is = refl
beside_others id own lane zero (first ∷ tracks) track is =
    let here : (lane == own) ≡ true = eq-eqb lane own (omega (arith, is)) in
    ap (λ (s : Seat). both s (seat_beside own id (lane + 1) tracks))
    (choose_true (lane == own) Nowhere (own_seat lane (marks_listed track.index id)) here
    ∙ sym (choose_true (lane == own) Nowhere (own_seat lane (marks_listed first.index id)) here))
beside_others id own lane (suc place) (first ∷ tracks) track is =
    ap (both (if lane == own then Nowhere else own_seat lane (marks_listed first.index id)))
    (beside_others id own (lane + 1) place tracks track (omega (arith, is)))

pub beside_same : (id lane : ℕ) (tracks : List Track) (track : Track) → 1 ≤ lane → seat_beside lane id 1 (with_behind (lane - 1) track tracks) ≡ seat_beside lane id 1 tracks
beside_same id lane tracks track least = beside_others id lane 1 (lane - 1) tracks track (omega (arith, least))

pub beside_at : (id place : ℕ) (tracks : List Track) (track : Track) → seat_beside (suc place) id 1 (with_behind place track tracks) ≡ seat_beside (suc place) id 1 tracks
beside_at id place tracks track = beside_others id (suc place) 1 place tracks track (omega arith)

-- ---- one lane after another

pub seats_next : (id lane place : ℕ) (tracks : List Track) (track : Track) (before now whole : Seat) → place < length tracks → track ≡ slice_index_or tracks place track
    → both before (seat_listed id lane (drop place tracks)) ≡ whole → now ≡ both before (own_seat lane (marks_listed track.index id)) → both now (seat_listed id (lane + 1) (drop (place + 1) tracks)) ≡ whole
seats_next id lane place tracks track before now whole within at is now_is =
    ap (λ (s : Seat). both s (seat_listed id (lane + 1) (drop (place + 1) tracks))) now_is
    ∙ both_assoc before (own_seat lane (marks_listed track.index id)) (seat_listed id (lane + 1) (drop (place + 1) tracks))
    ∙ ap (λ (ts : List Track). both before (seat_listed id lane ts)) (sym (drop_more tracks place track within ∙ ap (λ (t : Track). t ∷ drop (place + 1) tracks) (sym at)))
    ∙ is

pub seats_last : (id lane place : ℕ) (tracks : List Track) (now whole : Seat) → length tracks ≤ place → both now (seat_listed id lane (drop place tracks)) ≡ whole → now ≡ whole
seats_last id lane place tracks now whole past is = sym (both_nowhere now) ∙ ap (λ (ts : List Track). both now (seat_listed id lane ts)) (sym (drop_all place tracks past)) ∙ is

pub others_next : (id own lane place : ℕ) (tracks : List Track) (track : Track) (before now whole : Seat) → place < length tracks → track ≡ slice_index_or tracks place track
    → both before (seat_beside own id lane (drop place tracks)) ≡ whole → now ≡ both before (if lane == own then Nowhere else own_seat lane (marks_listed track.index id)) → both now (seat_beside own id (lane + 1) (drop (place + 1) tracks)) ≡ whole
others_next id own lane place tracks track before now whole within at is now_is =
    ap (λ (s : Seat). both s (seat_beside own id (lane + 1) (drop (place + 1) tracks))) now_is
    ∙ both_assoc before (if lane == own then Nowhere else own_seat lane (marks_listed track.index id)) (seat_beside own id (lane + 1) (drop (place + 1) tracks))
    ∙ ap (λ (ts : List Track). both before (seat_beside own id lane ts)) (sym (drop_more tracks place track within ∙ ap (λ (t : Track). t ∷ drop (place + 1) tracks) (sym at)))
    ∙ is

pub others_last : (id own lane place : ℕ) (tracks : List Track) (now whole : Seat) → length tracks ≤ place → both now (seat_beside own id lane (drop place tracks)) ≡ whole → now ≡ whole
others_last id own lane place tracks now whole past is = sym (both_nowhere now) ∙ ap (λ (ts : List Track). both now (seat_beside own id lane ts)) (sym (drop_all place tracks past)) ∙ is

-- WHERE THE RECORD OF A BOARD STANDS, over the lanes of a line, and what is told of it.
use Rattle.std.specs.Prelude.{◌+◌, ◌==◌, ℕ, Bool, false, List, [], ◌∷◌, Option, Some, None, if◌then◌else◌}
use Rattle.standings.specs.Told.{is_same_standing}
use Rattle.standings.specs.declared.mark.Mark.{Mark}
use Rattle.line_report.specs.Lanes.{told_on}
use Rattle.line_report.specs.declared.happening.Happening.TheVariants as happenings
use Rattle.line_report.specs.declared.happening.LaneHappening.{LaneHappening}
use Rattle.line_step.specs.State.{LineState, marks_in}
use Rattle.line_marks.specs.Indexed.{marks_listed}
use Rattle.line_marks.specs.Seats.{both, own_seat}
use Rattle.line_marks.specs.declared.seat.LaneStanding.{LaneStanding}
use Rattle.line_marks.specs.declared.seat.Seat.{Seat}
use Rattle.line_marks.specs.declared.seat.Seat.TheVariants.{Nowhere, Unclear, At}
use Rattle.law_lanes.specs.Shown.{LanePlace, standing_happens}
use Rattle.line_engine.specs.declared.track.Track.{Track}

-- on the lanes from this one on
abbrev pub seat_from : ℕ → ℕ → List LineState → Seat
seat_from id lane [] = Nowhere
seat_from id lane (t ∷ ts) = both (own_seat lane (marks_in t id)) (seat_from id (lane + 1) ts)

-- the same of indexes, and of all lanes but one
abbrev pub seat_listed : ℕ → ℕ → List Track → Seat
seat_listed id lane [] = Nowhere
seat_listed id lane (track ∷ tracks) =
    both (own_seat lane (marks_listed track.index id)) (seat_listed id (lane + 1) tracks)

abbrev pub seat_beside : ℕ → ℕ → ℕ → List Track → Seat
seat_beside own id lane [] = Nowhere
seat_beside own id lane (track ∷ tracks) =
    both (if lane == own then Nowhere else own_seat lane (marks_listed track.index id))
    (seat_beside own id (lane + 1) tracks)

-- a standing with its lane, as it is seen
abbrev pub place_of : LaneStanding → LanePlace
place_of s = record { lane = s.lane; standing = s.standing }

-- the standing, if there is one
abbrev pub place_in : Seat → Option LanePlace
place_in Nowhere = None
place_in Unclear = None
place_in (At place) = Some (place_of place)

-- ---- what is told of it

abbrev pub is_same_seat : Seat → LaneStanding → Bool
is_same_seat Nowhere now = false
is_same_seat Unclear now = false
is_same_seat (At before) now =
    if now.lane == before.lane
    then is_same_standing (Some now.standing) (Some before.standing) else false

abbrev pub seat_told : ℕ → Seat → Seat → List LaneHappening
seat_told id Nowhere Nowhere = []
seat_told id before Nowhere = told_on 1 (happenings.Gone id ∷ [])
seat_told id before Unclear = []
seat_told id before (At now) =
    if is_same_seat before now then [] else
    told_on now.lane (standing_happens id now.standing ∷ [])

-- what is told of an id on a lane, where it is seated on the others so
abbrev pub moved_told : ℕ → Seat → ℕ → List Mark → List Mark → List LaneHappening
moved_told lane beside id before now =
    seat_told id (both (own_seat lane before) beside) (both (own_seat lane now) beside)

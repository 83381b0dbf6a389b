-- THE TRACKS of a line in code: of each lane its line, and the index of its boards.
use Rattle.std.specs.Prelude.{◌≡◌, ◌≢◌, ◌==◌, ◌≤◌, ◌++◌, ◌-◌, ℕ, ◌<◌, zero, suc, Bool, true, false, IsSomeAnd, List, [], ◌∷◌, Option, None, Some, length, map, nat_eq, slice_get, if◌then◌else◌}
use Rattle.std.specs.List.{AllByRecursion, flat_map}
use Rattle.node_core.specs.Shared.{shared_of}
use Rattle.board_record.specs.declared.record.Record.{Record}
use Rattle.node_core.specs.declared.input.Input.TheVariants as inputs
use Rattle.line_report.specs.Lanes.{told_on}
use Rattle.line_report.specs.Shifts.{shift_told}
use Rattle.line_report.specs.declared.happening.Happening.TheVariants as happenings
use Rattle.standings.specs.Marks.{Owned}
use Rattle.standings.specs.declared.mark.Mark.{Mark}
use Rattle.line_marks.specs.Stepped.{told_each}
use Rattle.line_report.specs.declared.happening.Happening.{Happening}
use Rattle.line_report.specs.declared.happening.LaneHappening.{LaneHappening}
use Rattle.line_step.specs.Named.{ids_named}
use Rattle.line_step.specs.Shown.{ascending}
use Rattle.line_step.specs.Reasons.{May, may_do}
use Rattle.line_step.specs.State.{LineState, no_line, owned}
use Rattle.line_step.specs.Steps.{MachineSteps}
use Rattle.line_step.specs.Together.{IsLineTogether}
use Rattle.law_lanes.specs.Lanes.{Lanes}
use Rattle.law_lanes.specs.Shown.{standings_on}
use Rattle.line_marks.specs.declared.index.Moved.{Moved}
use Rattle.line_engine.specs.declared.track.Track.{Track}
use Rattle.line_marks.specs.Indexed.{Entries, Follows, IsIndexOf, entry_at, indexed, marks_listed, patched}
use Rattle.line_machines.specs.Given.{GivesBoard}
use Rattle.line_marks.specs.Seats.{own_seat}
use Rattle.line_engine.specs.Seats.{moved_told, seat_beside, seat_listed, seat_told}
use Rattle.line_machines.specs.Sharing.{AreNumbered, shared_in}
use Rattle.line_engine.specs.Sharing.{following}
use Rattle.line_engine.specs.declared.sharing.Shares.{Shares}

abbrev pub state_of : Track → LineState
state_of track = track.state

abbrev pub states_of : List Track → List LineState
states_of [] = []
states_of (track ∷ tracks) = track.state ∷ states_of tracks

-- the line of which they are the tracks
abbrev pub lanes_of : List Track → Lanes
lanes_of tracks = record { spent = false; tracks = states_of tracks }

-- the track of a lane, if there is one
abbrev pub track_in : ℕ → List Track → Option Track
track_in zero tracks = None
track_in (suc before) tracks = slice_get tracks before

-- and the tracks with another one in its place
abbrev pub with_behind : ℕ → Track → List Track → List Track
with_behind before track [] = []
with_behind zero track (own ∷ others) = track ∷ others
with_behind (suc before) track (own ∷ others) = own ∷ with_behind before track others

-- ---- what stands together in them

-- two tracks are of one line: the lanes of a machine share what they share, and they count alike
pub record IsLike (one other : LineState) : Type 0 where
  pub shared : map shared_of one.machines ≡ map shared_of other.machines
  pub lines : one.lines ≡ other.lines
  pub unvouched : one.unvouched ≡ other.unvouched

abbrev pub AreLike : List LineState → Type 0
AreLike [] = Unit {0}
AreLike (own ∷ others) = AllByRecursion (IsLike own) others

-- a track with its own index
pub record IsOwn (track : Track) : Type 0 where
  pub together : IsLineTogether track.state
  pub numbered : AreNumbered track.state
  pub index : IsIndexOf track.index (owned track.state)

pub record AreKept (tracks : List Track) : Type 0 where
  pub few : length tracks ≤ 4
  pub each : AllByRecursion IsOwn tracks
  pub alike : AreLike (states_of tracks)

-- ---- a step on one of them

-- the track of a lane is another, and its index stays
abbrev pub with_state : ℕ → LineState → Track → List Track → List Track
with_state lane next own tracks = with_behind (lane - 1) (record own { state = next }) tracks

abbrev pub with_index : ℕ → Entries → Track → List Track → List Track
with_index lane index own tracks = with_behind (lane - 1) (record own { index = index }) tracks

-- a step of the track of a lane
pub record StepsOn (lane : ℕ) (Does : LineState → LineState → Type 0)
    (before after : List Track) : Type 0 where
  pub own : Track
  pub there : track_in lane before ≡ Some own
  pub next : LineState
  pub does : Does own.state next
  pub after_is : after ≡ with_state lane next own before

-- what is told of an id whose marks on a lane were these and are those, beside its other lanes
abbrev pub lane_told : ℕ → List Track → ℕ → List Mark → List Mark → List LaneHappening
lane_told lane tracks id before now = moved_told lane (seat_beside lane id 1 tracks) id before now

-- the index of a track followed one id
pub record FollowsTrack (lane first last id : ℕ) (before after : Track) (moved : Moved) : Type 0 where
  pub index : Entries
  pub after_is : after ≡ record before { index = index }
  pub was : moved.was ≡ own_seat lane (marks_listed before.index id)
  pub now : moved.now
      ≡ own_seat lane
      (patched first last (owned before.state) (marks_listed before.index id) id)
  pub entries : (other : ℕ) → entry_at index other
      ≡ (if nat_eq id other
      then indexed (patched first last (owned before.state) (marks_listed before.index id) id)
      else entry_at before.index other)

-- and so did that of a lane
pub record FollowsOne (lane first last id : ℕ) (before after : List Track) (moved : Moved)
    : Type 0 where
  pub own : Track
  pub there : track_in lane before ≡ Some own
  pub index : Entries
  pub after_is : after ≡ with_index lane index own before
  pub was : moved.was ≡ own_seat lane (marks_listed own.index id)
  pub now : moved.now
      ≡ own_seat lane
      (patched first last (owned own.state) (marks_listed own.index id) id)
  pub entries : (other : ℕ) → entry_at index other
      ≡ (if nat_eq id other
      then indexed (patched first last (owned own.state) (marks_listed own.index id) id)
      else entry_at own.index other)

-- and it is that of what the lane has now
pub record FollowsLane (lane : ℕ) (done : List Happening) (own : Track) (line : List Owned)
    (before after : List Track) (old new : List LaneHappening) : Type 0 where
  pub index : Entries
  pub index_is : IsIndexOf index (owned own.state)
  pub after_is : after ≡ with_index lane index own before
  pub told : new
      ≡ old ++ (told_on lane done
      ++ told_each (lane_told lane before) (ascending (ids_named done)) line (owned own.state))

-- the index of a lane followed a line that did this, and that and the standings were told
pub record FollowsDone (lane first last : ℕ) (done : List Happening) (before after : List Track)
    (old new : List LaneHappening) : Type 0 where
  pub own : Track
  pub there : track_in lane before ≡ Some own
  pub each : (line : List Owned) → IsIndexOf own.index line
      → Follows first last (ids_named done) line (owned own.state)
      → FollowsLane lane done own line before after old new

-- both lanes of a shift followed it, and that and the standings were told: where the indexes were
-- those of two lines, of which the machine may have stepped, they are those of what there is now
pub record FollowsBoth (machine from to : ℕ) (given got : List Happening) (before after : List Track)
    (old new : List LaneHappening) : Type 0 where
  pub giver : Track
  pub taker : Track
  pub from_is : track_in from before ≡ Some giver
  pub to_is : track_in to before ≡ Some taker
  pub given_index : Entries
  pub got_index : Entries
  pub after_is : after
      ≡ with_index to got_index taker (with_index from given_index giver before)
  pub each : (line other : List Owned) → IsIndexOf giver.index line → IsIndexOf taker.index other
      → Follows machine machine (ids_named (given ++ got)) line (owned giver.state)
      → Follows machine machine (ids_named (given ++ got)) other (owned taker.state)
      → IsIndexOf given_index (owned giver.state) × IsIndexOf got_index (owned taker.state)
      × (new ≡ old ++ (shift_told from to given got
      ++ flat_map (λ (id : ℕ). seat_told id (seat_listed id 1 before) (seat_listed id 1 after))
      (ascending (ids_named (given ++ got)))))

-- the lane is there, and the track stands together
abbrev pub IsReady : ℕ → List Track → Type 0
IsReady lane tracks =
    IsSomeAnd (track_in lane tracks)
    (λ (own : Track). IsLineTogether own.state × AreNumbered own.state)

-- another lane than this one
abbrev pub lane_beside : ℕ → ℕ
lane_beside lane = if lane == 1 then 2 else 1

-- all other lanes are of one line, and the machines of each have their numbers
pub record AreBeside (lane : ℕ) (tracks : List Track) : Type 0 where
  pub line : LineState
  pub others : (other : ℕ) (track : Track) → other ≢ lane → track_in other tracks ≡ Some track
      → IsLike line track.state × AreNumbered track.state

-- and nothing stands against this there
abbrev pub MayOn : ℕ → (LineState → May) → List Track → Type 0
MayOn lane may tracks =
    IsSomeAnd (track_in lane tracks)
    (λ (own : Track). IsLineTogether own.state × (may own.state ≡ may_do))

-- a machine of the lane gives a board, or gets one
abbrev pub GivesOn : ℕ → ℕ → ℕ → ℕ → ℕ → List Track → List Track → List Happening → Record
    → Type 0
GivesOn number machine from id to before after told board =
    StepsOn from
    (λ (was now : LineState). GivesBoard number machine id to was now told board) before after

abbrev pub TakesOn : ℕ → ℕ → ℕ → Record → List Track → List Track → List Happening → Type 0
TakesOn number machine to board before after told =
    StepsOn to
    (λ (was now : LineState). MachineSteps number machine (inputs.Gets board) was now told) before
    after

-- what a lane has to share at the machines of two numbers
pub record SharesOf (lane first last : ℕ) (tracks : List Track) (shares : Shares) : Type 0 where
  pub own : Track
  pub there : track_in lane tracks ≡ Some own
  pub last_is : shares.last ≡ shared_in last own.state
  pub first_is : shares.first ≡ shared_in first own.state
  pub unvouched_is : shares.unvouched ≡ own.state.unvouched

-- the lanes followed one
pub record IsFollowing (lane first last : ℕ) (before after : List Track) : Type 0 where
  pub own : Track
  pub there : track_in lane before ≡ Some own
  pub after_is : after ≡ following first last own.state before

-- a machine more has room
pub record HasRoom (track : Track) : Type 0 where
  pub together : IsLineTogether track.state
  pub few : length track.state.machines < 64

abbrev pub empty_track : ℕ → Option ℕ → Track
empty_track lines unvouched =
    record { state = record no_line { lines = lines; unvouched = unvouched }; index = [] }

abbrev pub empty_tracks : ℕ → ℕ → Option ℕ → List Track
empty_tracks zero lines unvouched = []
empty_tracks (suc more) lines unvouched =
    empty_track lines unvouched ∷ empty_tracks more lines unvouched

abbrev pub made_told : Bool → ℕ → ℕ → Happening
made_told true number capacity = happenings.Bridge number capacity
made_told false number capacity = happenings.Machine number capacity

-- a line of the script is done, and what it did is told behind what was told before, with the
-- standings that it changed
pub record TellsDone (Does : Lanes → Lanes → List LaneHappening → Type 0)
    (before after : List Track) (old new : List LaneHappening) : Type 0 where
  pub done : List LaneHappening
  pub does : Does (lanes_of before) (lanes_of after) done
  pub now_is : new ≡ old ++ (done ++ standings_on (lanes_of before) (lanes_of after))

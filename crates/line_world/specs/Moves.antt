use Rattle.std.specs.Prelude.{◌≡◌, ◌+◌, ◌-◌, ◌++◌, ◌∷◌, [], ◌&&◌, ℕ, Bool, true, false, not, List, Option, Some, None, Result, Ok, Err, IsOk, drop, find, is_none, length, nat_lt, slice_get, slice_set, if◌then◌else◌, codes}
use Rattle.line_base.specs.declared.states.Side.{Side}
use Rattle.line_base.specs.declared.states.Side.TheVariants as sides
use Rattle.line_base.specs.declared.states.SensorEvent.{SensorEvent}
use Rattle.line_base.specs.declared.states.SensorEvent.TheVariants as sensors
use Rattle.board_record.specs.declared.sensed.Sensed.{Sensed}
use Rattle.line_world.specs.declared.board.Board.{Board}
use Rattle.line_world.specs.declared.gap.Gap.{Gap}
use Rattle.line_world.specs.declared.gap.Gap.TheVariants as gaps
use Rattle.line_world.specs.declared.gap.AtGap.{AtGap}
use Rattle.line_world.specs.declared.moves.Move.{Move}
use Rattle.line_world.specs.declared.moves.Move.TheVariants as moves
use Rattle.line_world.specs.declared.moves.MoveNo.{MoveNo}
use Rattle.line_world.specs.declared.moves.MoveNo.TheVariants as nos
use Rattle.line_world.specs.declared.moves.MoveError.{MoveError}
use Rattle.line_world.specs.declared.moves.MoveError.TheVariants as errors
use Rattle.line_world.specs.FloorPlan.{AtMachine, FloorPlan, gap_at, machine_at, with_drive}

-- a gap with the machines on either side of it
pub record Around : Type 0 where
  pub up : AtMachine
  pub between : AtGap
  pub down : AtMachine

-- where a move takes a board from, and where it puts it
pub data Spot : Type 0 where
  front_upstream : Spot
  begun : Spot
  left : Spot
  back_downstream : Spot
  off_the_floor : Spot

-- one row of the move table: the reasons against the move in the order in which they are tested,
-- where the board goes from and to, the drive that stops, and the events, each with the side of
-- the machine whose sensor sees it
pub record Row : Type 0 where
  pub reasons : List MoveNo
  pub from : Spot
  pub to : Spot
  pub stops : Option Side
  pub events : List Sensed

abbrev pub exit_sees : SensorEvent → Sensed
exit_sees event = record { side = sides.Exit; event = event }

abbrev pub entry_sees : SensorEvent → Sensed
entry_sees event = record { side = sides.Entry; event = event }

-- the move table. `no gap` comes before each row's reasons. That a board which leaves the upstream
-- machine stops the exit drive is a stop wired into the conveyor
abbrev pub row_of : Move → Gap → Row
row_of moves.Begin _ = record {
  reasons = nos.ExitDriveOff ∷ nos.GapNotFree ∷ nos.NothingThere ∷ [];
  from = front_upstream;
  to = begun;
  stops = None;
  events = exit_sees sensors.Begun ∷ entry_sees sensors.Begun ∷ [];
}
row_of moves.Left _ = record {
  reasons = nos.NotBegun ∷ nos.ExitDriveOff ∷ nos.EntryDriveOff ∷ [];
  from = begun;
  to = left;
  stops = Some sides.Exit;
  events = exit_sees sensors.Left ∷ [];
}
row_of moves.Enter _ = record {
  reasons = nos.NotLeft ∷ nos.EntryDriveOff ∷ [];
  from = left;
  to = back_downstream;
  stops = Some sides.Entry;
  events = entry_sees sensors.Full ∷ [];
}
row_of moves.Back _ = record {
  reasons = nos.NotBegun ∷ nos.ExitDriveOn ∷ [];
  from = begun;
  to = front_upstream;
  stops = None;
  events = exit_sees sensors.Back ∷ entry_sees sensors.Back ∷ [];
}
row_of moves.HandIn _ = record {
  reasons = nos.NotLeft ∷ nos.EntryDriveOn ∷ [];
  from = left;
  to = back_downstream;
  stops = None;
  events = entry_sees sensors.Full ∷ [];
}
row_of moves.Take gaps.Free = record {
  reasons = nos.NotBegun ∷ [];
  from = begun;
  to = off_the_floor;
  stops = None;
  events = exit_sees sensors.Taken ∷ entry_sees sensors.Taken ∷ [];
}
row_of moves.Take (gaps.Begun _) = record {
  reasons = nos.ExitDriveOn ∷ [];
  from = begun;
  to = off_the_floor;
  stops = None;
  events = exit_sees sensors.Taken ∷ entry_sees sensors.Taken ∷ [];
}
row_of moves.Take (gaps.Left _) = record {
  reasons = nos.EntryDriveOn ∷ [];
  from = left;
  to = off_the_floor;
  stops = None;
  events = exit_sees sensors.Taken ∷ entry_sees sensors.Taken ∷ [];
}

abbrev pub is_free : Gap → Bool
is_free gaps.Free = true
is_free (gaps.Begun _) = false
is_free (gaps.Left _) = false

abbrev pub board_begun : Gap → Option Board
board_begun gaps.Free = None
board_begun (gaps.Begun board) = Some board
board_begun (gaps.Left _) = None

abbrev pub board_left : Gap → Option Board
board_left gaps.Free = None
board_left (gaps.Begun _) = None
board_left (gaps.Left board) = Some board

-- whether a reason holds around a gap that is there
abbrev pub holds : Around → MoveNo → Bool
holds around nos.NoGap = false
holds around nos.ExitDriveOff = not around.between.exit_drive
holds around nos.GapNotFree = not (is_free around.between.lies)
holds around nos.NothingThere = is_none (slice_get around.up.boards 0)
holds around nos.NotBegun = is_none (board_begun around.between.lies)
holds around nos.EntryDriveOff = not around.between.entry_drive
holds around nos.NotLeft = is_none (board_left around.between.lies)
holds around nos.ExitDriveOn = around.between.exit_drive
holds around nos.EntryDriveOn = around.between.entry_drive

abbrev pub board_at : Spot → Around → Option Board
board_at front_upstream around = slice_get around.up.boards 0
board_at begun around = board_begun around.between.lies
board_at left around = board_left around.between.lies
board_at back_downstream around = None
board_at off_the_floor around = None

abbrev pub without_board_at : Spot → Around → Around
without_board_at front_upstream around =
    record around { up = record around.up { boards = drop 1 around.up.boards } }
without_board_at begun around =
    record around { between = record around.between { lies = gaps.Free } }
without_board_at left around =
    record around { between = record around.between { lies = gaps.Free } }
without_board_at back_downstream around = around
without_board_at off_the_floor around = around

abbrev pub with_board_at : Spot → Board → Around → Around
with_board_at front_upstream board around =
    record around { up = record around.up { boards = board ∷ around.up.boards } }
with_board_at begun board around =
    record around { between = record around.between { lies = gaps.Begun board } }
with_board_at left board around =
    record around { between = record around.between { lies = gaps.Left board } }
with_board_at back_downstream board around =
    record around { down = record around.down { boards = around.down.boards ++ board ∷ [] } }
with_board_at off_the_floor board around = around

abbrev pub after_carry : Spot → Spot → Around → Around
after_carry from to around =
    elim (board_at from around) [
      | None ↦ around
      | Some board ↦ with_board_at to board
          (without_board_at from around)
    ]

abbrev pub after_stop : Option Side → Around → Around
after_stop None around = around
after_stop (Some side) around = record around { between = with_drive around.between side false }

-- an event of the exit's sensor comes to the upstream machine, one of the entry's to the other
abbrev pub after_event : Sensed → Side → Around → Around
after_event sensed sides.Exit around =
    record around { up = record around.up { unread = around.up.unread ++ sensed ∷ [] } }
after_event sensed sides.Entry around =
    record around { down = record around.down { unread = around.down.unread ++ sensed ∷ [] } }

abbrev pub after_events : List Sensed → Around → Around
after_events [] around = around
after_events (sensed ∷ more) around = after_events more (after_event sensed sensed.side around)

abbrev pub after_row : Row → Around → Around
after_row row around =
    after_events row.events (after_stop row.stops (after_carry row.from row.to around))

abbrev pub answer_of : Row → Option MoveNo → Around → Result Around MoveNo
answer_of row (Some why) around = Err why
answer_of row None around = Ok (after_row row around)

-- what a row makes of a move: the first of its reasons that holds, else what is around the gap
-- then
abbrev pub answer_by_row : Row → Around → Result Around MoveNo
answer_by_row row around = answer_of row (find (holds around) row.reasons) around

abbrev pub around_move : Move → Around → Result Around MoveNo
around_move step around = answer_by_row (row_of step around.between.lies) around

abbrev pub around_of : FloorPlan → ℕ → Around
around_of plan gap =
    record {
      up = machine_at plan gap;
      between = gap_at plan gap;
      down = machine_at plan (gap + 1);
    }

abbrev pub with_around : FloorPlan → ℕ → Around → FloorPlan
with_around plan gap around = record {
  machines = slice_set (slice_set plan.machines (gap - 1) around.up) (gap + 1 - 1) around.down;
  gaps = slice_set plan.gaps (gap - 1) around.between;
}

abbrev pub has_gap : FloorPlan → ℕ → Bool
has_gap plan gap = nat_lt 0 gap && nat_lt gap (length plan.machines)

abbrev pub floor_after : FloorPlan → ℕ → Result Around MoveNo → Result FloorPlan MoveNo
floor_after plan gap (Ok around) = Ok (with_around plan gap around)
floor_after plan gap (Err why) = Err why

-- a move at a gap of the floor: the first reason against it, or the floor after it
abbrev pub floor_move : ℕ → Move → FloorPlan → Result FloorPlan MoveNo
floor_move gap step plan =
    if has_gap plan gap then floor_after plan gap
    (around_move step (around_of plan gap)) else Err nos.NoGap

-- what a call of a move answers: the new floor or the reason, unless memory ran out. After an
-- error all is as it was
abbrev pub Answers : {A : Type 0} → Result A MoveNo → A → A → Result (Unit {0}) MoveError → Type 0
Answers move before after (Ok _) = move ≡ Ok after
Answers move before after (Err (errors.No why)) = (move ≡ Err why) × (after ≡ before)
Answers move before after (Err errors.Memory) = IsOk move × (after ≡ before)

abbrev pub AnswersAround : Move → AtMachine → AtGap → AtMachine → AtMachine → AtGap → AtMachine
    → Result (Unit {0}) MoveError → Type 0
AnswersAround step up between down up' between' down' result =
    let before : Around = record { up = up; between = between; down = down } in
    Answers (around_move step before) before
    (record { up = up'; between = between'; down = down' }) result

abbrev pub AnswersFloor : ℕ → Move → FloorPlan → FloorPlan → Result (Unit {0}) MoveError → Type 0
AnswersFloor gap step before after result =
    Answers (floor_move gap step before) before after result

abbrev pub no_text : MoveNo → List ℕ
no_text nos.NoGap = codes "no gap"
no_text nos.ExitDriveOff = codes "exit drive off"
no_text nos.GapNotFree = codes "gap not free"
no_text nos.NothingThere = codes "nothing there"
no_text nos.NotBegun = codes "not begun"
no_text nos.EntryDriveOff = codes "entry drive off"
no_text nos.NotLeft = codes "not left"
no_text nos.ExitDriveOn = codes "exit drive on"
no_text nos.EntryDriveOn = codes "entry drive on"

abbrev pub move_word : Move → List ℕ
move_word moves.Begin = codes "begin"
move_word moves.Left = codes "left"
move_word moves.Enter = codes "in"
move_word moves.Back = codes "back"
move_word moves.HandIn = codes "hand-in"
move_word moves.Take = codes "take"

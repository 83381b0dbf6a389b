use Rattle.std.specs.Prelude.{◌≡◌, ◌-◌, ◌<◌, ◌≤◌, ◌++◌, ◌∷◌, [], ℕ, Bool, false, List, Option, Some, None, nat_eq, nat_lt, length, position, remove, slice_get, slice_index_or, slice_set, if◌then◌else◌}
use Rattle.line_base.specs.declared.states.Side.{Side}
use Rattle.line_base.specs.declared.states.Side.TheVariants as sides
use Rattle.board_record.specs.declared.sensed.Sensed.{Sensed}
use Rattle.line_world.specs.declared.board.Board.{Board}
use Rattle.line_world.specs.declared.gap.Gap.TheVariants as gaps
use Rattle.line_world.specs.declared.gap.AtGap.{AtGap}

-- what is at a machine: its boards, the front one at the exit, and the sensor events that it has
-- not read yet, the oldest first
pub record AtMachine : Type 0 where
  pub boards : List Board
  pub unread : List Sensed

-- what a floor is: what is at each machine and at each gap, in downstream direction
pub record FloorPlan : Type 0 where
  pub machines : List AtMachine
  pub gaps : List AtGap

abbrev pub no_floor : FloorPlan
no_floor = record { machines = []; gaps = [] }

abbrev pub empty_machine : AtMachine
empty_machine = record { boards = []; unread = [] }

abbrev pub free_gap : AtGap
free_gap = record { lies = gaps.Free; exit_drive = false; entry_drive = false }

-- machines are numbered from 1, and so are the gaps: gap k is the one between machines k and k + 1
pub record IsMachine (plan : FloorPlan) (machine : ℕ) : Type 0 where
  pub counted : 1 ≤ machine
  pub within : machine ≤ length plan.machines

pub record IsGap (plan : FloorPlan) (gap : ℕ) : Type 0 where
  pub counted : 1 ≤ gap
  pub within : gap < length plan.machines

-- between each two neighbours there is a gap
abbrev pub IsWhole : FloorPlan → Type 0
IsWhole plan = length plan.gaps ≡ length plan.machines - 1

-- what has no such number, 0 among them, is an empty machine or a free gap, and no change of it
-- changes the floor
abbrev pub machine_at : FloorPlan → ℕ → AtMachine
machine_at plan machine =
    if nat_lt 0 machine then slice_index_or plan.machines
    (machine - 1) empty_machine else empty_machine

abbrev pub gap_at : FloorPlan → ℕ → AtGap
gap_at plan gap = if nat_lt 0 gap then slice_index_or plan.gaps (gap - 1) free_gap else free_gap

abbrev pub with_machine : FloorPlan → ℕ → AtMachine → FloorPlan
with_machine plan machine now =
    if nat_lt 0 machine then record plan { machines = slice_set plan.machines (machine - 1) now }
    else plan

abbrev pub with_gap : FloorPlan → ℕ → AtGap → FloorPlan
with_gap plan gap now =
    if nat_lt 0 gap then record plan { gaps = slice_set plan.gaps (gap - 1) now } else plan

-- one more machine at the downstream end, and a gap before it where it isn't the first
abbrev pub gaps_before : List AtMachine → List AtGap → List AtGap
gaps_before [] gaps = gaps
gaps_before (_ ∷ _) gaps = gaps ++ free_gap ∷ []

abbrev pub one_machine_more : FloorPlan → FloorPlan
one_machine_more plan =
    record {
      machines = plan.machines ++ empty_machine ∷ [];
      gaps = gaps_before plan.machines plan.gaps;
    }

abbrev pub with_boards : FloorPlan → ℕ → List Board → FloorPlan
with_boards plan machine boards =
    with_machine plan machine (record (machine_at plan machine) { boards = boards })

abbrev pub with_unread : FloorPlan → ℕ → List Sensed → FloorPlan
with_unread plan machine unread =
    with_machine plan machine (record (machine_at plan machine) { unread = unread })

-- a gap's exit drive is that of the upstream machine, its entry drive that of the downstream one
abbrev pub drive_of : AtGap → Side → Bool
drive_of gap sides.Exit = gap.exit_drive
drive_of gap sides.Entry = gap.entry_drive

abbrev pub with_drive : AtGap → Side → Bool → AtGap
with_drive gap sides.Exit on = record gap { exit_drive = on }
with_drive gap sides.Entry on = record gap { entry_drive = on }

abbrev pub has_id : ℕ → Board → Bool
has_id id board = elim board.id [ None ↦ false | Some own ↦ nat_eq own id ]

-- the place, from the front, of the first board with this id
abbrev pub place_of : ℕ → List Board → Option ℕ
place_of id boards = position (has_id id) boards

abbrev pub board_found : ℕ → List Board → Option Board
board_found id boards =
    elim (place_of id boards) [ None ↦ None | Some place ↦ slice_get boards place ]

abbrev pub without_board : ℕ → List Board → List Board
without_board id boards =
    elim (place_of id boards) [ None ↦ boards | Some place ↦ remove boards place ]

-- another id for the first board with this id
abbrev pub with_new_id : ℕ → ℕ → List Board → List Board
with_new_id old new boards =
    elim (place_of old boards) [
      | None ↦ boards
      | Some place ↦ slice_set boards place
          (record { id = Some new })
    ]

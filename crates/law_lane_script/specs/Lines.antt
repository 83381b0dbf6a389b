-- WHAT A LINE IS TO A LANE: of a line of the script over several lanes what each of them does, in view
-- of the state before it.
use Rattle.std.specs.Prelude.{◌+◌, ◌==◌, ℕ, ℤ, Bool, List, [], ◌∷◌, Option, Some, None, Ok, Err, if◌then◌else◌}
use Rattle.board_record.specs.declared.record.Record.{Record}
use Rattle.board_record.specs.declared.sensed.Sensed.{Sensed}
use Rattle.line_script.specs.declared.line.LaneLine.{LaneLine}
use Rattle.line_script.specs.declared.line.LaneLine.TheVariants as lane_lines
use Rattle.node_core.specs.Node.{NodeState}
use Rattle.node_core.specs.Shifts.{board_given}
use Rattle.node_core.specs.declared.input.Input.TheVariants as inputs
use Rattle.line_step.specs.Reasons.{May, may_add, may_stop}
use Rattle.line_step.specs.Requests.{Request, adds, gives, nothing, request_of, shows, stops}
use Rattle.line_step.specs.State.{machine_in}
use Rattle.line_step.specs.Steps.{moment_of, unread_by}
use Rattle.line_step.specs.Tracks.{TrackLine, other_line, own_line}
use Rattle.law_lanes.specs.Lanes.{Lanes, has_lane, lines_of, track}
use Rattle.law_lanes.specs.Parts.{LanePoint}
use Rattle.law_lanes.specs.Reasons.{first_track, may_on, may_shift}

-- where a reason of the whole line stands against a line it is none of any lane: what it names isn't
-- there, or the lane isn't
abbrev pub where_done : May → TrackLine → TrackLine
where_done (Ok _) line = line
where_done (Err why) line = other_line

-- what is asked for on lane `own`: a `show` is of each lane, a machine comes on each lane that is
-- there, that a machine stops is told on the first one, and all else is of its own lane. What a
-- machine there says against it is told on its lane
abbrev pub request_on : ℕ → ℕ → Request → Lanes → TrackLine
request_on lane own nothing s = other_line
request_on lane own shows s = own_line shows
request_on lane own (adds one is_bridge capacity used) s =
    where_done (may_add (first_track s))
    (if has_lane lane s then own_line (adds lane is_bridge capacity used) else other_line)
request_on lane own (stops machine) s =
    where_done (may_stop machine (first_track s))
    (if lane == 1 then own_line (stops machine) else other_line)
request_on lane own request s =
    where_done (may_on own request s) (if own == lane then own_line request else other_line)

-- the record that a shift moves, of a machine that is there
abbrev pub board_of : Option NodeState → List Sensed → ℤ → ℕ → Option Record
board_of None unread moment id = None
board_of (Some node) unread moment id = board_given node unread moment id

-- a shift is to the one lane that a board goes from there, and to the other that it comes
abbrev pub moved_on : ℕ → ℕ → ℕ → ℕ → ℕ → Option Record → TrackLine
moved_on lane machine from to id None = other_line
moved_on lane machine from to id (Some board) =
    if from == lane then own_line (gives machine (inputs.Gives id to)) else
    (if to == lane then own_line (gives machine (inputs.Gets board)) else other_line)

abbrev pub line_on : ℕ → LaneLine → Lanes → TrackLine
line_on lane (lane_lines.On own line) s = request_on lane own (request_of line) s
line_on lane (lane_lines.Lanes count) s = other_line
line_on lane (lane_lines.Shift machine from to id) s =
    where_done (may_shift machine from to id s)
    (moved_on lane machine from to id
    (board_of (machine_in machine (track from s)) (unread_by machine (track from s).world)
    (moment_of (lines_of s + 1)) id))

-- THE LINES OF A LANE, from a state on: each line as it is to it
abbrev pub lines_on : ℕ → Lanes → List LaneLine → List LanePoint → List TrackLine
lines_on lane s [] points = []
lines_on lane s (line ∷ lines) [] = []
lines_on lane s (line ∷ lines) (point ∷ points) =
    line_on lane line s ∷ lines_on lane point.after lines points

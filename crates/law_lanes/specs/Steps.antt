-- THE LINE STEP of a line of several lanes: a line of the script is a step of one track, which the
-- others see by what the lanes of a machine share; a machine comes on each of them.
use Rattle.std.specs.Prelude.{◌≡◌, ◌+◌, ◌++◌, ℕ, zero, suc, Bool, List, [], ◌∷◌, Some, Ok, Err}
use Rattle.board_record.specs.declared.record.Record.{Record}
use Rattle.line_script.specs.declared.line.LaneLine.{LaneLine}
use Rattle.line_script.specs.declared.line.LaneLine.TheVariants as lane_lines
use Rattle.node_core.specs.Shifts.{board_given}
use Rattle.node_core.specs.declared.input.Input.TheVariants as inputs
use Rattle.line_report.specs.Lanes.{told_on}
use Rattle.line_report.specs.Shifts.{shift_told}
use Rattle.line_report.specs.declared.happening.Happening.{Happening}
use Rattle.line_report.specs.declared.happening.Happening.TheVariants as happenings
use Rattle.line_report.specs.declared.happening.LaneHappening.{LaneHappening}
use Rattle.line_step.specs.Lines.{Counts, LineDoes}
use Rattle.line_step.specs.Reasons.{May, may_add, may_stop}
use Rattle.line_step.specs.Requests.{Request, added_told, adds, nothing, request_of, shows, stops}
use Rattle.line_step.specs.State.{LineState, one_more}
use Rattle.line_step.specs.Steps.{MachineSteps, moment_of, unread_by}
use Rattle.law_lanes.specs.Lanes.{Lanes, counted, empty_track, lines_of, track, with_track}
use Rattle.law_lanes.specs.Reasons.{first_track, may_on, may_set, may_shift}
use Rattle.law_lanes.specs.Shown.{shown_on, standings_on}

-- the state after is this one, and this is told
pub record Becomes (next : Lanes) (what : List LaneHappening) (after : Lanes)
    (told : List LaneHappening) : Type 0 where
  pub after_is : after ≡ next
  pub told_is : told ≡ what

-- what is of all lanes is told of the first one
abbrev pub told_once : Happening → List LaneHappening
told_once what = told_on 1 (what ∷ [])

-- nothing changes where a reason stands against the line, and the reason is told
abbrev pub Unless : May → Lanes → Lanes → List LaneHappening → Type 0 → Type 0
Unless (Err reason) before after told Done = Becomes before (told_once (happenings.No reason)) after told
Unless (Ok _) before after told Done = Done

-- a step on one track
pub record OnTrack (lane : ℕ) (Does : LineState → LineState → List Happening → Type 0)
    (before after : Lanes) (told : List LaneHappening) : Type 0 where
  pub next : LineState
  pub done : List Happening
  pub does : Does (track lane before) next done
  pub after_is : after ≡ with_track lane next before
  pub told_is : told ≡ told_on lane done

-- a machine more on each track, from this lane on
abbrev pub more_on : ℕ → Bool → ℕ → ℕ → List LineState → List LineState
more_on lane is_bridge capacity used [] = []
more_on lane is_bridge capacity used (t ∷ ts) =
    one_more lane is_bridge capacity used t ∷ more_on (lane + 1) is_bridge capacity used ts

-- so many lanes without a machine
abbrev pub copies : ℕ → LineState → List LineState
copies zero t = []
copies (suc more) t = t ∷ copies more t

-- a board goes from a lane of a machine to another one: a step on the one track and then one on the
-- other, to which its record comes as it is. Both read their sensor events before it is told, and
-- make their announcements behind that
pub record Shifts (number machine from to id : ℕ) (before after : Lanes)
    (told : List LaneHappening) : Type 0 where
  pub gave : LineState
  pub given : List Happening
  pub gives : MachineSteps number machine (inputs.Gives id to) (track from before) gave given
  pub board : Record
  pub is : board_given gives.node (unread_by machine (track from before).world) (moment_of number) id
      ≡ Some board
  pub got : LineState
  pub taken : List Happening
  pub gets : MachineSteps number machine (inputs.Gets board)
      (track to (with_track from gave before)) got taken
  pub after_is : after ≡ with_track to got (with_track from gave before)
  pub told_is : told ≡ shift_told from to given taken

-- ---- the forms

abbrev pub RequestDoes : ℕ → ℕ → Request → Lanes → Lanes → List LaneHappening → Type 0
RequestDoes number lane nothing before after told = Becomes before [] after told
RequestDoes number lane shows before after told = Becomes before (shown_on before) after told
RequestDoes number lane (adds own is_bridge capacity used) before after told =
    Unless (may_add (first_track before)) before after told
    (Becomes (record before { tracks = more_on 1 is_bridge capacity used before.tracks })
    (told_on 1 (added_told is_bridge capacity (first_track before))) after told)
RequestDoes number lane (stops machine) before after told =
    Unless (may_stop machine (first_track before)) before after told
    (Becomes before (told_once (happenings.Stop machine)) after told)
RequestDoes number lane request before after told =
    Unless (may_on lane request before) before after told
    (OnTrack lane (LineDoes number request) before after told)

abbrev pub LanesDo : ℕ → LaneLine → Lanes → Lanes → List LaneHappening → Type 0
LanesDo number (lane_lines.On lane line) before after told =
    RequestDoes number lane (request_of line) before after told
LanesDo number (lane_lines.Lanes count) before after told =
    Unless (may_set before) before after told
    (Becomes (record before { tracks = copies count (empty_track before) })
    (told_once (happenings.Lanes count)) after told)
LanesDo number (lane_lines.Shift machine from to id) before after told =
    Unless (may_shift machine from to id before) before after told
    (Shifts number machine from to id before after told)

-- what is done of a line of the script: the state after it, counted, and what it did with the
-- standings that it changed
pub record LanesStep (number : ℕ) (line : LaneLine) (before after : Lanes)
    (told : List LaneHappening) : Type 0 where
  pub next : Lanes
  pub done : List LaneHappening
  pub does : LanesDo number line before next done
  pub lines : ℕ
  pub counts : Counts (lines_of next) lines
  pub after_is : after ≡ counted lines next
  pub told_is : told ≡ done ++ standings_on before next

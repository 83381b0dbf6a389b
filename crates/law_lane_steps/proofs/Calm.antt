-- A stretch of a script that doesn't disturb a handover of a lane is one of the lane's lines that
-- doesn't.
use Rattle.std.proofs.Common.{◌≡◌, ◌≢◌, ◌+◌, ◌-◌, ◌==◌, ◌++◌, ℕ, zero, suc, Bool, true, false, List, [], ◌∷◌, Option, Some, None, Ok, Err, length, refl, sym, arith, eqb-true}
use Rattle.std.specs.Prelude.{if◌then◌else◌}
use Rattle.std.specs.List.{AllByRecursion}
use Rattle.board_record.specs.declared.record.Record.{Record}
use Rattle.line_base.specs.declared.states.Side.{Side}
use Rattle.line_base.specs.declared.states.Side.TheVariants.{Entry, Exit}
use Rattle.line_script.specs.declared.line.LaneLine.{LaneLine}
use Rattle.line_script.specs.declared.line.LaneLine.TheVariants as lane_lines
use Rattle.line_script.specs.declared.line.ScriptLine.{ScriptLine}
use Rattle.line_script.specs.declared.line.ScriptLine.TheVariants as lines
use Rattle.node_core.specs.declared.input.Input.TheVariants as inputs
use Rattle.line_step.specs.Parts.{where_may}
use Rattle.line_step.specs.Reasons.{May, may_add, may_cut, may_notice, may_stop}
use Rattle.line_step.specs.Requests.{Request, request_of}
use Rattle.line_step.specs.Requests as requests
use Rattle.line_step.specs.State.{machine_in}
use Rattle.line_step.specs.Steps.{moment_of, unread_by}
use Rattle.line_step.specs.Tracks.{TrackLine, asked_on, other_line, own_line}
use Rattle.law_twelve_steps.specs.Undisturbed.{AreUndisturbed, IsElsewhere, IsUndisturbed, blank, elsewhere, shows}
use Rattle.law_twelve_steps.specs.Undisturbed as undisturbed
use Rattle.law_lanes.specs.Lanes.{Lanes, has_lane, lines_of, track}
use Rattle.law_lanes.specs.Parts.{IsLanePlay, IsLaneRun, LanePart, LanePoint, all_points, parts_of, state_behind, stops_from, stops_on}
use Rattle.law_lanes.specs.Reasons.{first_track, may_on, may_shift}
use Rattle.law_lanes.proofs.Telling.{join_all}
use Rattle.law_lane_ids.specs.Played.{lines_done, lines_played}
use Rattle.law_lane_script.specs.Lines.{board_of, line_on, lines_on, moved_on, request_on, where_done}
use Rattle.law_lane_steps.specs.Undisturbed.{IsOfOneLane, IsUndisturbedOn, of_lane, of_other, sets, shifts, shifts_aside, stops}

-- ---- what is asked of the lane

calm_where : (k : ℕ) (may : May) (line : TrackLine) → IsUndisturbed k (asked_on line)
    → IsUndisturbed k (asked_on (where_done may line))
calm_where k (Ok _) line calm = calm
calm_where k (Err why) line calm = blank

calm_if : (k : ℕ) (test : Bool) (request : Request) → IsUndisturbed k request
    → IsUndisturbed k (asked_on (if test then own_line request else other_line))
calm_if k true request calm = calm
calm_if k false request calm = blank

aside_if : (k own lane : ℕ) (test : Bool) (request : Request) → (own == lane) ≡ test → own ≢ lane
    → IsUndisturbed k (asked_on (if test then own_line request else other_line))
aside_if k own lane true request is apart = absurd (apart (eqb-true own lane is))
aside_if k own lane false request is apart = blank

own_calm : (lane k own : ℕ) (request : Request) (s : Lanes) → IsUndisturbed k request
    → IsUndisturbed k (asked_on (request_on lane own request s))
own_calm lane k own requests.nothing s calm = blank
own_calm lane k own requests.shows s calm = shows
own_calm lane k own (requests.adds one is_bridge capacity used) s calm =
    calm_where k (may_add (first_track s))
    (if has_lane lane s then own_line (requests.adds lane is_bridge capacity used) else other_line)
    (calm_if k (has_lane lane s) (requests.adds lane is_bridge capacity used) (elsewhere tt))
own_calm lane k own (requests.stops machine) s calm =
    calm_where k (may_stop machine (first_track s))
    (if lane == 1 then own_line (requests.stops machine) else other_line)
    (calm_if k (lane == 1) (requests.stops machine) calm)
own_calm lane k own request s calm =
    calm_where k (may_on own request s) (if own == lane then own_line request else other_line)
    (calm_if k (own == lane) request calm)

-- a stop is of all lanes
abbrev IsNoStop : Request → Type 0
IsNoStop (requests.stops machine) = ⊥
IsNoStop _ = Unit {0}

no_stop : (line : ScriptLine) → IsOfOneLane line → IsNoStop (request_of line)
no_stop (lines.Stop machine) one = absurd one
no_stop _ one = tt

other_calm : (lane k own : ℕ) (request : Request) (s : Lanes) → IsNoStop request → own ≢ lane
    → IsUndisturbed k (asked_on (request_on lane own request s))
other_calm lane k own requests.nothing s one apart = blank
other_calm lane k own requests.shows s one apart = shows
other_calm lane k own (requests.adds any is_bridge capacity used) s one apart =
    calm_where k (may_add (first_track s))
    (if has_lane lane s then own_line (requests.adds lane is_bridge capacity used) else other_line)
    (calm_if k (has_lane lane s) (requests.adds lane is_bridge capacity used) (elsewhere tt))
other_calm lane k own (requests.stops machine) s one apart = absurd one
other_calm lane k own request s one apart =
    calm_where k (may_on own request s) (if own == lane then own_line request else other_line)
    (aside_if k own lane (own == lane) request refl apart)

moved_calm : (lane k machine from to id : ℕ) (found : Option Record) → IsElsewhere k machine
    → IsUndisturbed k (asked_on (moved_on lane machine from to id found))
moved_calm lane k machine from to id None e = blank
moved_calm lane k machine from to id (Some board) e = by (from == lane) where
  by : (here : Bool)
      → IsUndisturbed k (asked_on (if here then own_line (requests.gives machine (inputs.Gives id to)) else
      (if to == lane then own_line (requests.gives machine (inputs.Gets board)) else other_line)))
  by true = elsewhere e
  by false = calm_if k (to == lane) (requests.gives machine (inputs.Gets board)) (elsewhere e)

aside_calm : (lane k machine from to id : ℕ) (found : Option Record) → from ≢ lane → to ≢ lane
    → IsUndisturbed k (asked_on (moved_on lane machine from to id found))
aside_calm lane k machine from to id None one two = blank
aside_calm lane k machine from to id (Some board) one two = by (from == lane) refl where
  by : (here : Bool) → (from == lane) ≡ here
      → IsUndisturbed k (asked_on (if here then own_line (requests.gives machine (inputs.Gives id to)) else
      (if to == lane then own_line (requests.gives machine (inputs.Gets board)) else other_line)))
  by true is = absurd (one (eqb-true from lane is))
  by false is = aside_if k to lane (to == lane) (requests.gives machine (inputs.Gets board)) refl two

abbrev board_moved : ℕ → ℕ → ℕ → Lanes → Option Record
board_moved machine from id s =
    board_of (machine_in machine (track from s)) (unread_by machine (track from s).world)
    (moment_of (lines_of s + 1)) id

line_calm : {lane k : ℕ} {line : LaneLine} (s : Lanes) → IsUndisturbedOn lane k line
    → IsUndisturbed k (asked_on (line_on lane line s))
line_calm {lane = lane} {k = k} s (of_lane {line = line} one calm) =
    own_calm lane k lane (request_of line) s calm
line_calm {lane = lane} {k = k} s (of_other {own = own} {line = line} one apart) =
    other_calm lane k own (request_of line) s (no_stop line one) apart
line_calm {lane = lane} {k = k} s (stops {own = own} {machine = machine} e) =
    own_calm lane k own (requests.stops machine) s (elsewhere e)
line_calm s sets = blank
line_calm {lane = lane} {k = k} s (shifts {machine = machine} {from = from} {to = to} {id = id} e) =
    calm_where k (may_shift machine from to id s)
    (moved_on lane machine from to id (board_moved machine from id s))
    (moved_calm lane k machine from to id (board_moved machine from id s) e)
line_calm {lane = lane} {k = k} s (shifts_aside {machine = machine} {from = from} {to = to} {id = id} one two) =
    calm_where k (may_shift machine from to id s)
    (moved_on lane machine from to id (board_moved machine from id s))
    (aside_calm lane k machine from to id (board_moved machine from id s) one two)

-- ---- the parts of a stop

abbrev IsCalmPart : ℕ → ℕ → LanePart → Type 0
IsCalmPart lane k part = (s : Lanes) → IsUndisturbed k (asked_on (line_on lane (part.line s) s))

may_calm : (lane k own : ℕ) (may : May) (line : ScriptLine) (s : Lanes)
    → IsUndisturbed k (request_of line)
    → IsUndisturbed k (asked_on (line_on lane (lane_lines.On own (where_may may line)) s))
may_calm lane k own (Ok _) line s calm = own_calm lane k own (request_of line) s calm
may_calm lane k own (Err why) line s calm = blank

cut_apart : (k machine : ℕ) → IsElsewhere k machine → machine - 1 ≢ k
cut_apart k zero e same = e.not_above same
cut_apart k (suc place) e same =
    let far = e.not_below in
    far (let is : suc place ≡ k + 1 = omega (arith, same) in is)

stops_calm : (lane k own machine : ℕ) (ends : Bool) → IsElsewhere k machine
    → AllByRecursion (IsCalmPart lane k) (stops_on own machine ends)
stops_calm lane k own machine ends e = (
  λ s. may_calm lane k own (may_cut (machine - 1) (track own s)) (lines.Cut (machine - 1)) s
      (elsewhere (cut_apart k machine e)),
  (
    λ s. may_calm lane k own (may_cut machine (track own s)) (lines.Cut machine) s
        (elsewhere e.not_above),
    (
      λ s. may_calm lane k own (may_notice machine Entry (track own s)) (lines.Notice machine Entry) s
          (elsewhere e),
      (
        λ s. may_calm lane k own (may_notice machine Exit (track own s)) (lines.Notice machine Exit) s
            (elsewhere e),
        tt,
      ),
    ),
  ),
)

all_stops_calm : (lane k own more machine : ℕ) → IsElsewhere k machine
    → AllByRecursion (IsCalmPart lane k) (stops_from own more machine)
all_stops_calm lane k own zero machine e = stops_calm lane k own machine true e
all_stops_calm lane k own (suc more) machine e =
    join_all (IsCalmPart lane k) (stops_on own machine false) (stops_from (own + 1) more machine)
    (stops_calm lane k own machine false e) (all_stops_calm lane k (own + 1) more machine e)

stopped : {lane k own machine : ℕ} → IsUndisturbedOn lane k (lane_lines.On own (lines.Stop machine))
    → IsElsewhere k machine
stopped (of_lane one calm) = absurd one
stopped (of_other one apart) = absurd one
stopped (stops e) = e

parts_calm : (lane k many : ℕ) (line : LaneLine) → IsUndisturbedOn lane k line
    → AllByRecursion (IsCalmPart lane k) (parts_of many line)
parts_calm lane k many (lane_lines.On own (lines.Stop machine)) calm =
    let e = stopped calm in
    (λ s. own_calm lane k 1 (requests.stops machine) s (elsewhere e), all_stops_calm lane k 1 (many - 1) machine e)
parts_calm lane k many line calm = (λ s. line_calm s calm, tt)

-- ---- along a stretch

play_calm : (lane k : ℕ) (s : Lanes) (parts : List LanePart) (own : List LanePoint)
    (others : List LaneLine) (points : List LanePoint) → IsLanePlay s parts own
    → AllByRecursion (IsCalmPart lane k) parts
    → AreUndisturbed k (lines_on lane (state_behind s own) others points)
    → AreUndisturbed k (lines_on lane s (lines_played s parts own ++ others) (own ++ points))
play_calm lane k s [] [] others points play calm rest = rest
play_calm lane k s [] (point ∷ own) others points play calm rest = absurd play
play_calm lane k s (part ∷ parts) [] others points play calm rest = absurd play
play_calm lane k s (part ∷ parts) (point ∷ own) others points play calm rest =
    undisturbed.more (calm.0 s)
    (play_calm lane k point.after parts own others points play.1 calm.1 rest)

pub script_calm : (lane k : ℕ) (s : Lanes) (asked : List LaneLine) (done : List (List LanePoint))
    → IsLaneRun s asked done → AllByRecursion (IsUndisturbedOn lane k) asked
    → AreUndisturbed k (lines_on lane s (lines_done s asked done) (all_points done))
script_calm lane k s [] [] run calm = undisturbed.none
script_calm lane k s [] (own ∷ others) run calm = absurd run
script_calm lane k s (line ∷ asked) [] run calm = absurd run
script_calm lane k s (line ∷ asked) (own ∷ others) run calm =
    play_calm lane k s (parts_of (length s.tracks) line) own
    (lines_done (state_behind s own) asked others) (all_points others) run.0
    (parts_calm lane k (length s.tracks) line calm.0)
    (script_calm lane k (state_behind s own) asked others run.1 calm.1)

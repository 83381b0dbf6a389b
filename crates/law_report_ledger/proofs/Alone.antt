-- In the run of a script over several lanes a line that tells what was not so has its number alone:
-- what a stop does tells no lie.
use Rattle.std.proofs.Common.{◌≡◌, ◌∙◌, ◌+◌, ◌-◌, ◌≤◌, ◌++◌, ℕ, zero, suc, Bool, true, false, List, [], ◌∷◌, Ok, Err, ap, arith, length, refl, sym}
use Rattle.std.proofs.lemmas.Bool.{false≢true}
use Rattle.std.specs.List.{AllByRecursion}
use Rattle.line_base.specs.declared.states.Side.TheVariants.{Entry, Exit}
use Rattle.line_script.specs.declared.line.LaneLine.{LaneLine}
use Rattle.line_script.specs.declared.line.LaneLine.TheVariants as lane_lines
use Rattle.line_script.specs.declared.line.ScriptLine.{ScriptLine}
use Rattle.line_script.specs.declared.line.ScriptLine.TheVariants as lines
use Rattle.line_report.specs.declared.happening.Happening.TheVariants as happenings
use Rattle.line_report.specs.declared.happening.LaneHappening.{LaneHappening}
use Rattle.line_step.specs.Lines.{LineDoes}
use Rattle.line_step.specs.Parts.{count_behind, where_may}
use Rattle.line_step.specs.Reasons.{May, may_cut, may_notice, may_stop}
use Rattle.line_step.specs.Requests.{Request, request_of}
use Rattle.line_step.specs.Requests as requests
use Rattle.line_step.specs.Shown.{standings_told}
use Rattle.line_step.proofs.Vouching.{IsNoLie, steps-honest}
use Rattle.law_lanes.specs.Lanes.{Lanes, lines_of, track}
use Rattle.law_lanes.specs.Parts.{IsLanePlay, IsLaneRun, LanePart, LanePoint, all_points, parts_of, state_behind, stop_parts, stops_from, stops_on}
use Rattle.law_lanes.specs.Reasons.{first_track, may_on}
use Rattle.law_lanes.specs.Shown.{standings_on}
use Rattle.law_lanes.specs.Steps.{Becomes, LanesStep, OnTrack, RequestDoes, Unless, told_once}
use Rattle.law_lanes.specs.Views.{tells_lie_on}
use Rattle.law_lanes.proofs.ScriptRuns.{EndsLast, parts-end}
use Rattle.law_lanes.proofs.Seen.{as_steps, lie_front}
use Rattle.law_lanes.proofs.Telling.{join_all, lie_on, lie_on_join, no_deed_lies, standings_none}
use Rattle.law_report_ledger.proofs.Vouched.{AreAlone}

-- ---- what the parts of a stop ask for tells no lie

abbrev IsOfAStop : Request → Type 0
IsOfAStop requests.nothing = Unit {0}
IsOfAStop (requests.stops machine) = Unit {0}
IsOfAStop (requests.cuts gap) = Unit {0}
IsOfAStop (requests.gives machine input) = Unit {0}
IsOfAStop _ = ⊥

becomes_honest : (next after : Lanes) (what told : List LaneHappening)
    → Becomes next what after told → tells_lie_on what ≡ false → tells_lie_on told ≡ false
becomes_honest next after what told b none = ap tells_lie_on b.told_is ∙ none

unless_honest : (may : May) (before after : Lanes) (told : List LaneHappening) (Done : Type 0)
    → Unless may before after told Done → (Done → tells_lie_on told ≡ false)
    → tells_lie_on told ≡ false
unless_honest (Ok _) before after told Done does go = go does
unless_honest (Err reason) before after told Done b go =
    becomes_honest before after (told_once (happenings.No reason)) told b refl

no_lie : (request : Request) → IsOfAStop request → IsNoLie request
no_lie requests.nothing calm = tt
no_lie (requests.stops machine) calm = tt
no_lie (requests.cuts gap) calm = tt
no_lie (requests.gives machine input) calm = tt
no_lie _ calm = absurd calm

track_honest : (number lane : ℕ) (request : Request) (before after : Lanes)
    (told : List LaneHappening) → IsOfAStop request
    → OnTrack lane (LineDoes number request) before after told → tells_lie_on told ≡ false
track_honest number lane request before after told calm did =
    let was = track lane before in
    let behind = standings_told was did.next in
    ap tells_lie_on did.told_is ∙ lie_on lane did.done
    ∙ lie_front did.done behind
    (steps-honest number request was did.next (did.done ++ behind) (no_lie request calm)
    (as_steps number request was did.next did.done did.does))

request_honest : (number lane : ℕ) (request : Request) (before after : Lanes)
    (told : List LaneHappening) → IsOfAStop request
    → RequestDoes number lane request before after told → tells_lie_on told ≡ false
request_honest number lane requests.nothing before after told calm b =
    becomes_honest before after [] told b refl
request_honest number lane (requests.stops machine) before after told calm does =
    unless_honest (may_stop machine (first_track before)) before after told _ does
    (λ b. becomes_honest before after (told_once (happenings.Stop machine)) told b refl)
request_honest number lane (requests.cuts gap) before after told calm does =
    unless_honest (may_on lane (requests.cuts gap) before) before after told _ does
    (track_honest number lane (requests.cuts gap) before after told tt)
request_honest number lane (requests.gives machine input) before after told calm does =
    unless_honest (may_on lane (requests.gives machine input) before) before after told _ does
    (track_honest number lane (requests.gives machine input) before after told tt)
request_honest number lane _ before after told calm does = absurd calm

-- ---- the parts of a stop

abbrev IsStopLine : LaneLine → Type 0
IsStopLine (lane_lines.On lane line) = IsOfAStop (request_of line)
IsStopLine _ = ⊥

abbrev IsStopPart : LanePart → Type 0
IsStopPart part = (s : Lanes) → IsStopLine (part.line s)

may_calm : (may : May) (line : ScriptLine) → IsOfAStop (request_of line)
    → IsOfAStop (request_of (where_may may line))
may_calm (Ok _) line calm = calm
may_calm (Err _) line calm = tt

stops_calm : (lane machine : ℕ) (ends : Bool)
    → AllByRecursion IsStopPart (stops_on lane machine ends)
stops_calm lane machine ends = (
  λ s. may_calm (may_cut (machine - 1) (track lane s)) (lines.Cut (machine - 1)) tt,
  (
    λ s. may_calm (may_cut machine (track lane s)) (lines.Cut machine) tt,
    (
      λ s. may_calm (may_notice machine Entry (track lane s)) (lines.Notice machine Entry) tt,
      (λ s. may_calm (may_notice machine Exit (track lane s)) (lines.Notice machine Exit) tt, tt),
    ),
  ),
)

all_calm : (lane more machine : ℕ) → AllByRecursion IsStopPart (stops_from lane more machine)
all_calm lane zero machine = stops_calm lane machine true
all_calm lane (suc more) machine =
    join_all IsStopPart (stops_on lane machine false) (stops_from (lane + 1) more machine)
    (stops_calm lane machine false) (all_calm (lane + 1) more machine)

-- ---- along a play

-- the number of the last of these points
abbrev last_of : ℕ → Lanes → List LanePoint → ℕ
last_of last s [] = last
last_of last s (point ∷ points) = last_of (lines_of s + 1) point.after points

step_honest : (line : LaneLine) (number : ℕ) (before after : Lanes) (told : List LaneHappening)
    → IsStopLine line → LanesStep number line before after told → tells_lie_on told ≡ false
step_honest (lane_lines.On lane line) number before after told calm step =
    ap tells_lie_on step.told_is
    ∙ lie_on_join step.done (standings_on before step.next)
    (request_honest number lane (request_of line) before step.next step.done calm step.does)
    (no_deed_lies (standings_on before step.next) (standings_none before step.next))
step_honest (lane_lines.Lanes count) number before after told calm step = absurd calm
step_honest (lane_lines.Shift machine from to id) number before after told calm step = absurd calm

rises : (ends : Bool) (before after : ℕ) → after ≡ count_behind ends before → before ≤ after
rises true before after is = omega (arith, is)
rises false before after is = omega (arith, is)

stop_alone : (last : ℕ) (s : Lanes) (parts : List LanePart) (points more : List LanePoint)
    → AllByRecursion IsStopPart parts → IsLanePlay s parts points
    → AreAlone (last_of last s points) (state_behind s points) more → AreAlone last s (points ++ more)
stop_alone last s [] [] more calm play later = later
stop_alone last s [] (point ∷ points) more calm play later = absurd play
stop_alone last s (part ∷ parts) [] more calm play later = absurd play
stop_alone last s (part ∷ parts) (point ∷ points) more calm play later = (
  record {
    lying = λ is. absurd (false≢true (sym (step_honest (part.line s) _ s point.after point.told
        (calm.0 s) play.0.steps) ∙ is));
    rises = rises part.ends (lines_of s) (lines_of point.after) play.0.counted;
  },
  stop_alone (lines_of s + 1) point.after parts points more calm.1 play.1 later,
)

-- the number of the last one is no larger than the count behind them
stop_last : (last : ℕ) (s : Lanes) (parts : List LanePart) (points : List LanePoint)
    → EndsLast parts → IsLanePlay s parts points
    → last_of last s points ≤ lines_of (state_behind s points)
stop_last last s [] points ends play = absurd ends
stop_last last s (part ∷ parts) [] ends play = absurd play
stop_last last s (part ∷ []) (point ∷ []) ends play =
    let here : lines_of point.after ≡ lines_of s + 1 =
    play.0.counted ∙ ap (λ (b : Bool). count_behind b (lines_of s)) ends in
    omega (arith, here)
stop_last last s (part ∷ []) (point ∷ next ∷ points) ends play = absurd play.1
stop_last last s (part ∷ next ∷ parts) (point ∷ points) ends play =
    stop_last (lines_of s + 1) point.after (next ∷ parts) points ends.1 play.1

-- ---- along a run

plain_alone : (last : ℕ) (s : Lanes) (line : LaneLine) (own more : List LanePoint)
    → last ≤ lines_of s → IsLanePlay s (record { line = λ s. line; ends = true } ∷ []) own
    → ((last : ℕ) → last ≤ lines_of (state_behind s own) → AreAlone last (state_behind s own) more)
    → AreAlone last s (own ++ more)
plain_alone last s line [] more old play later = absurd play
plain_alone last s line (point ∷ next ∷ points) more old play later = absurd play.1
plain_alone last s line (point ∷ []) more old play later =
    let many = play.0.counted in (
      record { lying = λ is. (omega (arith, old), many); rises = omega (arith, many) },
      later (lines_of s + 1) (omega (arith, many)),
    )

line_alone : (last : ℕ) (s : Lanes) (line : LaneLine) (own more : List LanePoint)
    → last ≤ lines_of s → IsLanePlay s (parts_of (length s.tracks) line) own
    → ((last : ℕ) → last ≤ lines_of (state_behind s own) → AreAlone last (state_behind s own) more)
    → AreAlone last s (own ++ more)
line_alone last s (lane_lines.On lane (lines.Stop machine)) own more old play later =
    let parts = stop_parts (length s.tracks) machine in
    let calm : AllByRecursion IsStopPart parts =
    (λ s. tt, all_calm 1 (length s.tracks - 1) machine) in
    let ends : EndsLast parts = parts-end (length s.tracks) (lane_lines.On lane (lines.Stop machine)) in
    stop_alone last s parts own more calm play
    (later (last_of last s own) (stop_last last s parts own ends play))
line_alone last s line own more old play later = plain_alone last s line own more old play later

pub run_alone : (last : ℕ) (s : Lanes) (asked : List LaneLine) (done : List (List LanePoint))
    → last ≤ lines_of s → IsLaneRun s asked done → AreAlone last s (all_points done)
run_alone last s [] [] old run = tt
run_alone last s [] (own ∷ done) old run = absurd run
run_alone last s (line ∷ asked) [] old run = absurd run
run_alone last s (line ∷ asked) (own ∷ done) old run =
    line_alone last s line own (all_points done) old run.0
    (λ before le. run_alone before (state_behind s own) asked done le run.1)

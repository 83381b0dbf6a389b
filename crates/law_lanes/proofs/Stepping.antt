-- Each line of a script over several lanes has a step.
use Rattle.std.proofs.Common.{◌≡◌, ◌∙◌, ◌+◌, ◌≤◌, ◌++◌, ℕ, Bool, true, false, List, [], ◌∷◌, Option, Some, None, Ok, Err, length, refl, sym, ap, arith}
use Rattle.std.specs.List.{AllByRecursion}
use Rattle.line_script.specs.declared.line.LaneLine.{LaneLine}
use Rattle.line_script.specs.declared.line.LaneLine.TheVariants as lane_lines
use Rattle.node_core.specs.Node.{NodeState}
use Rattle.node_core.specs.declared.input.Input.TheVariants as inputs
use Rattle.node_core.proofs.Staying.{board_there}
use Rattle.line_report.specs.Lanes.{told_on}
use Rattle.line_report.specs.Shifts.{shift_told}
use Rattle.line_report.specs.declared.happening.Happening.TheVariants as happenings
use Rattle.line_report.specs.declared.happening.LaneHappening.{LaneHappening}
use Rattle.line_step.specs.Lines.{Counts, LineDoes}
use Rattle.line_step.specs.Parts.{count_behind}
use Rattle.line_step.specs.Reasons.{May, if_there, may_add, may_do, may_stop}
use Rattle.line_step.specs.Requests.{Request, added_told, request_of}
use Rattle.line_step.specs.Requests as requests
use Rattle.line_step.specs.State.{LineState, machine_in}
use Rattle.line_step.specs.Steps.{moment_of, unread_by}
use Rattle.line_step.proofs.Getting.{get_may}
use Rattle.line_step.proofs.Keeps.{lines_stay}
use Rattle.law_one_report.proofs.Lines.{each_line}
use Rattle.law_one_report.proofs.Machines.{has_machine_steps}
use Rattle.law_lanes.specs.Along.{EachLaneLineHasAStep, IsFitLaneLine}
use Rattle.law_lanes.specs.Lanes.{Lanes, counted, empty_track, lines_of, most_lanes, track, with_track}
use Rattle.law_lanes.specs.Parts.{IsLanePlay, LanePart, LanePoint, PartSteps, all_told, parts_of, state_behind}
use Rattle.law_lanes.specs.Reasons.{first_track, may_on, may_set, may_shift}
use Rattle.law_lanes.specs.Shown.{shown_on, standings_on}
use Rattle.law_lanes.specs.Steps as steps
use Rattle.law_lanes.specs.Steps.{LanesDo, LanesStep, OnTrack, RequestDoes, Shifts, copies, more_on, told_once}
use Rattle.law_lanes.proofs.Along.{IsFitPart, parts_fit, reached_along}
use Rattle.law_lanes.proofs.Moving.{IsShifted, MayShift, SeenShift, may_shift_is, shift_seen, step_like}
use Rattle.law_lanes.proofs.Seen.{IsOfLane, MayOn, is_done_of, may_on_is, named_some, of_lane}
use Rattle.law_lanes.proofs.Sharing.{like_back, like_both, like_same, shared_many}
use Rattle.law_lanes.proofs.Together.{IsThere, IsTogether, copies_track, counted_lines, first_there, lines_are, lines_on_each, more_track, other_put, own_put, put_many, together_copies, together_counted, together_more, together_put, two_alike}
use Rattle.law_lanes.proofs.Walk.{HonestTrack}

-- ---- what is done of a line, and that its tracks go on to be together

pub record IsKept (before next : Lanes) : Type 0 where
  pub together : IsTogether next
  pub lines : lines_of next ≡ lines_of before

pub record HasDone (before : Lanes) (Does : Lanes → List LaneHappening → Type 0) : Type 0 where
  pub next : Lanes
  pub done : List LaneHappening
  pub does : Does next done
  pub kept : IsKept before next

same_done : (s : Lanes) (what : List LaneHappening) → IsTogether s
    → HasDone s (steps.Becomes s what)
same_done s what is =
    record {
      next = s;
      done = what;
      does = record { after_is = refl; told_is = refl };
      kept = record { together = is; lines = refl };
    }

pub becomes_done : (s next : Lanes) (what : List LaneHappening) → IsKept s next
    → HasDone s (steps.Becomes next what)
becomes_done s next what kept =
    record {
      next = next;
      done = what;
      does = record { after_is = refl; told_is = refl };
      kept = kept;
    }

pub unless_done : (s : Lanes) (own may : May) (Does : Lanes → List LaneHappening → Type 0) → own ≡ may
    → IsTogether s → (own ≡ may_do → HasDone s Does)
    → HasDone s (λ after told. steps.Unless may s after told (Does after told))
unless_done s own (Err why) Does same is goes = same_done s (told_once (happenings.No why)) is
unless_done s own (Ok _) Does same is goes = goes same

-- ---- a line of one lane

track_lines : (s next : Lanes) (lane : ℕ) → IsTogether s → IsTogether next → IsThere lane s
    → IsThere lane next → (track lane next).lines ≡ (track lane s).lines
    → lines_of next ≡ lines_of s
track_lines s next lane is behind here there same =
    sym (lines_are next lane behind there) ∙ same ∙ lines_are s lane is here

on_track_done : (number lane : ℕ) (request : Request) (s : Lanes) → IsTogether s
    → IsOfLane request → MayOn lane request s
    → HasDone s (OnTrack lane (LineDoes number request) s)
on_track_done number lane request s is own may =
    let here = may.there in
    let step = (each_line number request (track lane s)).steps in
    let now = step.next in
    let like = two_alike s 1 lane is (first_there s is.some) here in
    let stands : 1 ≤ length (track lane s).machines =
    omega (
      arith,
      named_some request (track 1 s) own may.named,
      shared_many (track 1 s).machines (track lane s).machines like.machines,
    ) in
    let did = is_done_of number request (track lane s) now step.done (of_lane request own) stands
    step.does in
    let next = with_track lane now s in
    let behind = together_put lane now s is here did in
    let there : IsThere lane next = (here.0, omega (arith, here.1, put_many lane now s)) in
    record {
      next = next;
      done = told_on lane step.done;
      does = record {
        next = now;
        done = step.done;
        does = step.does;
        after_is = refl;
        told_is = refl;
      };
      kept = record {
        together = behind;
        lines = track_lines s next lane is behind here there
            (ap (λ (t : LineState). t.lines) (own_put lane now s here) ∙ did.lines);
      };
    }

lane_done : (number lane : ℕ) (request : Request) (s : Lanes) → IsTogether s → IsOfLane request
    → HasDone s (λ after told. steps.Unless (may_on lane request s) s after told
    (OnTrack lane (LineDoes number request) s after told))
lane_done number lane request s is own =
    unless_done s (may_on lane request s) (may_on lane request s)
    (OnTrack lane (LineDoes number request) s) refl is
    (λ may. on_track_done number lane request s is own (may_on_is lane request s may))

more_kept : (is_bridge : Bool) (capacity used : ℕ) (s : Lanes) → IsTogether s
    → IsKept s (record s { tracks = more_on 1 is_bridge capacity used s.tracks })
more_kept is_bridge capacity used s is =
    let next : Lanes = record s { tracks = more_on 1 is_bridge capacity used s.tracks } in
    let behind = together_more is_bridge capacity used s is in
    record {
      together = behind;
      lines = track_lines s next 1 is behind (first_there s is.some) (first_there next behind.some)
          (ap (λ (t : LineState). t.lines)
          (more_track is_bridge capacity used 1 s (first_there s is.some)));
    }

pub request_done : (number lane : ℕ) (request : Request) (s : Lanes) → IsTogether s
    → HasDone s (RequestDoes number lane request s)
request_done number lane requests.nothing s is = same_done s [] is
request_done number lane requests.shows s is = same_done s (shown_on s) is
request_done number lane (requests.adds own is_bridge capacity used) s is =
    unless_done s (may_add (first_track s)) (may_add (first_track s)) _ refl is
    (λ may. becomes_done s (record s { tracks = more_on 1 is_bridge capacity used s.tracks })
    (told_on 1 (added_told is_bridge capacity (first_track s)))
    (more_kept is_bridge capacity used s is))
request_done number lane (requests.stops machine) s is =
    unless_done s (may_stop machine (first_track s)) (may_stop machine (first_track s)) _ refl is
    (λ may. same_done s (told_once (happenings.Stop machine)) is)
request_done number lane request s is = lane_done number lane request s is tt

-- ---- lanes that are set

pub set_kept : (count : ℕ) (s : Lanes) → IsTogether s → 1 ≤ count → count ≤ most_lanes
    → IsKept s (record s { tracks = copies count (empty_track s) })
set_kept count s is some few =
    let next : Lanes = record s { tracks = copies count (empty_track s) } in
    let behind = together_copies count s some few in
    record {
      together = behind;
      lines = sym (lines_are next 1 behind (first_there next behind.some))
          ∙ ap (λ (t : LineState). t.lines) (copies_track count 1 s some (omega arith));
    }

-- ---- a shift

record HasShift (number machine from to id : ℕ) (s : Lanes) : Type 0 where
  after : Lanes
  told : List LaneHappening
  shifts : Shifts number machine from to id s after told

pub record NodeThere (machine : ℕ) (t : LineState) : Type 0 where
  pub node : NodeState
  pub there : machine_in machine t ≡ Some node

found_there : (machine : ℕ) (t : LineState) (found : Option NodeState)
    → machine_in machine t ≡ found → (may : NodeState → May) → if_there found may ≡ may_do
    → NodeThere machine t
found_there machine t (Some node) same may is = record { node = node; there = same }
found_there machine t None same may is = cc

shift_has : (number machine from to id : ℕ) (s : Lanes) → IsTogether s
    → MayShift machine from to id s → HasShift number machine from to id s
shift_has number machine from to id s is may =
    let at = found_there machine (track from s) (machine_in machine (track from s)) refl _ may.gives in
    let first = has_machine_steps number machine (inputs.Gives id to) (track from s) at.node at.there in
    let gave = first.after in
    let gives = first.steps in
    let own = get_may machine (inputs.Gives id to) (track from s) gives.node gives.there may.gives in
    let board = board_there gives.node (unread_by machine (track from s).world) (moment_of number) id
    own in
    let gave_like = step_like number machine (inputs.Gives id to) (track from s) gave first.told gives
    (λ m. refl) (λ b. refl) in
    let middle = with_track from gave s in
    let to_same : track to middle ≡ track to s =
    other_put from to gave s (λ (same : to ≡ from). may.apart (sym same)) may.giver may.taker
    ∙ like_same gave (track to s)
    (like_both gave (track from s) (track to s) (like_back (track from s) gave gave_like)
    (two_alike s from to is may.giver may.taker)) in
    let place = found_there machine (track to s) (machine_in machine (track to s)) refl _ may.takes in
    let there : machine_in machine (track to middle) ≡ Some place.node =
    ap (machine_in machine) to_same ∙ place.there in
    let second = has_machine_steps number machine (inputs.Gets board.board) (track to middle)
    place.node there in
    record {
      after = with_track to second.after middle;
      told = shift_told from to first.told second.told;
      shifts = record {
        gave = gave;
        given = first.told;
        gives = gives;
        board = board.board;
        is = board.is;
        got = second.after;
        taken = second.told;
        gets = second.steps;
        after_is = refl;
        told_is = refl;
      };
    }

shifted_lines : (number : ℕ) (before next : Lanes) (done : List LaneHappening)
    → IsTogether before → IsTogether next → (shift : IsShifted number before next done)
    → lines_of next ≡ lines_of before
shifted_lines number before next done is behind shift =
    sym (lines_on_each next shift.from behind shift.may.giver.0)
    ∙ lines_stay number (requests.gives shift.machine (inputs.Gives shift.id shift.to))
    (track shift.from before) (track shift.from next) shift.given shift.gives
    ∙ lines_on_each before shift.from is shift.may.giver.0

shift_kept : (number : ℕ) (before next : Lanes) (done : List LaneHappening) → IsTogether before
    → SeenShift number before next done → IsKept before next
shift_kept number before next done is seen =
    record {
      together = seen.together;
      lines = shifted_lines number before next done is seen.together seen.shifted;
    }

pub shift_done : (number machine from to id : ℕ) (s : Lanes) → IsTogether s
    → MayShift machine from to id s → HasDone s (Shifts number machine from to id s)
shift_done number machine from to id s is may =
    by (shift_has number machine from to id s is may) where
      by : HasShift number machine from to id s → HasDone s (Shifts number machine from to id s)
      by has =
          record {
            next = has.after;
            done = has.told;
            does = has.shifts;
            kept = shift_kept number s has.after has.told is
                (shift_seen number machine from to id s has.after has.told is may has.shifts);
          }

-- ---- each line

line_done : (number : ℕ) (line : LaneLine) (s : Lanes) → IsTogether s → IsFitLaneLine line
    → HasDone s (LanesDo number line s)
line_done number (lane_lines.On lane line) s is fit =
    request_done number lane (request_of line) s is
line_done number (lane_lines.Lanes count) s is fit =
    unless_done s (may_set s) (may_set s) _ refl is
    (λ may. becomes_done s (record s { tracks = copies count (empty_track s) })
    (told_once (happenings.Lanes count)) (set_kept count s is fit.0 fit.1))
line_done number (lane_lines.Shift machine from to id) s is fit =
    unless_done s (may_shift machine from to id s) (may_shift machine from to id s) _ refl is
    (λ may. shift_done number machine from to id s is (may_shift_is machine from to id s may))

-- ---- its parts

pub counts_behind : (ends : Bool) (old lines : ℕ) → old ≡ lines → Counts old (count_behind ends lines)
counts_behind true old lines same =
    record { least = omega (arith, same); most = omega (arith, same) }
counts_behind false old lines same =
    record { least = omega (arith, same); most = omega (arith, same) }

record HasPart (part : LanePart) (s : Lanes) : Type 0 where
  point : LanePoint
  steps : PartSteps part s point
  together : IsTogether point.after

part_has : (part : LanePart) (s : Lanes) → IsTogether s → IsFitLaneLine (part.line s)
    → HasPart part s
part_has part s is fit =
    let did = line_done (lines_of s + 1) (part.line s) s is fit in
    let lines = count_behind part.ends (lines_of s) in
    record {
      point = record { told = did.done ++ standings_on s did.next; after = counted lines did.next };
      steps = record {
        steps = record {
          next = did.next;
          done = did.done;
          does = did.does;
          lines = lines;
          counts = counts_behind part.ends (lines_of did.next) (lines_of s) did.kept.lines;
          after_is = refl;
          told_is = refl;
        };
        counted = counted_lines lines did.next did.kept.together.some;
      };
      together = together_counted lines did.next did.kept.together;
    }

record HasPlay (parts : List LanePart) (s : Lanes) : Type 0 where
  points : List LanePoint
  plays : IsLanePlay s parts points

play_has : (parts : List LanePart) (s : Lanes) → IsTogether s → AllByRecursion IsFitPart parts
    → HasPlay parts s
play_has [] s is fit = record { points = []; plays = tt }
play_has (part ∷ parts) s is fit =
    let one = part_has part s is (fit.0 s) in
    let more = play_has parts one.point.after one.together fit.1 in
    record { points = one.point ∷ more.points; plays = (one.steps, more.plays) }

-- EACH LINE HAS A STEP
pub each_lane_line : HonestTrack → EachLaneLineHasAStep
each_lane_line says line s fit reached =
    let is = (reached_along says s reached).together in
    let has = play_has (parts_of (length s.tracks) line) s is
    (parts_fit (length s.tracks) line fit) in
    record {
      after = state_behind s has.points;
      told = all_told has.points;
      steps = record {
        points = has.points;
        plays = has.plays;
        behind = refl;
        told_is = refl;
      };
    }

-- The run of a line with all its tracks: what holds behind some of its points holds behind one more.
use Rattle.std.proofs.Common.{◌≡◌, ◌≢◌, ◌∙◌, ◌+◌, ◌≤◌, ◌==◌, ◌++◌, ◌||◌, ◌⊎◌, inl, inr, ℕ, zero, suc, Bool, true, false, List, [], ◌∷◌, Some, None, Ok, Err, length, map, refl, sym, ap, subst, arith, append-nil, le→leb}
use Rattle.std.specs.Prelude.{if◌then◌else◌, slice_get}
use Rattle.std.specs.List.{AllByRecursion}
use Rattle.std.proofs.lemmas.Option.{get_or_from_slice_get}
use Rattle.board_record.specs.declared.record.Record.{Record}
use Rattle.line_base.specs.Moment.{IsMomentMillis}
use Rattle.line_base.specs.Text.{IsText}
use Rattle.line_script.specs.declared.line.LaneLine.{LaneLine}
use Rattle.line_script.specs.declared.line.LaneLine.TheVariants as lane_lines
use Rattle.law_link_messages.specs.Fit.{AreFitRecords, IsFitBody, IsFitDesk, IsFitRecord, more_kept}
use Rattle.law_link_messages.proofs.Saying.{all_read_fit}
use Rattle.node_core.specs.Boards.{first_kept, is_kept}
use Rattle.node_core.specs.Node.{NodeState, desk_of}
use Rattle.node_core.specs.Own.{ids_of}
use Rattle.node_core.specs.Reads.{all_read}
use Rattle.node_core.specs.Shifts.{board_given}
use Rattle.node_core.specs.declared.input.Input.TheVariants as inputs
use Rattle.standings.specs.Marks.{has_id, mark_if, marks_from}
use Rattle.standings.specs.declared.mark.Mark.{Mark}
use Rattle.standings.specs.declared.mark.Mark.TheVariants.{Kept}
use Rattle.line_report.specs.declared.happening.Happening.{Happening}
use Rattle.line_report.specs.declared.happening.Happening.TheVariants as happenings
use Rattle.line_report.specs.declared.happening.LaneHappening.{LaneHappening}
use Rattle.line_step.specs.FloorIds.{boards_of}
use Rattle.line_step.specs.Homes.{IsHonest, IsNewcomer, is_home}
use Rattle.line_step.specs.Lines.{Counts}
use Rattle.step_rules.specs.Makers.{IsOld}
use Rattle.line_step.specs.Numbered.{no_node, node_at}
use Rattle.line_step.specs.Reasons.{May}
use Rattle.line_step.specs.Requests.{Request, request_of}
use Rattle.line_step.specs.Requests as requests
use Rattle.line_step.specs.Runs.{IsRun, IsShort, Point, all_told, state_behind}
use Rattle.line_step.specs.Shown.{standings_told}
use Rattle.line_step.specs.State.{LineState, machine_in, marks_in, no_line, owned_by}
use Rattle.line_step.specs.Steps.{moment_of, unread_by}
use Rattle.line_step.specs.Tracks.{IsFromElsewhere, TrackLine, TrackSteps, other_line, own_line}
use Rattle.line_step.proofs.FloorLaws.{Holds}
use Rattle.law_one_standing.specs.Carried.{IsFitMachine}
use Rattle.law_one_standing.specs.Facts.{HasCustodyFacts}
use Rattle.law_one_standing.specs.Standing.{HasOneStanding, IsFitTrack}
use Rattle.law_lanes.specs.Along.{IsFitLaneLine, IsOnOneLane, all_done, told_for}
use Rattle.law_lanes.specs.Lanes.{Lanes, lines_of, no_lanes, track, unvouched_of}
use Rattle.law_lanes.specs.Parts.{LanePoint}
use Rattle.law_lanes.specs.Parts as lanes
use Rattle.law_lanes.specs.Reasons.{may_set, may_shift}
use Rattle.law_lanes.specs.Shown.{standings_on}
use Rattle.law_lanes.specs.Steps as steps
use Rattle.law_lanes.specs.Steps.{LanesDo, LanesStep, told_once}
use Rattle.law_lanes.specs.Views.{has_lie_on, tells_lie_on}
use Rattle.law_lanes.proofs.Apart.{AreApart, GoesOn, HaveHomes, IsHomeOn, Lies, apart_plainly, apart_shifted, homes_plainly, homes_shifted, line_goes, shift_lay, shift_on}
use Rattle.law_lanes.proofs.Floors.{absent_of, count}
use Rattle.law_lanes.proofs.Forms.{becomes_seen, no_shift, request_seen, set_seen, unless_seen}
use Rattle.law_lanes.proofs.Moving.{IsShifted, SeenShift, lies_old, may_shift_is, shift_seen}
use Rattle.law_lanes.proofs.Points.{TrackTo, all_told_more, honest_more, lie_more, take_past, told_beside, track_more, whole_honest}
use Rattle.law_lanes.proofs.Seen.{IsPlainLine, Seen, Sees, SeesLine, SeesPlainly, becomes_still, same_or_not}
use Rattle.law_lanes.proofs.Sharing.{left_counted, old_alike}
use Rattle.law_lanes.proofs.Telling.{done_append, for_append, lie_on_join, no_deed_lies, none_for, same_home, standings_none, track_none}
use Rattle.law_lanes.proofs.Together.{IsTogether, counted_track, counted_unvouched, lines_on_each, together_counted, two_alike}

-- ---- THE PREMISE: what one_standing says of an honest run of a track

-- an id with a mark is at home on the track, its machines' records are fit, each board stands once,
-- and the custody facts hold
pub record IsAtHome (points : List Point) (s : LineState) : Type 0 where
  pub home : (id : ℕ) → marks_in s id ≢ [] → is_home id (all_told points) ≡ true
  pub fit : (machine : ℕ) → IsFitMachine s machine
  pub one : HasOneStanding s
  pub custody : HasCustodyFacts s

abbrev pub HonestTrack : Type 0
HonestTrack =
    (asked : List TrackLine) (points : List Point) → AllByRecursion IsFitTrack asked
    → IsShort no_line points → IsRun no_line asked points → IsHonest asked points (length points)
    → IsAtHome points (state_behind no_line points)

-- ---- a board that a machine keeps has a mark

kept_by : (id : ℕ) (first : Record) (boards : List Record) (test : Bool)
    → (is_kept id boards ≡ true → has_id id (ids_of boards) ≡ true)
    → (if test then true else is_kept id boards) ≡ true
    → (test || has_id id (ids_of boards)) ≡ true
kept_by id first boards true later is = refl
kept_by id first boards false later is = later is

kept_has : (id : ℕ) (kept : List Record) → is_kept id kept ≡ true → has_id id (ids_of kept) ≡ true
kept_has id [] is = cc
kept_has id (first ∷ boards) is =
    kept_by id first boards (first.id == id) (kept_has id boards) is

some_first : (test : Bool) (mark : Mark) (a b : List Mark) → test ≡ true
    → (mark_if test mark ++ a) ++ b ≢ []
some_first true mark a b is none = cc
some_first false mark a b is none = cc

some_behind : (a b : List Mark) → b ≢ [] → a ++ b ≢ []
some_behind [] b some none = some none
some_behind (x ∷ a) b some none = cc

marks_some : (number : ℕ) (nodes : List NodeState) (place : ℕ) (node : NodeState) (id : ℕ)
    → slice_get nodes place ≡ Some node → has_id id (owned_by node).kept ≡ true
    → marks_from number (map owned_by nodes) id ≢ []
marks_some number [] place node id there has = cc
marks_some number (first ∷ nodes) zero node id there has =
    let same : first ≡ node = cc in
    some_first (has_id id (owned_by first).kept) (Kept number) _ _
    (subst (λ (n : NodeState). has_id id (owned_by n).kept ≡ true) (sym same) has)
marks_some number (first ∷ nodes) (suc place) node id there has =
    some_behind _ (marks_from (number + 1) (map owned_by nodes) id)
    (marks_some (number + 1) nodes place node id there has)

pub kept_marks : (s : LineState) (machine id : ℕ) (node : NodeState)
    → machine_in machine s ≡ Some node → is_kept id node.lane.body.kept ≡ true
    → marks_in s id ≢ []
kept_marks s zero id node there kept = cc
kept_marks s (suc place) id node there kept =
    marks_some 1 s.machines place node id there (kept_has id node.lane.body.kept kept)

-- ---- its record is fit

pub moment_fits : (number : ℕ) → number ≤ 1000000 → IsMomentMillis (moment_of number)
moment_fits number few =
    (record { le = tt }, record { le = le→leb number 253402300799999 (omega (arith, few)) })

node_of : (s : LineState) (machine : ℕ) (node : NodeState) → machine_in machine s ≡ Some node
    → node_at s machine ≡ node
node_of s zero node there = cc
node_of s (suc place) node there = get_or_from_slice_get s.machines place node no_node there

first_fit_by : (id : ℕ) (first : Record) (boards : List Record) (board : Record) (test : Bool)
    → IsFitRecord first → (first_kept id boards ≡ Some board → IsFitRecord board)
    → (if test then Some first else first_kept id boards) ≡ Some board → IsFitRecord board
first_fit_by id first boards board true one later is =
    let same : first ≡ board = cc in
    subst IsFitRecord same one
first_fit_by id first boards board false one later is = later is

first_fit : (id : ℕ) (kept : List Record) (board : Record) → AreFitRecords kept
    → first_kept id kept ≡ Some board → IsFitRecord board
first_fit id [] board fit is = cc
first_fit id (first ∷ boards) board (more_kept one rest) is =
    first_fit_by id first boards board (first.id == id) one (first_fit id boards board rest) is

pub board_fit : (number machine id : ℕ) (s : LineState) (node : NodeState) (board : Record)
    → machine_in machine s ≡ Some node → number ≤ 1000000 → IsFitMachine s machine
    → board_given node (unread_by machine s.world) (moment_of number) id ≡ Some board
    → IsFitRecord board
board_fit number machine id s node board there few fit is =
    let at = node_of s machine node there in
    let body = subst (λ (n : NodeState). IsFitBody n.lane.body) at fit.body in
    let desk : IsFitDesk (desk_of node (moment_of number)) =
    record {
      name = subst (λ (n : NodeState). IsText n.name) at fit.name;
      lane = subst (λ (n : NodeState). n.number ≤ 999_999_999) at fit.lane;
      moment = moment_fits number few;
    } in
    let read = all_read_fit (desk_of node (moment_of number)) (unread_by machine s.world)
    node.lane.body desk body in
    first_fit id (all_read (desk_of node (moment_of number)) (unread_by machine s.world)
    node.lane.body).body.kept board read.body.kept is

-- ---- what a line is to each lane

set_or_not : (number count : ℕ) (before next : Lanes) (done : List LaneHappening)
    → IsTogether before → IsFitLaneLine (lane_lines.Lanes count)
    → LanesDo number (lane_lines.Lanes count) before next done → Seen number before next done
set_or_not number count before next done is fit does =
    unless_seen number (may_set before) (may_set before) before next done _ refl is does
    (λ may b. becomes_seen number before _ next (told_once (happenings.Lanes count)) done
    (set_seen number count before is may fit.0 fit.1) b)

shift_or_not : (number machine from to id : ℕ) (before next : Lanes) (done : List LaneHappening)
    (may : May) → may_shift machine from to id before ≡ may → IsTogether before
    → steps.Unless may before next done
    (steps.Shifts number machine from to id before next done)
    → Seen number before next done ⊎ SeenShift number before next done
shift_or_not number machine from to id before next done (Err why) same is does =
    inl (becomes_still number before next (told_once (happenings.No why)) done is (refl, tt) does)
shift_or_not number machine from to id before next done (Ok _) same is does =
    inr (shift_seen number machine from to id before next done is
    (may_shift_is machine from to id before same) does)

pub line_seen : (number : ℕ) (line : LaneLine) (before next : Lanes) (done : List LaneHappening)
    → IsTogether before → ((l : ℕ) → 1 ≤ l → Holds (track l before)) → IsFitLaneLine line
    → LanesDo number line before next done
    → Seen number before next done ⊎ SeenShift number before next done
line_seen number (lane_lines.On lane line) before next done is holds fit does =
    inl (request_seen number lane (request_of line) before next done is holds (no_shift line) fit
    does)
line_seen number (lane_lines.Lanes count) before next done is holds fit does =
    inl (set_or_not number count before next done is fit does)
line_seen number (lane_lines.Shift machine from to id) before next done is holds fit does =
    shift_or_not number machine from to id before next done (may_shift machine from to id before)
    refl is does

-- ---- the lanes of a shift

plain_sees : (number lane : ℕ) (before next : Lanes) (done : List LaneHappening)
    → SeesPlainly number lane before next done → SeesLine number lane before next done
plain_sees number lane before next done sees =
    record { line = sees.line; told = sees.told; sees = sees.sees; same = sees.same }

giver_sees : (number : ℕ) (before next : Lanes) (done : List LaneHappening)
    (shift : IsShifted number before next done) → SeesLine number shift.from before next done
giver_sees number before next done shift =
    record {
      line = own_line (requests.gives shift.machine (inputs.Gives shift.id shift.to));
      told = shift.given;
      sees = (shift.gives, tt);
      same = ap all_done (sym (shift_on number before next done shift).giver);
    }

none_by : (n : ℕ) → (1 ≤ n → ⊥) → n ≡ 0
none_by zero never = refl
none_by (suc n) never = absurd (never (omega arith))

from_elsewhere : (number : ℕ) (before next : Lanes) (done : List LaneHappening)
    (shift : IsShifted number before next done) → IsTogether before
    → ((l : ℕ) → 1 ≤ l → Holds (track l before)) → AreApart before
    → IsFromElsewhere shift.board.id (track shift.to before)
from_elsewhere number before next done shift is holds apart =
    let giver = shift.may.giver in
    let taker = shift.may.taker in
    let goes = line_goes number shift.from before next done (holds shift.from giver.0)
    (giver_sees number before next done shift) in
    let lay = shift_lay number before next done shift goes in
    let old = old_alike (track shift.from before) (track shift.to before) shift.id
    (two_alike before shift.from shift.to is giver taker)
    (lies_old (track shift.from before) shift.id (holds shift.from giver.0) lay) in
    let none : count shift.id (boards_of (track shift.to before)) ≡ 0 =
    none_by (count shift.id (boards_of (track shift.to before)))
    (λ (lies : Lies before shift.id shift.to).
    shift.may.apart (apart shift.id shift.from shift.to giver.0 taker.0 lay lies)) in
    subst (λ (x : ℕ). IsFromElsewhere x (track shift.to before)) (sym shift.own)
    (record { made = old; absent = absent_of shift.id (boards_of (track shift.to before)) none })

taker_sees : (number : ℕ) (before next : Lanes) (done : List LaneHappening)
    (shift : IsShifted number before next done)
    → IsFromElsewhere shift.board.id (track shift.to before)
    → SeesLine number shift.to before next done
taker_sees number before next done shift from =
    record {
      line = own_line (requests.gives shift.machine (inputs.Gets shift.board));
      told = shift.taken;
      sees = (shift.gets, from);
      same = ap all_done (sym (shift_on number before next done shift).taker);
    }

third_sees : (number lane : ℕ) (before next : Lanes) (done : List LaneHappening)
    (shift : IsShifted number before next done) → 1 ≤ lane → lane ≢ shift.from → lane ≢ shift.to
    → SeesLine number lane before next done
third_sees number lane before next done shift some one two =
    record {
      line = other_line;
      told = [];
      sees = (shift.others lane some one two, refl);
      same = ap all_done (sym ((shift_on number before next done shift).third lane one two));
    }

-- a line that a lane sees: of a board that comes the record and where it comes from are known
pub data IsKnown (number : ℕ) (before next : Lanes) (done : List LaneHappening) (lane : ℕ)
    : TrackLine → Type 0 where
  known_plain : {line : TrackLine} → IsPlainLine line → IsFitTrack line
      → IsKnown number before next done lane line
  known_gets : (shift : IsShifted number before next done) → lane ≡ shift.to
      → IsKnown number before next done lane
      (own_line (requests.gives shift.machine (inputs.Gets shift.board)))

pub record KnowsLine (number lane : ℕ) (before next : Lanes) (done : List LaneHappening) : Type 0 where
  pub sees : SeesLine number lane before next done
  pub known : IsKnown number before next done lane sees.line

plainly_knows : (number lane : ℕ) (before next : Lanes) (done : List LaneHappening)
    → SeesPlainly number lane before next done → KnowsLine number lane before next done
unfolding plain_sees
plainly_knows number lane before next done sees =
    record {
      sees = plain_sees number lane before next done sees;
      known = known_plain sees.plain sees.fit;
    }

shift_knows : (number lane : ℕ) (before next : Lanes) (done : List LaneHappening)
    (shift : IsShifted number before next done)
    → IsFromElsewhere shift.board.id (track shift.to before) → 1 ≤ lane
    → (lane ≡ shift.from) ⊎ (lane ≢ shift.from) → (lane ≡ shift.to) ⊎ (lane ≢ shift.to)
    → KnowsLine number lane before next done
unfolding giver_sees taker_sees third_sees
shift_knows number lane before next done shift from some (inl here) to =
    subst (λ (l : ℕ). KnowsLine number l before next done) (sym here)
    (record { sees = giver_sees number before next done shift; known = known_plain tt tt })
shift_knows number lane before next done shift from some (inr apart) (inl here) =
    subst (λ (l : ℕ). KnowsLine number l before next done) (sym here)
    (record {
      sees = taker_sees number before next done shift from;
      known = known_gets shift refl;
    })
shift_knows number lane before next done shift from some (inr apart) (inr other) =
    record {
      sees = third_sees number lane before next done shift some apart other;
      known = known_plain tt tt;
    }

-- ---- counted

pub record StepsOn (number lane lines : ℕ) (before next : Lanes) (done : List LaneHappening)
    (line : TrackLine) : Type 0 where
  pub told : List Happening
  pub steps : TrackSteps number line (track lane before)
      (record (track lane next) { lines = lines }) told
  pub same : all_done told ≡ all_done (told_for lane done)

steps_on : (number lane lines : ℕ) (before next : Lanes) (done : List LaneHappening)
    (line : TrackLine) (told : List Happening) → Counts (track lane next).lines lines
    → Sees number line (track lane before) (track lane next) told
    → all_done told ≡ all_done (told_for lane done)
    → StepsOn number lane lines before next done line
steps_on number lane lines before next done (own_line request) told counts sees same =
    let standings = standings_told (track lane before) (track lane next) in
    record {
      told = told ++ standings;
      steps = (
        record {
          next = track lane next;
          done = told;
          does = sees.0;
          lines = lines;
          counts = counts;
          after_is = refl;
          told_is = refl;
        },
        sees.1,
      );
      same =
          done_append told standings
          ∙ ap (λ (t : List Happening). all_done told ++ t)
          (track_none (track lane before) (track lane next))
          ∙ append-nil (all_done told) ∙ same;
    }
steps_on number lane lines before next done other_line told counts sees same =
    record {
      told = told;
      steps = (left_counted (track lane before) (track lane next) lines sees.0 counts, sees.1);
      same = same;
    }

standings_for : (lane : ℕ) (before next : Lanes) (done : List LaneHappening)
    → all_done (told_for lane (done ++ standings_on before next)) ≡ all_done (told_for lane done)
standings_for lane before next done =
    let standings = standings_on before next in
    ap all_done (for_append lane done standings)
    ∙ done_append (told_for lane done) (told_for lane standings)
    ∙ ap (λ (t : List Happening). all_done (told_for lane done) ++ t)
    (none_for lane standings (standings_none before next))
    ∙ append-nil (all_done (told_for lane done))

-- ---- ALL TOGETHER, behind some points

pub record Along (points : List LanePoint) (s : Lanes) : Type 0 where
  pub behind : lanes.state_behind no_lanes points ≡ s
  pub together : IsTogether s
  pub holds : (lane : ℕ) → 1 ≤ lane → Holds (track lane s)
  pub apart : AreApart s
  pub vouched : unvouched_of s ≡ None → has_lie_on points ≡ false
  pub tracks : (lane : ℕ) → 1 ≤ lane → TrackTo lane points s
  pub homes : has_lie_on points ≡ false → HaveHomes (lanes.all_told points) s

-- what one_standing says of a track of it
pub at_home : HonestTrack → (lane : ℕ) (points : List LanePoint) (s : Lanes)
    → (t : TrackTo lane points s) → has_lie_on points ≡ false → IsAtHome t.own (track lane s)
at_home says lane points s t none =
    let whole = whole_honest lane points s t none in
    let n = length t.own in
    let all = t.honest n (ap has_lie_on (take_past n points (omega (arith, t.points_many))) ∙ none) in
    subst (λ (b : LineState). IsAtHome t.own b) t.behind
    (says t.asked t.own whole.fit t.short t.run all.0)

-- an id with a mark on a lane is at home there
pub mark_home : HonestTrack → (lane id : ℕ) (points : List LanePoint) (s : Lanes)
    → TrackTo lane points s → has_lie_on points ≡ false → marks_in (track lane s) id ≢ []
    → IsHomeOn (lanes.all_told points) id lane
mark_home says lane id points s t none marks =
    let home = (at_home says lane points s t none).home id marks in
    sym (same_home id (all_told t.own) (told_for lane (lanes.all_told points)) false
    (told_beside lane points t.own t.beside)) ∙ home

-- NO RECORD IS ON TWO LANES
pub on_one_lane : HonestTrack → (points : List LanePoint) (s : Lanes) → Along points s
    → has_lie_on points ≡ false → IsOnOneLane s
on_one_lane says points s all none id lane other some more one two =
    (all.homes none).once id lane other some more
    (mark_home says lane id points s (all.tracks lane some) none one)
    (mark_home says other id points s (all.tracks other more) none two)

-- ---- one line more

homes_same : (a b : List LaneHappening) (s t : Lanes)
    → ((lane : ℕ) → 1 ≤ lane → all_done (told_for lane a) ≡ all_done (told_for lane b))
    → ((lane : ℕ) → 1 ≤ lane → (track lane t).machines ≡ (track lane s).machines)
    → HaveHomes a s → HaveHomes b t
homes_same a b s t same machines homes =
    let back : (lane id : ℕ) → 1 ≤ lane → IsHomeOn b id lane → IsHomeOn a id lane =
    λ lane id some is.
    same_home id (told_for lane a) (told_for lane b) false (same lane some) ∙ is in
    record {
      old = λ lane id some is.
          subst (λ (ns : List NodeState). IsOld 1 ns id) (sym (machines lane some))
          (homes.old lane id some (back lane id some is));
      once = λ id lane other some more one two.
          homes.once id lane other some more (back lane id some one) (back other id more two);
    }

plain_new : (past : List Happening) (line : TrackLine) → IsPlainLine line → IsNewcomer past line
plain_new past (own_line (requests.gives machine (inputs.Gets board))) plain = absurd plain
plain_new past line plain = tt

not_home : (home : Bool) → (home ≡ true → ⊥) → home ≡ false
not_home false never = refl
not_home true never = absurd (never refl)

-- a line of a lane brings fit boards, which weren't at home there
known_new : HonestTrack → (number lane : ℕ) (points : List LanePoint) (before next : Lanes)
    (done : List LaneHappening) (line : TrackLine) → number ≤ 1000000 → Along points before
    → has_lie_on points ≡ false → (t : TrackTo lane points before) → 1 ≤ lane
    → IsKnown number before next done lane line
    → IsNewcomer (all_told t.own) line × IsFitTrack line
known_new says number lane points before next done line few all none t some (known_plain plain fit) =
    (plain_new (all_told t.own) line plain, fit)
known_new says number lane points before next done line few all none t some (known_gets shift here) =
    let giver = shift.may.giver in
    let from_t = all.tracks shift.from giver.0 in
    let at = at_home says shift.from points before from_t none in
    let own : IsHomeOn (lanes.all_told points) shift.id shift.from =
    mark_home says shift.from shift.id points before from_t none
    (kept_marks (track shift.from before) shift.machine shift.id shift.node shift.there shift.kept) in
    let away : is_home shift.id (told_for lane (lanes.all_told points)) ≡ false =
    not_home _ (λ (home : IsHomeOn (lanes.all_told points) shift.id lane).
    shift.may.apart ((all.homes none).once shift.id shift.from lane giver.0 some own home ∙ here)) in
    let new : is_home shift.id (all_told t.own) ≡ false =
    same_home shift.id (all_told t.own) (told_for lane (lanes.all_told points)) false
    (told_beside lane points t.own t.beside) ∙ away in (
      subst (λ (x : ℕ). is_home x (all_told t.own) ≡ false) (sym shift.own) new,
      board_fit number shift.machine shift.id (track shift.from before) shift.node shift.board
          shift.there few (at.fit shift.machine) shift.is,
    )

-- what both kinds of line give
record Gives (number : ℕ) (points : List LanePoint) (before next : Lanes)
    (done : List LaneHappening) : Type 0 where
  together : IsTogether next
  vouches : unvouched_of next ≡ None → (unvouched_of before ≡ None) × (tells_lie_on done ≡ false)
  knows : (lane : ℕ) → 1 ≤ lane → KnowsLine number lane before next done
  goes : (lane : ℕ) → 1 ≤ lane → GoesOn lane before next done
  apart : AreApart next
  homes : has_lie_on points ≡ false → HaveHomes (lanes.all_told points ++ done) next

gives_plainly : (number : ℕ) (points : List LanePoint) (before next : Lanes)
    (done : List LaneHappening) → Along points before → Seen number before next done
    → Gives number points before next done
gives_plainly number points before next done all seen =
    let plain = seen.plainly in
    let goes : (lane : ℕ) → 1 ≤ lane → GoesOn lane before next done =
    λ lane some. line_goes number lane before next done (all.holds lane some)
    (plain_sees number lane before next done (plain.each lane some)) in
    record {
      together = seen.together;
      vouches = seen.vouches;
      knows = λ lane some. plainly_knows number lane before next done (plain.each lane some);
      goes = goes;
      apart = apart_plainly number before next done plain all.holds goes all.apart;
      homes = λ none.
          homes_plainly number before next (lanes.all_told points) done plain goes (all.homes none);
    }

gives_shifted : HonestTrack → (number : ℕ) (points : List LanePoint) (before next : Lanes)
    (done : List LaneHappening) → Along points before → SeenShift number before next done
    → Gives number points before next done
gives_shifted says number points before next done all seen =
    let shift = seen.shifted in
    let giver = shift.may.giver in
    let from = from_elsewhere number before next done shift all.together all.holds all.apart in
    let knows : (lane : ℕ) → 1 ≤ lane → KnowsLine number lane before next done =
    λ lane some. shift_knows number lane before next done shift from some
    (same_or_not lane shift.from) (same_or_not lane shift.to) in
    let goes : (lane : ℕ) → 1 ≤ lane → GoesOn lane before next done =
    λ lane some. line_goes number lane before next done (all.holds lane some)
    (knows lane some).sees in
    record {
      together = seen.together;
      vouches = seen.vouches;
      knows = knows;
      goes = goes;
      apart = apart_shifted number before next done shift all.holds goes all.apart;
      homes = λ none.
          homes_shifted number before next (lanes.all_told points) done shift goes (all.homes none)
          (mark_home says shift.from shift.id points before (all.tracks shift.from giver.0) none
          (kept_marks (track shift.from before) shift.machine shift.id shift.node shift.there
          shift.kept));
    }

gives_of : HonestTrack → (number : ℕ) (points : List LanePoint) (before next : Lanes)
    (done : List LaneHappening) → Along points before
    → Seen number before next done ⊎ SeenShift number before next done
    → Gives number points before next done
gives_of says number points before next done all (inl seen) =
    gives_plainly number points before next done all seen
gives_of says number points before next done all (inr seen) =
    gives_shifted says number points before next done all seen

behind_last : (s : Lanes) (points : List LanePoint) (point : LanePoint)
    → lanes.state_behind s (points ++ point ∷ []) ≡ point.after
behind_last s [] point = refl
behind_last s (first ∷ points) point = behind_last first.after points point

counted_holds : (lines : ℕ) (t : LineState) → Holds t → Holds (record t { lines = lines })
counted_holds lines t h =
    record { own = h.own; many = h.many; whole = h.whole; old = h.old; differ = h.differ }

-- THE STEP
pub along_more : HonestTrack → (points : List LanePoint) (before : Lanes) (point : LanePoint)
    (line : LaneLine) → Along points before → IsFitLaneLine line → lines_of before + 1 ≤ 1000000
    → LanesStep (lines_of before + 1) line before point.after point.told
    → Along (points ++ point ∷ []) point.after
along_more says points before point line all fit few step =
    let number = lines_of before + 1 in
    let next = step.next in
    let lines = step.lines in
    let gives = gives_of says number points before next step.done all
    (line_seen number line before next step.done all.together all.holds fit step.does) in
    let at : (lane : ℕ) → 1 ≤ lane → track lane point.after ≡ record (track lane next) { lines = lines } =
    λ lane some. ap (track lane) step.after_is
    ∙ counted_track lines lane next gives.together.some some in
    let told : (lane : ℕ) → all_done (told_for lane point.told) ≡ all_done (told_for lane step.done) =
    λ lane. ap (λ (t : List LaneHappening). all_done (told_for lane t)) step.told_is
    ∙ standings_for lane before next step.done in
    record {
      behind = behind_more points point;
      together = subst (λ (s : Lanes). IsTogether s) (sym step.after_is)
          (together_counted lines next gives.together);
      holds = λ lane some.
          subst (λ (t : LineState). Holds t) (sym (at lane some))
          (counted_holds lines (track lane next) (gives.goes lane some).goes.holds);
      apart = λ id lane other some more one two.
          gives.apart id lane other some more
          (subst (λ (t : LineState). 1 ≤ count id (boards_of t)) (at lane some) one)
          (subst (λ (t : LineState). 1 ≤ count id (boards_of t)) (at other more) two);
      vouched = λ none.
          let was = gives.vouches (sym (counted_unvouched lines next gives.together.some)
          ∙ ap unvouched_of (sym step.after_is) ∙ none) in
          honest_more points point (all.vouched was.0)
          (ap tells_lie_on step.told_is
          ∙ lie_on_join step.done (standings_on before next) was.1
          (no_deed_lies (standings_on before next) (standings_none before next)));
      tracks = λ lane some. one_track lane some gives at told;
      homes = λ none.
          let was = lie_more points point none in
          homes_same (lanes.all_told points ++ step.done)
          (lanes.all_told (points ++ point ∷ [])) next point.after
          (λ lane some. same_told lane (told lane))
          (λ lane some. ap (λ (t : LineState). t.machines) (at lane some))
          (gives.homes was.0);
    } where
      behind_more : (ps : List LanePoint) (p : LanePoint)
          → lanes.state_behind no_lanes (ps ++ p ∷ []) ≡ p.after
      behind_more ps p = behind_last no_lanes ps p

      same_told : (lane : ℕ) → all_done (told_for lane point.told) ≡ all_done (told_for lane step.done)
          → all_done (told_for lane (lanes.all_told points ++ step.done))
          ≡ all_done (told_for lane (lanes.all_told (points ++ point ∷ [])))
      same_told lane same =
          let past = lanes.all_told points in
          ap all_done (for_append lane past step.done)
          ∙ done_append (told_for lane past) (told_for lane step.done)
          ∙ ap (λ (t : List Happening). all_done (told_for lane past) ++ t) (sym same)
          ∙ sym (done_append (told_for lane past) (told_for lane point.told))
          ∙ ap all_done (sym (for_append lane past point.told))
          ∙ ap (λ (t : List LaneHappening). all_done (told_for lane t)) (sym (all_told_more points point))

      one_track : (lane : ℕ) → 1 ≤ lane
          → Gives (lines_of before + 1) points before step.next step.done
          → ((l : ℕ) → 1 ≤ l → track l point.after ≡ record (track l step.next) { lines = step.lines })
          → ((l : ℕ) → all_done (told_for l point.told) ≡ all_done (told_for l step.done))
          → TrackTo lane (points ++ point ∷ []) point.after
      one_track lane some gives at told =
          let number = lines_of before + 1 in
          let next = step.next in
          let knows = gives.knows lane some in
          let counts : Counts (track lane next).lines step.lines =
          subst (λ (n : ℕ). Counts n step.lines)
          (sym (lines_on_each next lane gives.together some)) step.counts in
          let on = steps_on number lane step.lines before next step.done knows.sees.line
          knows.sees.told counts knows.sees.sees knows.sees.same in
          let t = all.tracks lane some in
          track_more lane points before point knows.sees.line on.told t few
          (lines_on_each before lane all.together some)
          (subst (λ (b : LineState). TrackSteps number knows.sees.line (track lane before) b on.told)
          (sym (at lane some)) on.steps)
          (on.same ∙ sym (told lane))
          (λ none. known_new says number lane points before next step.done knows.sees.line few all
          none t some knows.known)

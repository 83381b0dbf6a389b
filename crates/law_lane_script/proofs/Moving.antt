-- What a line is to each lane, a shift too.
use Rattle.std.proofs.Common.{◌≡◌, ◌≢◌, ◌∙◌, ◌+◌, ◌≤◌, ◌==◌, ◌++◌, ℕ, ℤ, zero, suc, Bool, true, false, List, [], ◌∷◌, Option, Some, Ok, Err, refl, sym, ap, subst, arith, eqb-true}
use Rattle.std.specs.Prelude.{if◌then◌else◌}
use Rattle.std.proofs.lemmas.Bool.{eqb-false}
use Rattle.board_record.specs.declared.record.Record.{Record}
use Rattle.board_record.specs.declared.sensed.Sensed.{Sensed}
use Rattle.line_script.specs.declared.line.LaneLine.{LaneLine}
use Rattle.line_script.specs.declared.line.LaneLine.TheVariants as lane_lines
use Rattle.node_core.specs.Node.{NodeState, desk_of}
use Rattle.node_core.specs.Reads.{all_read}
use Rattle.node_core.specs.declared.act.Act.TheVariants as acts
use Rattle.node_core.specs.declared.input.Input.TheVariants as inputs
use Rattle.line_report.specs.Shifts.{shift_told}
use Rattle.line_report.specs.declared.happening.Happening.{Happening}
use Rattle.line_report.specs.declared.happening.Happening.TheVariants as happenings
use Rattle.line_report.specs.declared.happening.LaneHappening.{LaneHappening}
use Rattle.step_rules.specs.Makers.{IsOld}
use Rattle.line_step.specs.FloorIds.{boards_of}
use Rattle.line_step.specs.Reasons.{may_do}
use Rattle.line_step.specs.Requests.{request_of}
use Rattle.line_step.specs.Requests as requests
use Rattle.line_step.specs.State.{machine_in}
use Rattle.line_step.specs.Steps.{moment_of, unread_by}
use Rattle.line_step.specs.Tracks.{IsFromElsewhere, TrackLine, other_line, own_line}
use Rattle.line_step.proofs.FloorLaws.{Holds}
use Rattle.law_one_standing.specs.Told.{IsTold, told_first}
use Rattle.law_one_standing.proofs.ApartStep.{told_behind}
use Rattle.law_lanes.specs.Along.{IsFitLaneLine, all_done, told_for}
use Rattle.law_lanes.specs.Lanes.{Lanes, lines_of, track}
use Rattle.law_lanes.specs.Reasons.{may_shift}
use Rattle.law_lanes.specs.Steps.{LanesDo, Shifts}
use Rattle.law_lanes.proofs.Apart.{AreApart, Lies, ShiftOn, line_goes, shift_lay, shift_on}
use Rattle.law_lanes.proofs.Floors.{absent_of, count}
use Rattle.law_lanes.proofs.Forms.{no_shift}
use Rattle.law_lanes.proofs.Moving.{IsShifted, MayShift, SeenShift, lies_old, may_shift_is, shift_seen}
use Rattle.law_lanes.proofs.Seen.{SeesLine}
use Rattle.law_lanes.proofs.Sharing.{old_alike}
use Rattle.law_lanes.proofs.Shifting.{ShiftTold, TellsOne, first_is_kept, gets_tells, gives_tells, shift_gave}
use Rattle.law_lanes.proofs.Together.{IsTogether, two_alike}
use Rattle.law_lanes.proofs.Walk.{known_gets, known_plain}
use Rattle.law_lane_shifts.proofs.Told.{IsThatShift, that_shift}
use Rattle.law_lane_script.specs.Lines.{board_of, line_on, moved_on}
use Rattle.law_lane_script.proofs.Seeing.{KnowsAs, none_knows, request_knows, set_knows, unless_knows}

-- ---- a board comes from elsewhere

giver_sees : (number : ℕ) (before next : Lanes) (done : List LaneHappening)
    (shift : IsShifted number before next done) → SeesLine number shift.from before next done
giver_sees number before next done shift =
    record {
      line = own_line (requests.gives shift.machine (inputs.Gives shift.id shift.to));
      told = shift.given;
      sees = (shift.gives, tt);
      same = ap all_done (sym (shift_on number before next done shift).giver);
    }

none_by : (n : ℕ) → (1 ≤ n → ⊥) → n ≡ 0
none_by zero never = refl
none_by (suc n) never = absurd (never (omega arith))

from_elsewhere : (number : ℕ) (before next : Lanes) (done : List LaneHappening)
    (shift : IsShifted number before next done) → IsTogether before
    → ((l : ℕ) → 1 ≤ l → Holds (track l before)) → AreApart before
    → IsFromElsewhere shift.board.id (track shift.to before)
from_elsewhere number before next done shift is holds apart =
    let giver = shift.may.giver in
    let taker = shift.may.taker in
    let goes = line_goes number shift.from before next done (holds shift.from giver.0)
    (giver_sees number before next done shift) in
    let lay = shift_lay number before next done shift goes in
    let old = old_alike (track shift.from before) (track shift.to before) shift.id
    (two_alike before shift.from shift.to is giver taker)
    (lies_old (track shift.from before) shift.id (holds shift.from giver.0) lay) in
    let none : count shift.id (boards_of (track shift.to before)) ≡ 0 =
    none_by (count shift.id (boards_of (track shift.to before)))
    (λ (lies : Lies before shift.id shift.to).
    shift.may.apart (apart shift.id shift.from shift.to giver.0 taker.0 lay lies)) in
    subst (λ (x : ℕ). IsFromElsewhere x (track shift.to before)) (sym shift.own)
    (record { made = old; absent = absent_of shift.id (boards_of (track shift.to before)) none })

-- ---- a shift

own_shift : (number lane : ℕ) (before next : Lanes) (done : List LaneHappening)
    (shift : IsShifted number before next done)
    → IsFromElsewhere shift.board.id (track shift.to before) → 1 ≤ lane
    → KnowsAs number lane
    (moved_on lane shift.machine shift.from shift.to shift.id (Some shift.board)) before next done
own_shift number lane before next done shift from some =
    by (shift.from == lane) refl where
      on : ShiftOn number before next done shift
      on = shift_on number before next done shift

      comes : TrackLine
      comes = own_line (requests.gives shift.machine (inputs.Gets shift.board))

      other : shift.from ≢ lane → (to : Bool) → (shift.to == lane) ≡ to
          → KnowsAs number lane
          (if to then own_line (requests.gives shift.machine (inputs.Gets shift.board)) else other_line)
          before next done
      other apart true here =
          subst (λ (l : ℕ). KnowsAs number l comes before next done)
          (eqb-true shift.to lane here)
          (record {
            sees = record {
              told = shift.taken;
              sees = (shift.gets, from);
              same = ap all_done (sym on.taker);
              whole = λ of_it. sym on.taker;
            };
            known = known_gets shift refl;
          })
      other apart false away =
          let far : lane ≢ shift.from = λ (same : lane ≡ shift.from). apart (sym same) in
          let aside : lane ≢ shift.to =
          λ (same : lane ≡ shift.to). eqb-false shift.to lane away (sym same) in
          none_knows number lane before next done (shift.others lane some far aside)
          (ap all_done (on.third lane far aside))

      by : (here : Bool) → (shift.from == lane) ≡ here
          → KnowsAs number lane
          (if here then own_line (requests.gives shift.machine (inputs.Gives shift.id shift.to)) else
          (if shift.to == lane then own_line (requests.gives shift.machine (inputs.Gets shift.board)) else other_line))
          before next done
      by true here =
          subst (λ (l : ℕ). KnowsAs number l
          (own_line (requests.gives shift.machine (inputs.Gives shift.id shift.to))) before next done)
          (eqb-true shift.from lane here)
          (record {
            sees = record {
              told = shift.given;
              sees = (shift.gives, tt);
              same = ap all_done (sym on.giver);
              whole = λ of_it. sym on.giver;
            };
            known = known_plain tt tt;
          })
      by false apart =
          other (eqb-false shift.from lane apart) (shift.to == lane) refl

-- what is told of the lane from which the board goes
given_told : (number machine from to id : ℕ) (before next : Lanes) (done : List LaneHappening)
    → from ≢ to → Shifts number machine from to id before next done
    → IsTold (happenings.Done machine (acts.Gives id to)) (told_for from done)
given_told number machine from to id before next done apart did =
    let giver = track from before in
    let given = gives_tells number machine id to giver did.gave did.given did.gives did.board did.is in
    let own : did.board.id ≡ id =
    (first_is_kept id (all_read (desk_of did.gives.node (moment_of number))
    (unread_by machine giver.world) did.gives.node.lane.body).body.kept did.board did.is).is in
    let taken = subst (λ (n : ℕ). TellsOne machine (acts.Gets n) did.taken) own
    (gets_tells number machine did.board _ did.got did.taken did.gets) in
    let tells : ShiftTold machine from to id did.given did.taken =
    record { gives = given; gets = taken } in
    let here : told_for from done ≡ did.given =
    ap (told_for from) did.told_is
    ∙ shift_gave machine from to id did.given did.taken apart tells in
    subst (λ (all : List Happening). IsTold (happenings.Done machine (acts.Gives id to)) all)
    (sym (here ∙ given.is)) (told_behind given.front told_first)

-- the record is the one that the machine gives
abbrev moves_as : ℕ → ℕ → Lanes → ℕ → ℕ → ℕ → ℕ → TrackLine
moves_as number lane before machine from to id =
    moved_on lane machine from to id
    (board_of (machine_in machine (track from before)) (unread_by machine (track from before).world)
    (moment_of number) id)

own_moves : (number lane : ℕ) (before next : Lanes) (done : List LaneHappening)
    (shift : IsShifted number before next done)
    → moved_on lane shift.machine shift.from shift.to shift.id (Some shift.board)
    ≡ moves_as number lane before shift.machine shift.from shift.to shift.id
own_moves number lane before next done shift =
    ap (moved_on lane shift.machine shift.from shift.to shift.id)
    (sym (ap (λ (found : Option NodeState). board_of found
    (unread_by shift.machine (track shift.from before).world) (moment_of number) shift.id) shift.there
    ∙ shift.is))

shift_knows : (number lane machine from to id : ℕ) (before next : Lanes)
    (done : List LaneHappening) → IsTogether before → ((l : ℕ) → 1 ≤ l → Holds (track l before))
    → AreApart before → 1 ≤ lane → may_shift machine from to id before ≡ may_do
    → Shifts number machine from to id before next done
    → KnowsAs number lane (moves_as number lane before machine from to id) before next done
shift_knows number lane machine from to id before next done is holds apart some may did =
    let can = may_shift_is machine from to id before may in
    let seen = shift_seen number machine from to id before next done is can did in
    let shift = seen.shifted in
    let that : IsThatShift number machine from to id before next done shift =
    that_shift number machine from to id before next done shift
    (given_told number machine from to id before next done can.apart did) in
    let own = own_shift number lane before next done shift
    (from_elsewhere number before next done shift is holds apart) some in
    let moves = subst (λ (line : TrackLine). KnowsAs number lane line before next done)
    (own_moves number lane before next done shift) own in
    subst (λ (x : ℕ). KnowsAs number lane (moves_as number lane before machine from to x) before next done)
    that.board
    (subst (λ (t : ℕ). KnowsAs number lane (moves_as number lane before machine from t shift.id) before next done)
    that.taker
    (subst (λ (f : ℕ). KnowsAs number lane (moves_as number lane before machine f shift.to shift.id) before next done)
    that.giver
    (subst (λ (m : ℕ). KnowsAs number lane (moves_as number lane before m shift.from shift.to shift.id) before next done)
    that.by moves)))

-- ---- EACH LINE

pub line_knows : (lane : ℕ) (line : LaneLine) (before next : Lanes) (done : List LaneHappening)
    → IsTogether before → ((l : ℕ) → 1 ≤ l → Holds (track l before)) → AreApart before → 1 ≤ lane
    → IsFitLaneLine line → LanesDo (lines_of before + 1) line before next done
    → KnowsAs (lines_of before + 1) lane (line_on lane line before) before next done
line_knows lane (lane_lines.On own line) before next done is holds apart some fit does =
    request_knows (lines_of before + 1) lane own (request_of line) before next done is
    (no_shift line) fit some does
line_knows lane (lane_lines.Lanes count) before next done is holds apart some fit does =
    set_knows (lines_of before + 1) lane count before next done is some fit.0 does
line_knows lane (lane_lines.Shift machine from to id) before next done is holds apart some fit does =
    unless_knows (lines_of before + 1) lane (may_shift machine from to id before)
    (may_shift machine from to id before)
    (moves_as (lines_of before + 1) lane before machine from to id) before next done _ refl does
    (λ may did. shift_knows (lines_of before + 1) lane machine from to id before next done is holds
    apart some may did)

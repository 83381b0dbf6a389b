-- What a shift is to each lane: a board goes from the one, comes to the other, and a third one sees
-- nothing of it.
use Rattle.std.proofs.Common.{◌≡◌, ◌≢◌, ◌∙◌, ◌-◌, ◌≤◌, ◌==◌, ◌&&◌, ◌++◌, ℕ, zero, suc, Bool, true, false, List, [], ◌∷◌, Option, Some, None, length, refl, sym, ap, subst, arith, eq-eqb}
use Rattle.std.specs.Prelude.{if◌then◌else◌, is_some, not, slice_get, slice_set}
use Rattle.std.proofs.lemmas.Bool.{and_parts, or_from, or_parts}
use Rattle.board_record.specs.Maker.{Maker}
use Rattle.board_record.specs.declared.record.Record.{Record}
use Rattle.line_world.specs.declared.board.Board.{Board}
use Rattle.line_world.specs.FloorPlan.{has_id}
use Rattle.node_core.specs.Boards.{is_kept}
use Rattle.node_core.specs.Event.{maker_after}
use Rattle.node_core.specs.Node.{NodeState, desk_of}
use Rattle.node_core.specs.Reads.{all_read}
use Rattle.node_core.specs.Shifts.{board_given}
use Rattle.node_core.specs.Supervising.{supervised_after}
use Rattle.node_core.specs.declared.act.Act.TheVariants as acts
use Rattle.node_core.specs.declared.input.Input.{Input}
use Rattle.node_core.specs.declared.input.Input.TheVariants as inputs
use Rattle.node_core.specs.declared.input.No.TheVariants as nos
use Rattle.line_report.specs.Lanes.{told_on}
use Rattle.line_report.specs.Shifts.{before_first, behind_first, from_first, is_gets, is_gives, shift_told}
use Rattle.line_report.specs.declared.happening.Happening.{Happening}
use Rattle.line_report.specs.declared.happening.LaneHappening.{LaneHappening}
use Rattle.line_report.specs.declared.happening.Reason.{Reason}
use Rattle.line_report.specs.declared.happening.Reason.TheVariants as reasons
use Rattle.line_step.specs.FloorIds.{boards_of}
use Rattle.line_step.specs.Lies.{is_lie, tells_lie}
use Rattle.line_step.specs.Lines.{LineDoes}
use Rattle.step_rules.specs.Makers.{IsOld}
use Rattle.line_step.specs.Reasons.{May, if_there, may_do, may_give_away, may_take_in, no_if}
use Rattle.line_step.specs.Requests.{Request}
use Rattle.line_step.specs.Requests as requests
use Rattle.line_step.specs.Shown.{standings_told}
use Rattle.line_step.specs.State.{LineState, machine_in}
use Rattle.line_step.specs.Steps.{MachineSteps, moment_of, unread_by}
use Rattle.line_step.proofs.FloorLaws.{Holds}
use Rattle.line_step.proofs.Getting.{gives_can}
use Rattle.line_step.proofs.Vouching.{IsNoLie, steps-honest}
use Rattle.law_lanes.specs.Lanes.{Lanes, beside, has_lane, track, with_track}
use Rattle.law_lanes.specs.Reasons.{and_may, first_track, may_shift}
use Rattle.law_lanes.specs.Steps.{Shifts}
use Rattle.law_lanes.specs.Views.{tells_lie_on}
use Rattle.law_lanes.proofs.Floors.{count, found_there}
use Rattle.law_lanes.proofs.Growing.{step_grown}
use Rattle.law_lanes.proofs.Seen.{Vouches, as_steps, both_may, lane_there, lie_front, not_refused, there_some}
use Rattle.law_lanes.proofs.Sharing.{AreShared, IsLeft, IsLike, IsShared, left_both, like_back, like_both, like_same, shared_many, shared_same}
use Rattle.law_lanes.proofs.Shifting.{ShiftTold, TellsOne, first_is_kept, gets_tells, gives_tells}
use Rattle.law_lanes.proofs.Telling.{lie_on, lie_on_join}
use Rattle.law_lanes.proofs.Together.{IsDone, IsThere, IsTogether, other_left, other_put, own_put, put_many, together_put, two_alike, unvouched_are}

-- ---- a step that uses no ids, and leaves whether the machine is supervised

shared_itself : (node : NodeState) → IsShared node node
shared_itself node = record { maker = refl; supervised = refl }

shared_set : (nodes : List NodeState) (place : ℕ) (node next : NodeState)
    → slice_get nodes place ≡ Some node → IsShared node next
    → AreShared nodes (slice_set nodes place next)
shared_set [] place node next there one = tt
shared_set (first ∷ nodes) zero node next there one =
    let same : first ≡ node = cc in
    (subst (λ (n : NodeState). IsShared n next) (sym same) one, shared_same nodes)
shared_set (first ∷ nodes) (suc place) node next there one =
    (shared_itself first, shared_set nodes place node next there one)

set_shared : (nodes : List NodeState) (machine : ℕ) (node next : NodeState) (s : LineState)
    → s.machines ≡ nodes → machine_in machine s ≡ Some node → IsShared node next
    → AreShared nodes (slice_set nodes (machine - 1) next)
set_shared nodes zero node next s same there one = cc
set_shared nodes (suc place) node next s same there one =
    let here : suc place - 1 ≡ place = omega arith in
    let found : slice_get nodes place ≡ Some node =
    ap (λ (ns : List NodeState). slice_get ns place) (sym same) ∙ there in
    rw here (shared_set nodes place node next found one)

pub step_like : (number machine : ℕ) (input : Input) (before after : LineState)
    (told : List Happening) → MachineSteps number machine input before after told
    → ((m : Maker) → maker_after input m ≡ m) → ((b : Bool) → supervised_after input b ≡ b)
    → IsLike before after
step_like number machine input before after told steps no_id no_change =
    subst (λ (s : LineState). IsLike before s) (sym steps.after_is)
    (record {
      machines = set_shared before.machines machine steps.node steps.next before refl steps.there
          (record {
            maker = steps.steps.lane.made ∙ no_id steps.node.maker;
            supervised = steps.steps.supervised ∙ no_change steps.node.supervised;
          });
      lines = refl;
      unvouched = refl;
    })

-- an id that lies on the floor was made before
pub lies_old : (t : LineState) (id : ℕ) → Holds t → 1 ≤ count id (boards_of t)
    → IsOld 1 t.machines id
lies_old t id holds some =
    let found = found_there (λ (board : Board). (own : ℕ) → has_id own board ≡ true
    → IsOld 1 t.machines own) id (boards_of t) holds.old some in
    found.holds id found.has

-- ---- whether it may be done

pub record MayShift (machine from to id : ℕ) (s : Lanes) : Type 0 where
  pub giver : IsThere from s
  pub taker : IsThere to s
  pub apart : from ≢ to
  pub stands : 1 ≤ length (track 1 s).machines
  pub gives : may_give_away machine id (track from s) ≡ may_do
  pub takes : may_take_in machine (track to s) ≡ may_do

passes_no : (test : Bool) (reason : Reason) (next : May) → no_if test reason next ≡ may_do
    → (test ≡ false) × (next ≡ may_do)
passes_no false reason next is = (refl, is)
passes_no true reason next is = cc

apart_by : (from to : ℕ) → (from == to) ≡ false → from ≢ to
apart_by from to differ same =
    let equal : (from == to) ≡ true =
    subst (λ (n : ℕ). (from == n) ≡ true) same (eq-eqb from from refl) in
    cc

shift_checks : (found : Option NodeState) (machine from to id : ℕ) (s : Lanes)
    → if_there found (λ node.
    no_if (not (has_lane from s && has_lane to s)) (reasons.Node nos.NoLane)
    (no_if (is_some node.bridge) (reasons.Node nos.Bridge)
    (no_if (from == to) (reasons.Node nos.Same)
    (and_may (may_give_away machine id (track from s)) (may_take_in machine (track to s))))))
    ≡ may_do
    → ((has_lane from s && has_lane to s) ≡ true) × (((from == to) ≡ false)
    × ((may_give_away machine id (track from s) ≡ may_do)
    × (may_take_in machine (track to s) ≡ may_do)))
shift_checks None machine from to id s may = cc
shift_checks (Some node) machine from to id s may =
    let lanes = not_refused (has_lane from s && has_lane to s) (reasons.Node nos.NoLane) _ may in
    let three = passes_no (not (has_lane from s && has_lane to s)) (reasons.Node nos.NoLane) _ may in
    let two = passes_no (is_some node.bridge) (reasons.Node nos.Bridge) _ three.1 in
    let one = passes_no (from == to) (reasons.Node nos.Same) _ two.1 in
    let both = both_may (may_give_away machine id (track from s)) _ one.1 in
    (lanes, (one.0, both))

pub may_shift_is : (machine from to id : ℕ) (s : Lanes) → may_shift machine from to id s ≡ may_do
    → MayShift machine from to id s
may_shift_is machine from to id s may =
    let all = shift_checks (machine_in machine (first_track s)) machine from to id s may in
    let lanes = and_parts (has_lane from s) (has_lane to s) all.0 in
    record {
      giver = lane_there from s lanes.0;
      taker = lane_there to s lanes.1;
      apart = apart_by from to all.1.0;
      stands = there_some machine (first_track s) _ may;
      gives = all.1.1.0;
      takes = all.1.1.1;
    }

-- ---- a step that is no line of its own

pub gives_does : (number machine id to : ℕ) (before after : LineState) (told : List Happening)
    → may_give_away machine id before ≡ may_do
    → MachineSteps number machine (inputs.Gives id to) before after told
    → LineDoes number (requests.gives machine (inputs.Gives id to)) before after told
gives_does number machine id to before after told may steps = rw may steps

pub gets_does : (number machine : ℕ) (board : Record) (before after : LineState)
    (told : List Happening) → may_take_in machine before ≡ may_do
    → MachineSteps number machine (inputs.Gets board) before after told
    → LineDoes number (requests.gives machine (inputs.Gets board)) before after told
gets_does number machine board before after told may steps = rw may steps

-- ---- WHAT EACH LANE SEES OF A SHIFT

pub record IsShifted (number : ℕ) (before next : Lanes) (done : List LaneHappening) : Type 0 where
  pub machine : ℕ
  pub from : ℕ
  pub to : ℕ
  pub id : ℕ
  pub may : MayShift machine from to id before
  pub node : NodeState
  pub there : machine_in machine (track from before) ≡ Some node
  pub kept : is_kept id node.lane.body.kept ≡ true
  pub board : Record
  pub is : board_given node (unread_by machine (track from before).world) (moment_of number) id
      ≡ Some board
  pub own : board.id ≡ id
  pub given : List Happening
  pub gives : LineDoes number (requests.gives machine (inputs.Gives id to)) (track from before)
      (track from next) given
  pub taken : List Happening
  pub gets : LineDoes number (requests.gives machine (inputs.Gets board)) (track to before)
      (track to next) taken
  pub others : (lane : ℕ) → 1 ≤ lane → lane ≢ from → lane ≢ to
      → IsLeft (track lane before) (track lane next)
  pub tells : ShiftTold machine from to id given taken
  pub told : done ≡ shift_told from to given taken

pub record SeenShift (number : ℕ) (before next : Lanes) (done : List LaneHappening) : Type 0 where
  pub shifted : IsShifted number before next done
  pub together : IsTogether next
  pub vouches : Vouches before next done

steps_done : (number machine : ℕ) (input : Input) (before after : LineState)
    (told : List Happening) → MachineSteps number machine input before after told
    → IsLike before after → 1 ≤ length before.machines → IsDone before after
steps_done number machine input before after told steps like some =
    record {
      grown = step_grown number machine input before after told steps;
      lines = like.lines;
      vouched = λ none. sym like.unvouched ∙ none;
      stands = some;
    }

lie_test : (test : Bool) (one other : List Happening) → tells_lie one ≡ false
    → tells_lie other ≡ false → tells_lie (if test then one else other) ≡ false
lie_test true one other first second = first
lie_test false one other first second = second

before_honest : (is : Happening → Bool) (told : List Happening) → tells_lie told ≡ false
    → tells_lie (before_first is told) ≡ false
before_honest is [] none = refl
before_honest is (h ∷ told) none =
    let parts = or_parts (is_lie h) (tells_lie told) none in
    lie_test (is h) [] (h ∷ before_first is told) refl
    (or_from (is_lie h) (tells_lie (before_first is told)) parts.0
    (before_honest is told parts.1))

from_honest : (is : Happening → Bool) (told : List Happening) → tells_lie told ≡ false
    → tells_lie (from_first is told) ≡ false
from_honest is [] none = refl
from_honest is (h ∷ told) none =
    lie_test (is h) (h ∷ told) (from_first is told) none
    (from_honest is told (or_parts (is_lie h) (tells_lie told) none).1)

behind_honest : (is : Happening → Bool) (told : List Happening) → tells_lie told ≡ false
    → tells_lie (behind_first is told) ≡ false
behind_honest is [] none = refl
behind_honest is (h ∷ told) none =
    let rest = (or_parts (is_lie h) (tells_lie told) none).1 in
    lie_test (is h) told (behind_first is told) rest (behind_honest is told rest)

shift_honest : (from to : ℕ) (given taken : List Happening) → tells_lie given ≡ false
    → tells_lie taken ≡ false → tells_lie_on (shift_told from to given taken) ≡ false
shift_honest from to given taken one two =
    let a = told_on from (before_first is_gives given) in
    let b = told_on to (before_first is_gets taken) in
    let c = told_on from (from_first is_gives given) in
    let d = told_on to (behind_first is_gets taken) in
    lie_on_join ((a ++ b) ++ c) d
    (lie_on_join (a ++ b) c
    (lie_on_join a b
    (lie_on from (before_first is_gives given) ∙ before_honest is_gives given one)
    (lie_on to (before_first is_gets taken) ∙ before_honest is_gets taken two))
    (lie_on from (from_first is_gives given) ∙ from_honest is_gives given one))
    (lie_on to (behind_first is_gets taken) ∙ behind_honest is_gets taken two)

step_honest : (number : ℕ) (request : Request) (before after : LineState) (told : List Happening)
    → IsNoLie request → LineDoes number request before after told → tells_lie told ≡ false
step_honest number request before after told plain does =
    lie_front told (standings_told before after)
    (steps-honest number request before after (told ++ standings_told before after) plain
    (as_steps number request before after told does))

pub shift_seen : (number machine from to id : ℕ) (before next : Lanes)
    (done : List LaneHappening) → IsTogether before → MayShift machine from to id before
    → Shifts number machine from to id before next done → SeenShift number before next done
shift_seen number machine from to id before next done is may shift =
    let gave_like = step_like number machine (inputs.Gives id to) (track from before) shift.gave
    shift.given shift.gives (λ m. refl) (λ b. refl) in
    let some_on : (lane : ℕ) → IsThere lane before → 1 ≤ length (track lane before).machines =
    λ lane there. omega (
      arith,
      may.stands,
      shared_many (track 1 before).machines (track lane before).machines (is.like lane there).machines,
    )
    in
    let gave_done = steps_done number machine (inputs.Gives id to) (track from before) shift.gave
    shift.given shift.gives gave_like (some_on from may.giver) in
    let middle = with_track from shift.gave before in
    let between = together_put from shift.gave before is may.giver gave_done in
    let taker : IsThere to middle =
    (may.taker.0, omega (arith, may.taker.1, put_many from shift.gave before)) in
    let giver : IsThere from middle =
    (may.giver.0, omega (arith, may.giver.1, put_many from shift.gave before)) in
    let back = λ (same : to ≡ from). may.apart (sym same) in
    let to_same : track to middle ≡ track to before =
    other_put from to shift.gave before back may.giver may.taker
    ∙ like_same shift.gave (track to before)
    (like_both shift.gave (track from before) (track to before)
    (like_back (track from before) shift.gave gave_like)
    (two_alike before from to is may.giver may.taker)) in
    let gets : MachineSteps number machine (inputs.Gets shift.board) (track to before) shift.got
    shift.taken =
    subst (λ (t : LineState). MachineSteps number machine (inputs.Gets shift.board) t shift.got
    shift.taken) to_same shift.gets in
    let got_like = step_like number machine (inputs.Gets shift.board) (track to middle) shift.got
    shift.taken shift.gets (λ m. refl) (λ b. refl) in
    let got_some : 1 ≤ length (track to middle).machines =
    subst (λ (t : LineState). 1 ≤ length t.machines) (sym to_same) (some_on to may.taker) in
    let got_done = steps_done number machine (inputs.Gets shift.board) (track to middle) shift.got
    shift.taken shift.gets got_like got_some in
    let last = with_track to shift.got middle in
    let behind = together_put to shift.got middle between taker got_done in
    let from_is : track from last ≡ shift.gave =
    other_put to from shift.got middle may.apart taker giver
    ∙ ap (beside shift.got) (own_put from shift.gave before may.giver)
    ∙ like_same shift.got shift.gave
    (like_both shift.got (track to middle) shift.gave
    (like_back (track to middle) shift.got got_like)
    (subst (λ (t : LineState). IsLike (track to middle) t)
    (own_put from shift.gave before may.giver) (two_alike middle to from between taker giver))) in
    let to_is : track to last ≡ shift.got = own_put to shift.got middle taker in
    let first : shift.board.id ≡ id =
    (first_is_kept id (all_read (desk_of shift.gives.node (moment_of number))
    (unread_by machine (track from before).world) shift.gives.node.lane.body).body.kept shift.board
    shift.is).is in
    let shifted : IsShifted number before last (shift_told from to shift.given shift.taken) =
    record {
      machine = machine;
      from = from;
      to = to;
      id = id;
      may = may;
      node = shift.gives.node;
      there = shift.gives.there;
      kept = (gives_can machine id to (track from before) shift.gives.node shift.gives.there
          may.gives).kept;
      board = shift.board;
      is = shift.is;
      own = first;
      given = shift.given;
      gives = subst (λ (t : LineState). LineDoes number (requests.gives machine (inputs.Gives id to))
          (track from before) t shift.given) (sym from_is)
          (gives_does number machine id to (track from before) shift.gave shift.given may.gives
          shift.gives);
      taken = shift.taken;
      gets = subst (λ (t : LineState). LineDoes number
          (requests.gives machine (inputs.Gets shift.board)) (track to before) t shift.taken)
          (sym to_is)
          (gets_does number machine shift.board (track to before) shift.got shift.taken may.takes
          gets);
      others = λ lane some one two.
          left_both (track lane before) (track lane middle) (track lane last)
          (other_left from lane shift.gave before is may.giver some one gave_done)
          (other_left to lane shift.got middle between taker some two got_done);
      tells = record {
        gives = gives_tells number machine id to (track from before) shift.gave shift.given
            shift.gives shift.board shift.is;
        gets = subst (λ (own : ℕ). TellsOne machine (acts.Gets own) shift.taken) first
            (gets_tells number machine shift.board (track to middle) shift.got shift.taken
            shift.gets);
      };
      told = refl;
    } in
    let all : SeenShift number before last (shift_told from to shift.given shift.taken) =
    record {
      shifted = shifted;
      together = behind;
      vouches = λ none. (
        sym (unvouched_are before from is may.giver) ∙ sym gave_like.unvouched
            ∙ sym (ap (λ (t : LineState). t.unvouched) from_is)
            ∙ unvouched_are last from behind (
              giver.0,
              omega (
                arith,
                giver.1,
                put_many to shift.got middle,
              ),
            ) ∙ none,
        shift_honest from to shift.given shift.taken
            (step_honest number (requests.gives machine (inputs.Gives id to)) (track from before)
            (track from last) shift.given tt shifted.gives)
            (step_honest number (requests.gives machine (inputs.Gets shift.board)) (track to before)
            (track to last) shift.taken tt shifted.gets),
      );
    } in
    subst (λ (n : Lanes). SeenShift number before n done) (sym shift.after_is)
    (subst (λ (t : List LaneHappening). SeenShift number before last t) (sym shift.told_is) all)

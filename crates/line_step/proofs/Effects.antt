-- THE EFFECTS OF A LINE: what is done of a request is one of ten things, with what its reasons gave. Each law over
-- lines goes over these.
use Rattle.std.proofs.Common.{◌≡◌, ℕ, Bool, true, false, List, ◌∷◌, Option, Result, Ok, Err, refl, sym, subst, []}
use Rattle.line_base.specs.declared.states.Side.{Side}
use Rattle.board_record.specs.declared.sensed.Sensed.{Sensed}
use Rattle.line_link.specs.Link.{spoil_sent}
use Rattle.line_world.specs.FloorPlan.{FloorPlan}
use Rattle.line_world.specs.Moves.{floor_move}
use Rattle.line_world.specs.declared.moves.Move.{Move}
use Rattle.line_world.specs.declared.moves.MoveNo.{MoveNo}
use Rattle.node_core.specs.declared.input.Input.{Input}
use Rattle.line_report.specs.declared.happening.Happening.{Happening}
use Rattle.line_report.specs.declared.happening.Happening.TheVariants as happenings
use Rattle.line_report.specs.declared.happening.Reason.TheVariants as reasons
use Rattle.line_step.specs.World.{end_of, link_at, link_of}
use Rattle.line_step.specs.State.{LineState, one_more}
use Rattle.line_step.specs.Steps.{MachineSteps}
use Rattle.line_step.specs.Reasons.{May, may_add, may_connect, may_cut, may_do, may_flow, may_lie, may_spoil, may_unseen}
use Rattle.line_step.specs.Shown.{shown}
use Rattle.line_step.specs.Lines.{Becomes, Connects, Flows, LineDoes, Moves, Unless, cut_in, lied, move_told, moved, spoil_told, spoiled, unseen, unvouched_told}
use Rattle.line_step.proofs.Remarks.{AreRemarks, cut_remarks, shown_remarks}
use Rattle.line_step.proofs.Giving.{IsGiven, may_given}
use Rattle.line_step.specs.Requests.{Request, added_told, may_get}
use Rattle.line_step.specs.Requests as requests

pub data Effect (number : ℕ) (before after : LineState) (told : List Happening) : Request → Type 0 where
  -- nothing changes: a reason stands against it, or it was not asked for
  rests : (request : Request) (what : List Happening) → AreRemarks what → Becomes before what after told → Effect number before after told request
  adds : (lane : ℕ) (is_bridge : Bool) (capacity used : ℕ) → may_add before ≡ may_do
      → Becomes (one_more lane is_bridge capacity used before) (added_told is_bridge capacity before) after told
      → Effect number before after told (requests.adds lane is_bridge capacity used)
  steps : (machine : ℕ) (input : Input) → IsGiven input → may_get machine input before ≡ may_do → MachineSteps number machine input before after told
      → Effect number before after told (requests.gives machine input)
  connects : (machine : ℕ) → may_connect machine before ≡ may_do → Connects number machine before after told
      → Effect number before after told (requests.connects machine)
  flows : (machine : ℕ) (side : Side) (count : Option ℕ) → may_flow machine side before ≡ may_do → Flows number machine side count before after told
      → Effect number before after told (requests.flows machine side count)
  cuts : (gap : ℕ) → may_cut gap before ≡ may_do → Becomes (cut_in gap before) (happenings.Cut gap ∷ []) after told
      → Effect number before after told (requests.cuts gap)
  spoils : (machine : ℕ) (side : Side) → may_spoil machine side before ≡ may_do
      → Becomes (spoiled machine side before) (spoil_told machine side before) after told
      → Effect number before after told (requests.spoils machine side)
  moves : (gap : ℕ) (step : Move) (floor : FloorPlan) → floor_move gap step before.world.floor ≡ Ok floor
      → Becomes (moved (Ok floor) before) (happenings.Moved gap step ∷ []) after told
      → Effect number before after told (requests.moves_on gap step)
  lies : (machine : ℕ) (sensed : Sensed) → may_lie machine sensed.side before ≡ may_do
      → Becomes (lied number machine sensed before) (happenings.Lie machine sensed ∷ unvouched_told before.unvouched) after told
      → Effect number before after told (requests.lies machine sensed)
  unsees : (machine : ℕ) (side : Side) → may_unseen machine side before ≡ may_do
      → Becomes (unseen number machine side before) (happenings.Unseen machine side ∷ unvouched_told before.unvouched) after told
      → Effect number before after told (requests.unsees machine side)

-- what holds of a state and what is told holds of those that are the same
pub becomes_by : (P : LineState → List Happening → Type 0) {next after : LineState} {what told : List Happening} → Becomes next what after told → P next what → P after told
becomes_by P {next} {after} {what} {told} b is =
    subst (λ (s : LineState). P s told) (sym b.after_is) (subst (λ (ts : List Happening). P next ts) (sym b.told_is) is)

-- ---- EACH REQUEST

unless_effect : (number : ℕ) (request : Request) (may : May) (before after : LineState) (told : List Happening) (Done : Type 0) → Unless may before after told Done → (may ≡ may_do → Done → Effect number before after told request) → Effect number before after told request
unless_effect number request (Ok _) before after told Done does then = then refl does
unless_effect number request (Err reason) before after told Done does then = rests request (happenings.No reason ∷ []) (tt, tt) does

move_effect : (number gap : ℕ) (step : Move) (before after : LineState) (told : List Happening) (answer : Result FloorPlan MoveNo) → floor_move gap step before.world.floor ≡ answer → Becomes (moved answer before) (move_told gap step answer) after told → Effect number before after told (requests.moves_on gap step)
move_effect number gap step before after told (Ok floor) is does = moves gap step floor is does
move_effect number gap step before after told (Err why) is does = rests (requests.moves_on gap step) (happenings.No (reasons.Move why) ∷ []) (tt, tt) does

pub line_effect : (number : ℕ) (request : Request) (before after : LineState) (told : List Happening) → LineDoes number request before after told → Effect number before after told request
line_effect number requests.nothing before after told does = rests requests.nothing [] tt does
line_effect number requests.shows before after told does = rests requests.shows (shown before) (shown_remarks before) does
line_effect number (requests.adds lane is_bridge capacity used) before after told does = unless_effect number _ _ before after told _ does (λ may done. adds lane is_bridge capacity used may done)
line_effect number (requests.gives machine input) before after told does = unless_effect number _ _ before after told _ does (λ may done. steps machine input (may_given machine input before may) may done)
line_effect number (requests.connects machine) before after told does = unless_effect number _ _ before after told _ does (λ may done. connects machine may done)
line_effect number (requests.flows machine side count) before after told does = unless_effect number _ _ before after told _ does (λ may done. flows machine side count may done)
line_effect number (requests.cuts gap) before after told does = unless_effect number _ _ before after told _ does (λ may done. cuts gap may done)
line_effect number (requests.stops machine) before after told does = unless_effect number _ _ before after told _ does (λ may done. rests (requests.stops machine) (happenings.Stop machine ∷ []) (tt, tt) done)
line_effect number (requests.spoils machine side) before after told does = unless_effect number _ _ before after told _ does (λ may done. spoils machine side may done)
line_effect number (requests.moves_on gap step) before after told does = move_effect number gap step before after told (floor_move gap step before.world.floor) refl does
line_effect number (requests.lies machine sensed) before after told does = unless_effect number _ _ before after told _ does (λ may done. lies machine sensed may done)
line_effect number (requests.unsees machine side) before after told does = unless_effect number _ _ before after told _ does (λ may done. unsees machine side may done)

-- ---- what is told of it

pub added_remarks : (is_bridge : Bool) (capacity : ℕ) (s : LineState) → AreRemarks (added_told is_bridge capacity s)
added_remarks true capacity s = (tt, tt)
added_remarks false capacity s = (tt, tt)

pub spoil_remarks : (machine : ℕ) (side : Side) (s : LineState) → AreRemarks (spoil_told machine side s)
spoil_remarks machine side s = (tt, cut_remarks (link_of machine side) (spoil_sent (end_of side) (link_at (link_of machine side) s.world)))

-- a move that was done, as the line of the script has it
pub done_move : (before : LineState) {gap : ℕ} {step : Move} {after : LineState} {told : List Happening} {floor : FloorPlan} → floor_move gap step before.world.floor ≡ Ok floor
    → Becomes (moved (Ok floor) before) (happenings.Moved gap step ∷ []) after told → Moves gap step before after told
done_move before {gap} {step} {after} {told} is b = subst (λ (answer : Result FloorPlan MoveNo). Becomes (moved answer before) (move_told gap step answer) after told) (sym is) b

-- Whether an input may be given now: the first reason against it, on the state before the step.
use Rattle.std.specs.Prelude.{ℕ, pos, Bool, true, false, ◌&&◌, ◌^◌, ◌-◌, Option, Some, None, Result, Ok, Err, is_none, is_some, not, nat_le, slice_get}
use Rattle.line_base.specs.declared.states.Side.{Side}
use Rattle.line_base.specs.declared.states.Side.TheVariants.{Entry, Exit}
use Rattle.board_record.specs.declared.sub_board.SubBoard.{SubBoard}
use Rattle.board_record.specs.SubBoards.{unknown_sub}
use Rattle.handover_out.specs.declared.phase.OutPhase.{OutPhase}
use Rattle.handover_out.specs.declared.phase.OutPhase.TheVariants as out_names
use Rattle.handover_out.specs.State as out_state
use Rattle.handover_in.specs.declared.phase.InPhase.{InPhase}
use Rattle.handover_in.specs.declared.phase.InPhase.TheVariants as in_names
use Rattle.handover_in.specs.State as in_state
use Rattle.smema_bridge.specs.declared.line.SegmentLine.{SegmentLine}
use Rattle.smema_bridge.specs.Levels.{BridgeLevels}
use Rattle.smema_bridge.specs.Segment.{level_of}
use Rattle.node_core.specs.declared.input.No.{No}
use Rattle.node_core.specs.declared.input.No.TheVariants as no
use Rattle.node_core.specs.declared.input.Input.{Input}
use Rattle.node_core.specs.declared.input.Input.TheVariants as inputs
use Rattle.node_core.specs.declared.lane.Body.{Body}
use Rattle.node_core.specs.Sides.{end_at, session_at, is_open, is_standing}
use Rattle.node_core.specs.Places.{has_place}
use Rattle.node_core.specs.Announces.{is_intake_free}
use Rattle.node_core.specs.Boards.{is_kept, takes_sub}
use Rattle.node_core.specs.Node.{NodeState, desk_of}
use Rattle.supervisory_core.specs.declared.error.AnswerError.{AnswerError}
use Rattle.supervisory_core.specs.declared.error.AnswerError.TheVariants as answer_errors
use Rattle.supervisory_core.specs.Orders.{is_full, answer_of}

-- refused for this reason where the test passes, and else as what follows says
abbrev pub no_if : Bool → No → Result (Unit {0}) No → Result (Unit {0}) No
no_if true why next = Err why
no_if false why next = next

abbrev pub may_do : Result (Unit {0}) No
may_do = Ok tt

abbrev pub same_bool : Bool → Bool → Bool
same_bool true b = b
same_bool false b = not b

abbrev pub is_moving : OutPhase → Bool
is_moving out_names.Moving = true
is_moving out_names.Idle = false
is_moving out_names.Stuck = false
is_moving out_names.Ended = false

abbrev pub is_taking : InPhase → Bool
is_taking in_names.Taking = true
is_taking in_names.Idle = false
is_taking in_names.Stopped = false
is_taking in_names.Waiting = false

-- a board is moving at a side
abbrev pub is_handing_over : Side → Body → Bool
is_handing_over Entry body = is_taking (in_state.name_of_phase body.intake.phase)
is_handing_over Exit body = is_moving (out_state.name_of_phase body.outlet.phase)

-- the machine has made all its ids
abbrev pub is_used_up : ℕ → Bool
is_used_up used = nat_le (2 ^ 48 - 1) used

-- ---- the reasons of each input, in their order

abbrev pub may_connect : Body → Result (Unit {0}) No
may_connect body =
    no_if (is_open Entry body) no.Connected
    (no_if (not (in_state.may_connect body.intake.phase)) no.IntakeUnsettled may_do)

abbrev pub may_accept : Body → Result (Unit {0}) No
may_accept body = no_if (is_open Exit body) no.Connected may_do

abbrev pub may_reach : Side → Body → Result (Unit {0}) No
may_reach side body = no_if (not (is_open side body)) no.NotConnected may_do

abbrev pub may_reach_any : Body → Result (Unit {0}) No
may_reach_any body =
    no_if (not (is_open Entry body) && not (is_open Exit body)) no.NotConnected may_do

abbrev pub may_fault : Side → Body → Result (Unit {0}) No
may_fault side body = no_if (not (is_handing_over side body)) no.NoHandover may_do

-- a bridge is willing by the levels of its segment alone
abbrev pub may_will : Side → Bool → NodeState → Result (Unit {0}) No
may_will side on s =
    no_if (is_some s.bridge) no.Bridge
    (no_if (same_bool (end_at side s.lane.body).willing on) no.Same may_do)

abbrev pub may_level : SegmentLine → Bool → Option BridgeLevels → Result (Unit {0}) No
may_level line on None = Err no.NotABridge
may_level line on (Some levels) =
    no_if (same_bool (level_of line levels.segment) on) no.Same may_do

abbrev pub may_remove : ℕ → Body → Result (Unit {0}) No
may_remove id body = no_if (not (is_kept id body.kept)) no.NotKept may_do

abbrev pub may_mark : ℕ → Body → Result (Unit {0}) No
may_mark id body =
    no_if (not (is_kept id body.kept)) no.NotKept
    (no_if (out_state.is_id body.outlet.touched id) no.Offered may_do)

abbrev pub may_sub : ℕ → SubBoard → Body → Result (Unit {0}) No
may_sub id sub body =
    no_if (not (is_kept id body.kept)) no.NotKept
    (no_if (out_state.is_id body.outlet.touched id) no.Offered
    (no_if (not (takes_sub id sub body.kept)) no.SubsFull may_do))

abbrev pub may_forecast : Body → Result (Unit {0}) No
may_forecast body =
    no_if (not (is_standing Exit body)) no.NotStanding
    (no_if (not (session_at Exit body).peer.forecast) no.NotSupported
    (no_if (is_none (slice_get body.kept 0)) no.NothingKept may_do))

abbrev pub may_query : Body → Result (Unit {0}) No
may_query body =
    no_if (not (is_standing Entry body)) no.NotStanding
    (no_if (not (session_at Entry body).peer.query) no.NotSupported may_do)

abbrev pub may_supervise : Bool → NodeState → Result (Unit {0}) No
may_supervise on s = no_if (same_bool s.supervised on) no.Same may_do

abbrev pub may_ask : NodeState → Result (Unit {0}) No
may_ask s =
    no_if (not s.supervised) no.NotSupervised (no_if (is_full s.orders) no.QueriesFull may_do)

-- what the book of work orders has against an answer
abbrev pub no_answer : Result (Unit {0}) AnswerError → Result (Unit {0}) No
no_answer (Ok _) = may_do
no_answer (Err (answer_errors.Unknown query)) = Err no.UnknownQuery
no_answer (Err (answer_errors.Answered query)) = Err (no.Answered query)

abbrev pub may_answer : ℕ → NodeState → Result (Unit {0}) No
may_answer query s =
    no_if (not s.supervised) no.NotSupervised (no_answer (answer_of s.orders query))

abbrev pub may_insert : NodeState → Result (Unit {0}) No
may_insert s =
    no_if (not (is_intake_free s.lane.body)) no.IntakeOpen
    (no_if (not (has_place (desk_of s (pos 0)) s.lane.body)) no.Full
    (no_if (is_used_up s.maker.used) no.IdsUsedUp may_do))

abbrev pub may_replace : ℕ → NodeState → Result (Unit {0}) No
may_replace id s =
    no_if (not (is_kept id s.lane.body.kept)) no.NotKept
    (no_if (is_used_up s.maker.used) no.IdsUsedUp may_do)

-- a machine of one lane has no other, to which a board could go or from which one could come
abbrev pub may_of : NodeState → Input → Result (Unit {0}) No
may_of s inputs.Nothing = may_do
may_of s inputs.Connect = may_connect s.lane.body
may_of s inputs.Accepted = may_accept s.lane.body
may_of s inputs.Second = may_reach Exit s.lane.body
may_of s (inputs.Bytes side piece) = may_reach side s.lane.body
may_of s (inputs.Notice side) = may_reach side s.lane.body
may_of s inputs.Tick = may_reach_any s.lane.body
may_of s inputs.Shutdown = may_reach_any s.lane.body
may_of s (inputs.Fault side) = may_fault side s.lane.body
may_of s (inputs.Will side on) = may_will side on s
may_of s (inputs.Level line on) = may_level line on s.bridge
may_of s (inputs.Insert barcode) = may_insert s
may_of s (inputs.Remove id) = may_remove id s.lane.body
may_of s (inputs.Replace id) = may_replace id s
may_of s (inputs.Mark id quality) = may_mark id s.lane.body
may_of s (inputs.Sub id place barcode) = may_sub id (unknown_sub place barcode) s.lane.body
may_of s inputs.Forecast = may_forecast s.lane.body
may_of s (inputs.Query barcode) = may_query s.lane.body
may_of s (inputs.Supervise on) = may_supervise on s
may_of s (inputs.Ask question) = may_ask s
may_of s (inputs.Answer query order) = may_answer query s
may_of s (inputs.Gives id to) = Err no.NoLane
may_of s (inputs.Gets board) = Err no.NoLane

-- ---- a lane of several: to it and from it boards go by a shift, too

abbrev pub may_give : ℕ → NodeState → Result (Unit {0}) No
may_give id s =
    no_if (is_some s.bridge) no.Bridge
    (no_if (not (is_kept id s.lane.body.kept)) no.NotKept
    (no_if (out_state.is_id s.lane.body.last_offer id) no.WasOffered may_do))

abbrev pub may_get : NodeState → Result (Unit {0}) No
may_get s =
    no_if (not (is_intake_free s.lane.body)) no.IntakeOpen
    (no_if (not (has_place (desk_of s (pos 0)) s.lane.body)) no.Full may_do)

abbrev pub may_on_lane : NodeState → Input → Result (Unit {0}) No
may_on_lane s (inputs.Gives id to) = may_give id s
may_on_lane s (inputs.Gets board) = may_get s
may_on_lane s input = may_of s input

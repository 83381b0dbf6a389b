-- WHAT A PIECE OF A STEP COMES OF: what is read, heard, met or announced, and what is known there.
use Rattle.std.specs.Prelude.{
  ◌≡◌,
  ◌++◌,
  ◌∷◌,
  ℕ,
  Bool,
  true,
  List,
  [],
  Option,
  Some,
  None,
  slice_get,
}
use Rattle.line_base.specs.declared.states.Quality.{Quality}
use Rattle.line_base.specs.declared.states.Quality.TheVariants as qualities
use Rattle.line_base.specs.declared.states.SensorEvent.{SensorEvent}
use Rattle.line_base.specs.declared.states.Severity.{Severity}
use Rattle.line_base.specs.declared.states.Side.{Side}
use Rattle.line_base.specs.declared.states.Side.TheVariants.{Entry, Exit}
use Rattle.line_base.specs.declared.states.Code.{Code}
use Rattle.line_base.specs.declared.states.Transfer.{Transfer}
use Rattle.board_record.specs.Record.{plain_record}
use Rattle.board_record.specs.declared.record.Record.{Record}
use Rattle.board_record.specs.declared.sub_board.SubBoard.{SubBoard}
use Rattle.hermes_horizontal.specs.declared.message.Horizontal.{Horizontal}
use Rattle.hermes_horizontal.specs.declared.message.Horizontal.TheVariants as bodies
use Rattle.hermes_horizontal.specs.declared.message.Message.{Message}
use Rattle.hermes_horizontal.specs.declared.message.Ping.{Ping}
use Rattle.hermes_vertical.specs.declared.message.Question.{Question}
use Rattle.smema_bridge.specs.declared.line.SegmentLine.{SegmentLine}
use Rattle.smema_bridge.specs.declared.line.SegmentLine.TheVariants as levels
use Rattle.forecast_query.specs.Info.{forecast_of}
use Rattle.session_core.specs.Input.{Input, opened, second, heard, tick, shutdown}
use Rattle.handover_out.specs.declared.input.OutInput.{OutInput}
use Rattle.handover_out.specs.declared.input.OutInput.TheVariants as out_input
use Rattle.handover_in.specs.declared.input.InInput.{InInput}
use Rattle.handover_in.specs.declared.input.InInput.TheVariants as in_input
use Rattle.node_core.specs.declared.act.Act.{Act}
use Rattle.node_core.specs.declared.act.Act.TheVariants as acts
use Rattle.node_core.specs.declared.act.Setting.{Setting}
use Rattle.node_core.specs.declared.act.Setting.TheVariants as settings
use Rattle.node_core.specs.declared.lane.Body.{Body}
use Rattle.node_core.specs.declared.word.Word.{Word}
use Rattle.node_core.specs.declared.word.Word.TheVariants as words
use Rattle.node_core.specs.Announces.{
  offers_now,
  readies_now,
  revokes_now,
  starts_now,
  unreadies_now,
}
use Rattle.node_core.specs.Boards.{is_kept, takes_sub, with_changed, with_instead, without}
use Rattle.node_core.specs.Bridge.{failed_front}
use Rattle.node_core.specs.Desk.{Desk}
use Rattle.node_core.specs.Event.{
  Accepted,
  Connect,
  Event,
  Fault,
  Forecast,
  Gets,
  Gives,
  Insert,
  Level,
  Mark,
  Sub,
  Query,
  Remove,
  Replace,
  Second,
  Shutdown,
  Supervised,
  Tick,
  Will,
}
use Rattle.node_core.specs.Information.{answer_to}
use Rattle.node_core.specs.Sides.{is_standing}
use Rattle.node_core.specs.Supervising.{Answer, Ask, Supervise, supervision_act}
use Rattle.node_core.specs.Told.{service_of}

-- a sensor event is read, a word is heard, an event is met, or it is the time to announce: all
-- five announcements, or those but for the start
pub data Cause : Type 0 where
  Reading : Cause
  Hearing : Side → Word → Cause
  Meeting : Event → Cause
  Announcing : Bool → Cause

-- a session may act
abbrev pub IsTalk : Cause → Type 0
IsTalk Reading = ⊥
IsTalk (Hearing side word) = Unit {0}
IsTalk (Meeting event) = Unit {0}
IsTalk (Announcing starting) = ⊥

-- it is one of these words
pub data IsWordOf (word : Word) : List Word → Type 0 where
  word_first : {others : List Word} → IsWordOf word (word ∷ others)
  word_later : {other : Word} {others : List Word} → IsWordOf word others
      → IsWordOf word (other ∷ others)

-- ---- inputs of the tables

-- what comes to the session of a side
pub data ToSession : Cause → Side → Input → Type 0 where
  by_connect : ToSession (Meeting Connect) Entry opened
  by_accept : ToSession (Meeting Accepted) Exit opened
  by_second : ToSession (Meeting Second) Exit second
  by_tick : {side : Side} → ToSession (Meeting Tick) side tick
  by_shutdown : {side : Side} → ToSession (Meeting Shutdown) side shutdown
  by_message : {side : Side} {message : Message} {unsettled : Bool}
      → ToSession (Hearing side (words.Says message)) side (heard message.body unsettled)

-- what comes to the outlet, but for a start. A message comes to it where the session stands
pub data ToOutlet : Cause → Body → OutInput → Type 0 where
  out_sensed : {body : Body} {event : SensorEvent}
      → ToOutlet Reading body (out_input.Sensed event)
  out_closed : {cause : Cause} {body : Body} → IsTalk cause
      → ToOutlet cause body out_input.Closed
  out_fault : {body : Body} → ToOutlet (Meeting (Fault Exit)) body out_input.Fault
  out_ready : {message : Message} {body : Body} {quality : Quality}
      → message.body ≡ bodies.MachineReady quality → is_standing Exit body ≡ true
      → ToOutlet (Hearing Exit (words.Says message)) body out_input.MachineReady
  out_unready : {message : Message} {body : Body} → message.body ≡ bodies.RevokeMachineReady
      → is_standing Exit body ≡ true
      → ToOutlet (Hearing Exit (words.Says message)) body out_input.RevokeMachineReady
  out_stop : {message : Message} {body : Body} {state : Transfer} {id : ℕ}
      → message.body ≡ bodies.StopTransport state id → is_standing Exit body ≡ true
      → ToOutlet (Hearing Exit (words.Says message)) body (out_input.Stop state id)
  out_revoke : {starting : Bool} {body : Body} → revokes_now body ≡ true
      → ToOutlet (Announcing starting) body out_input.Revoke
  out_offer : {starting : Bool} {body : Body} {front : Record} → offers_now body ≡ true
      → slice_get body.kept 0 ≡ Some front
      → ToOutlet (Announcing starting) body (out_input.Offer front.id)

-- what comes to the intake
pub data ToIntake (desk : Desk) : Cause → Body → InInput → Type 0 where
  in_sensed : {body : Body} {event : SensorEvent}
      → ToIntake desk Reading body (in_input.Sensed event)
  in_closed : {cause : Cause} {body : Body} → IsTalk cause
      → ToIntake desk cause body in_input.Closed
  in_stand : {cause : Cause} {body : Body} → IsTalk cause
      → ToIntake desk cause body in_input.Stand
  in_fault : {body : Body} → ToIntake desk (Meeting (Fault Entry)) body in_input.Fault
  in_available : {message : Message} {body : Body} {board : Record}
      → message.body ≡ bodies.BoardAvailable board → is_standing Entry body ≡ true
      → ToIntake desk (Hearing Entry (words.Says message)) body (in_input.BoardAvailable board)
  in_revoked : {message : Message} {body : Body} → message.body ≡ bodies.RevokeBoardAvailable
      → is_standing Entry body ≡ true
      → ToIntake desk (Hearing Entry (words.Says message)) body in_input.RevokeBoardAvailable
  in_finished : {message : Message} {body : Body} {state : Transfer} {id : ℕ}
      → message.body ≡ bodies.TransportFinished state id → is_standing Entry body ≡ true
      → ToIntake desk (Hearing Entry (words.Says message)) body (in_input.Finished state id)
  in_unready : {starting : Bool} {body : Body} → unreadies_now desk body ≡ true
      → ToIntake desk (Announcing starting) body in_input.Unready
  in_ready : {starting : Bool} {body : Body} → readies_now desk body ≡ true
      → ToIntake desk (Announcing starting) body in_input.Ready
  in_start : {body : Body} → starts_now body ≡ true
      → ToIntake desk (Announcing true) body in_input.Start

-- ---- acts that change nothing

-- a message of this moment
abbrev pub now : Desk → Horizontal → Message
now desk what = record { stamp = Some desk.moment; body = what }

pub data Tells (desk : Desk) : Cause → Body → Act → Type 0 where
  tells_reading : {body : Body} {side : Side} {event : SensorEvent}
      → Tells desk Reading body (acts.Reads side event)
  tells_hearing : {body : Body} {side : Side} {message : Message}
      → Tells desk (Hearing side (words.Says message)) body (acts.Hears side message)
  -- what a session says
  tells_service : {cause : Cause} {body : Body} {side : Side} → IsTalk cause
      → Tells desk cause body (acts.Sends side (now desk (service_of desk)))
  tells_alive : {cause : Cause} {body : Body} {side : Side} {ping : Option Ping} {id : Option
      (List ℕ)} → IsTalk cause
      → Tells desk cause body (acts.Sends side (now desk (bodies.CheckAlive ping id)))
  tells_notice : {cause : Cause} {body : Body} {side : Side} {code : Code} {severity : Severity}
      {text : List ℕ} → IsTalk cause
      → Tells desk cause body (acts.Sends side (now desk (bodies.Notification code severity text)))
  -- what is told and asked of boards beside their handovers
  tells_info : {message : Message} {body : Body} {top bottom : Option (List ℕ)}
      → message.body ≡ bodies.QueryBoardInfo top bottom → is_standing Exit body ≡ true
      → Tells desk (Hearing Exit (words.Says message)) body
      (acts.Sends Exit (now desk (bodies.SendBoardInfo (answer_to body.kept top bottom))))
  tells_forecast : {body : Body} {board : Record} → slice_get body.kept 0 ≡ Some board
      → Tells desk (Meeting Forecast) body
      (acts.Sends Exit (now desk (bodies.BoardForecast (forecast_of board))))
  tells_query : {body : Body} {barcode : List ℕ}
      → Tells desk (Meeting (Query barcode)) body
      (acts.Sends Entry (now desk (bodies.QueryBoardInfo (Some barcode) None)))
  -- what the machine does at its input
  tells_connecting : {body : Body} → Tells desk (Meeting Connect) body acts.Connects
  tells_failed : {body : Body} {on : Bool}
      → Tells desk (Meeting (Level levels.Failed on)) body
      (acts.Sets (settings.Level levels.Failed on))
  tells_supervise : {body : Body} {on : Bool}
      → Tells desk (Meeting (Supervised (Supervise on))) body
      (supervision_act desk (Supervise on))
  tells_question : {body : Body} {question : Question}
      → Tells desk (Meeting (Supervised (Ask question))) body
      (supervision_act desk (Ask question))
  tells_answer : {body : Body} {query : ℕ} {order : List ℕ}
      → Tells desk (Meeting (Supervised (Answer query order))) body
      (supervision_act desk (Answer query order))

-- ---- what is done by hand

-- whose record gets other contents, which, and the act. A level may say that the front board is a
-- failed one
pub data Changes (desk : Desk) : Event → Body → ℕ → (Record → Record) → Act → Type 0 where
  changes_quality : {id : ℕ} {quality : Quality} {body : Body} → is_kept id body.kept ≡ true
      → Changes desk (Mark id quality) body id (λ board. record board { quality = quality })
      (acts.Marks id quality)
  changes_circuits : {id : ℕ} {sub : SubBoard} {body : Body} → takes_sub id sub body.kept ≡ true
      → Changes desk (Sub id sub) body id (λ board. record board { subs = board.subs ++ sub ∷ [] })
      (acts.Subs id sub.pos)
  changes_front : {line : SegmentLine} {on : Bool} {id : ℕ} {body : Body}
      → failed_front desk.bridge line on body ≡ Some id → is_kept id body.kept ≡ true
      → Changes desk (Level line on) body id (λ board. record board { quality = qualities.Failed })
      (acts.Marks id qualities.Failed)

-- the records that are kept behind a deed by hand, and its act
pub data ByHand (desk : Desk) : Event → Body → List Record → Act → Type 0 where
  hand_inserts : {id : ℕ} {barcode : Option (List ℕ)} {body : Body}
      → ByHand desk (Insert id barcode) body (body.kept ++ plain_record id desk.name barcode ∷ [])
      (acts.Inserts id)
  hand_removes : {id : ℕ} {body : Body} → is_kept id body.kept ≡ true
      → ByHand desk (Remove id) body (without id body.kept) (acts.Removes id)
  hand_replaces : {old new : ℕ} {body : Body} → is_kept old body.kept ≡ true
      → ByHand desk (Replace old new) body
      (with_instead old (plain_record new desk.name None) body.kept) (acts.Replaces old new)
  -- a board goes to another lane of the machine, or comes from one
  hand_gives : {id to : ℕ} {body : Body} → is_kept id body.kept ≡ true
      → ByHand desk (Gives id to) body (without id body.kept) (acts.Gives id to)
  hand_gets : {board : Record} {body : Body}
      → ByHand desk (Gets board) body (body.kept ++ board ∷ []) (acts.Gets board.id)
  hand_changes : {event : Event} {body : Body} {id : ℕ} {change : Record → Record} {act : Act}
      → Changes desk event body id change act
      → ByHand desk event body (with_changed id change body.kept) act

-- the will at a side, and what is told of it
pub data SetsWill : Event → Side → Bool → Setting → Type 0 where
  will_itself : {side : Side} {on : Bool} → SetsWill (Will side on) side on (settings.Will side on)
  will_ready : {on : Bool}
      → SetsWill (Level levels.Ready on) Entry on (settings.Level levels.Ready on)
  will_available : {on : Bool}
      → SetsWill (Level levels.Available on) Exit on (settings.Level levels.Available on)

-- An input as the micro events have it: bytes as what their frames mean, and new boards with their
-- ids.
use Rattle.std.specs.Prelude.{ℕ, Bool, List, [], ◌∷◌, Option, Result, Ok, Err}
use Rattle.line_base.specs.declared.states.Side.{Side}
use Rattle.line_base.specs.declared.states.Side.TheVariants.{Entry, Exit}
use Rattle.line_base.specs.declared.states.Quality.{Quality}
use Rattle.smema_bridge.specs.declared.line.SegmentLine.{SegmentLine}
use Rattle.board_record.specs.Maker.{Maker, next_id, after_next}
use Rattle.board_record.specs.declared.record.Record.{Record}
use Rattle.board_record.specs.declared.maker.IdsUsedUp.{IdsUsedUp}
use Rattle.board_record.specs.declared.sub_board.SubBoard.{SubBoard}
use Rattle.board_record.specs.SubBoards.{unknown_sub}
use Rattle.node_core.specs.declared.act.Act.TheVariants as acts
use Rattle.node_core.specs.declared.input.Input.{Input}
use Rattle.node_core.specs.declared.input.Input.TheVariants as inputs
use Rattle.node_core.specs.declared.lane.Body.{Body}
use Rattle.node_core.specs.declared.word.Word.{Word}
use Rattle.node_core.specs.Desk.{Desk}
use Rattle.node_core.specs.Done.{Done, stays, behind}
use Rattle.node_core.specs.Connect.{opens, meets_second, notices, both_tick, both_shut_down}
use Rattle.node_core.specs.Boards.{inserts, removes, replaces, marks, adds_sub, faults, gets, gives, wills}
use Rattle.node_core.specs.Bridge.{sets_level}
use Rattle.node_core.specs.Information.{forecasts_front, asks_for}
use Rattle.node_core.specs.Words.{all_heard}
use Rattle.node_core.specs.Supervising.{Supervision, Supervise, Ask, Answer, supervises}

pub data Event : Type 0 where
  Nothing : Event
  Connect : Event
  Accepted : Event
  Second : Event
  Words : Side → List Word → Event
  Notice : Side → Event
  Tick : Event
  Shutdown : Event
  Fault : Side → Event
  Will : Side → Bool → Event
  Level : SegmentLine → Bool → Event
  Insert : ℕ → Option (List ℕ) → Event
  Remove : ℕ → Event
  Replace : ℕ → ℕ → Event
  Mark : ℕ → Quality → Event
  Sub : ℕ → SubBoard → Event
  Forecast : Event
  Query : List ℕ → Event
  Supervised : Supervision → Event
  Gives : ℕ → ℕ → Event
  Gets : Record → Event

-- with a new id, if there is one
abbrev pub with_new : Result ℕ IdsUsedUp → (ℕ → Event) → Event
with_new (Ok id) event = event id
with_new (Err why) event = Nothing

-- the event that an input is, with the words of its bytes; new ids come from the maker
abbrev pub event_of : Maker → Input → List Word → Event
event_of maker inputs.Nothing words = Nothing
event_of maker inputs.Connect words = Connect
event_of maker inputs.Accepted words = Accepted
event_of maker inputs.Second words = Second
event_of maker (inputs.Bytes side piece) words = Words side words
event_of maker (inputs.Notice side) words = Notice side
event_of maker inputs.Tick words = Tick
event_of maker inputs.Shutdown words = Shutdown
event_of maker (inputs.Fault side) words = Fault side
event_of maker (inputs.Will side on) words = Will side on
event_of maker (inputs.Level line on) words = Level line on
event_of maker (inputs.Insert barcode) words = with_new (next_id maker) (λ id. Insert id barcode)
event_of maker (inputs.Remove id) words = Remove id
event_of maker (inputs.Replace id) words = with_new (next_id maker) (Replace id)
event_of maker (inputs.Mark id quality) words = Mark id quality
event_of maker (inputs.Sub id place barcode) words = Sub id (unknown_sub place barcode)
event_of maker inputs.Forecast words = Forecast
event_of maker (inputs.Query barcode) words = Query barcode
event_of maker (inputs.Supervise on) words = Supervised (Supervise on)
event_of maker (inputs.Ask question) words = Supervised (Ask question)
event_of maker (inputs.Answer query order) words = Supervised (Answer query order)
event_of maker (inputs.Gives id to) words = Gives id to
event_of maker (inputs.Gets board) words = Gets board

-- the id maker after an input
abbrev pub maker_after : Input → Maker → Maker
maker_after (inputs.Insert barcode) maker = after_next maker
maker_after (inputs.Replace id) maker = after_next maker
maker_after _ maker = maker

-- what an event does to a body
abbrev pub event_did : Desk → Event → Body → Done
event_did desk Nothing body = stays body
event_did desk Connect body = behind (acts.Connects ∷ []) (opens desk Entry body)
event_did desk Accepted body = opens desk Exit body
event_did desk Second body = meets_second desk body
event_did desk (Words side words) body = all_heard desk side words body
event_did desk (Notice side) body = notices desk side body
event_did desk Tick body = both_tick desk body
event_did desk Shutdown body = both_shut_down desk body
event_did desk (Fault side) body = faults desk side body
event_did desk (Will side on) body = wills side on body
event_did desk (Level line on) body = sets_level desk line on body
event_did desk (Insert id barcode) body = inserts desk id barcode body
event_did desk (Remove id) body = removes id body
event_did desk (Replace old new) body = replaces desk old new body
event_did desk (Mark id quality) body = marks id quality body
event_did desk (Sub id sub) body = adds_sub id sub body
event_did desk Forecast body = forecasts_front desk body
event_did desk (Query barcode) body = asks_for desk barcode body
event_did desk (Supervised what) body = supervises desk what body
event_did desk (Gives id to) body = gives id to body
event_did desk (Gets board) body = gets board body

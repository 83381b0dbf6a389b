-- THE MACHINE STEP: a fold of micro events.
use Rattle.std.specs.Prelude.{◌≡◌, ℕ, ℤ, List, [], ◌++◌}
use Rattle.line_base.specs.declared.states.Side.{Side}
use Rattle.line_base.specs.declared.states.Side.TheVariants.{Entry, Exit}
use Rattle.board_record.specs.declared.sensed.Sensed.{Sensed}
use Rattle.board_record.specs.Maker.{Maker}
use Rattle.node_core.specs.declared.act.Act.{Act}
use Rattle.node_core.specs.declared.input.Input.{Input}
use Rattle.node_core.specs.declared.input.Input.TheVariants as inputs
use Rattle.node_core.specs.declared.lane.Body.{Body}
use Rattle.node_core.specs.declared.lane.Lane.{Lane}
use Rattle.node_core.specs.declared.word.Word.{Word}
use Rattle.node_core.specs.Desk.{Desk}
use Rattle.node_core.specs.Done.{Done, and_then}
use Rattle.node_core.specs.Sides.{is_open}
use Rattle.node_core.specs.Reads.{all_read}
use Rattle.node_core.specs.Announces.{announces}
use Rattle.node_core.specs.Words.{AreWords, HearsPiece}
use Rattle.node_core.specs.Event.{Event, event_of, event_did, maker_after}
use Rattle.node_core.specs.Signals.{signalled, levels_after}
use Rattle.node_core.specs.Forecasts.{forecasts_after}
use Rattle.node_core.specs.Supervising.{telling, supervised_after, orders_after}
use Rattle.node_core.specs.Node.{NodeState, desk_of}

-- the unread events in order, the input, the announcements
abbrev pub plain_step : Desk → List Sensed → Event → Body → Done
plain_step desk unread event body =
    and_then (all_read desk unread body) (λ one.
    and_then (event_did desk event one) (announces desk))

-- and just behind each act what the supervisor is told of it. A bridge's own signals come behind
-- them, and don't change the body
abbrev pub machine_step : Desk → List Sensed → Event → Body → Done
machine_step desk unread event body = telling desk body (plain_step desk unread event body)

-- the undelivered bytes of the entry after an input that is no bytes: a connection begins with
-- none
abbrev pub entry_after : Input → List ℕ → List ℕ
entry_after inputs.Connect bytes = []
entry_after _ bytes = bytes

-- and those of the exit
abbrev pub exit_after : Input → List ℕ → List ℕ
exit_after inputs.Accepted bytes = []
exit_after _ bytes = bytes

-- what an input makes of the undelivered bytes of both sides, and which words it brings: a piece
-- of bytes comes behind those of its side
abbrev pub Brings : Input → Lane → Lane → List Word → Type 0
Brings (inputs.Bytes Entry piece) old new words =
    AreWords old.entry_bytes piece.now new.entry_bytes (is_open Entry new.body) words
    × (new.exit_bytes ≡ old.exit_bytes)
Brings (inputs.Bytes Exit piece) old new words =
    AreWords old.exit_bytes piece.now new.exit_bytes (is_open Exit new.body) words
    × (new.entry_bytes ≡ old.entry_bytes)
Brings input old new words =
    (new.entry_bytes ≡ entry_after input old.entry_bytes)
    × (new.exit_bytes ≡ exit_after input old.exit_bytes)

-- a lane makes a step: of the words that its input brings, its body and its acts are those of the
-- machine step
pub record StepsLane (desk : Desk) (unread : List Sensed) (input : Input) (maker new_maker : Maker)
    (old new : Lane) (acts : List Act) : Type 0 where
  pub words : List Word
  pub brings : Brings input old new words
  pub body : new.body ≡ (machine_step desk unread (event_of maker input words) old.body).body
  pub told : acts ≡ (machine_step desk unread (event_of maker input words) old.body).acts
  pub made : new_maker ≡ maker_after input maker

-- a machine makes a step: what its lane tells, and behind that the own signals of a bridge
pub record Steps (s : NodeState) (unread : List Sensed) (input : Input) (moment : ℤ)
    (t : NodeState) (acts : List Act) : Type 0 where
  pub made : List Act
  pub lane : StepsLane (desk_of s moment) unread input s.maker t.maker s.lane t.lane made
  pub told : acts ≡ made ++ signalled s.bridge t.lane.body
  pub bridge : t.bridge ≡ levels_after input t.lane.body s.bridge
  pub forecasts : t.forecasts ≡ forecasts_after s.forecasts acts
  pub supervised : t.supervised ≡ supervised_after input s.supervised
  pub orders : t.orders ≡ orders_after input s.orders
  pub name : t.name ≡ s.name
  pub number : t.number ≡ s.number
  pub capacity : t.capacity ≡ s.capacity

-- ---- what the code does at the input alone

-- an input that is no bytes
pub record DoesInput (desk : Desk) (maker new_maker : Maker) (input : Input) (old new : Lane)
    (told now : List Act) : Type 0 where
  pub body : new.body ≡ (event_did desk (event_of maker input []) old.body).body
  pub acts : now ≡ told ++ (event_did desk (event_of maker input []) old.body).acts
  pub made : new_maker ≡ maker_after input maker
  pub entry : new.entry_bytes ≡ entry_after input old.entry_bytes
  pub exit : new.exit_bytes ≡ exit_after input old.exit_bytes

-- bytes of a side
abbrev pub HearsBytes : Desk → Side → List ℕ → Lane → Lane → List Act → List Act → Type 0
HearsBytes desk Entry piece old new told now =
    HearsPiece desk Entry old.entry_bytes piece new.entry_bytes old.body new.body told now
    × (new.exit_bytes ≡ old.exit_bytes)
HearsBytes desk Exit piece old new told now =
    HearsPiece desk Exit old.exit_bytes piece new.exit_bytes old.body new.body told now
    × (new.entry_bytes ≡ old.entry_bytes)

abbrev pub MeetsInput : Desk → Maker → Maker → Input → Lane → Lane → List Act → List Act → Type 0
MeetsInput desk maker new_maker (inputs.Bytes side piece) old new told now =
    HearsBytes desk side piece.now old new told now × (new_maker ≡ maker)
MeetsInput desk maker new_maker input old new told now =
    DoesInput desk maker new_maker input old new told now

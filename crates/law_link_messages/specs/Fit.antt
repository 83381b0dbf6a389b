-- Messages whose parts are as their types allow, and the machines that send no others.
use Rattle.std.specs.Prelude.{List, Option, Some, None, [], ◌<◌, ◌^◌, ◌≤◌, ◌∷◌, ℕ}
use Rattle.std.specs.List.{AllByRecursion}
use Rattle.line_base.specs.Moment.{IsMomentMillis}
use Rattle.line_base.specs.Text.{IsText}
use Rattle.line_base.specs.declared.states.Side.{Side}
use Rattle.line_base.specs.declared.states.Side.TheVariants.{Entry, Exit}
use Rattle.board_record.specs.Maker.{Maker}
use Rattle.board_record.specs.declared.record.Record.{Record}
use Rattle.board_record.specs.declared.sub_board.SubBoard.{SubBoard}
use Rattle.hermes_horizontal.specs.Canonical.{AreWritableSubs, IsProperIf, IsProperMessage, IsProperSub, IsWritable}
use Rattle.hermes_horizontal.specs.Parts.{info_of, info_parts}
use Rattle.hermes_horizontal.specs.declared.message.Horizontal.{Horizontal}
use Rattle.hermes_horizontal.specs.declared.message.Horizontal.TheVariants as bodies
use Rattle.hermes_horizontal.specs.declared.message.Message.{Message}
use Rattle.law_link_messages.specs.Framed.{HasShortName}
use Rattle.handover_out.specs.State as outlet
use Rattle.handover_in.specs.State as intake
use Rattle.node_core.specs.Desk.{Desk}
use Rattle.node_core.specs.Done.{Done}
use Rattle.node_core.specs.Event.{Event}
use Rattle.node_core.specs.Event as events
use Rattle.node_core.specs.declared.act.Act.{Act}
use Rattle.node_core.specs.declared.act.Act.TheVariants as acts
use Rattle.node_core.specs.declared.input.Input.{Input}
use Rattle.node_core.specs.declared.input.Input.TheVariants as inputs
use Rattle.node_core.specs.declared.lane.Body.{Body}
use Rattle.node_core.specs.declared.word.Word.{Word}
use Rattle.node_core.specs.declared.word.Word.TheVariants as words

-- ---- messages

-- its parts are within what their types allow, it is writable, and its name is short: so its text
-- is one frame, and spells it alone
pub record IsFit (message : Message) : Type 0 where
  pub proper : IsProperMessage message
  pub writable : IsWritable message
  pub short : HasShortName message.body

pub data AreFit : List Message → Type 0 where
  none_fit : AreFit []
  more_fit : {message : Message} {others : List Message} → IsFit message → AreFit others
      → AreFit (message ∷ others)

-- the messages that are sent are fit; what a supervisor is told goes out on no link
abbrev pub IsFitAct : Act → Type 0
IsFitAct (acts.Sends side message) = IsFit message
IsFitAct _ = Unit {0}

-- the messages that acts send on a side, in their order
abbrev pub sent_on : Side → List Act → List Message
sent_on side [] = []
sent_on Entry (acts.Sends Entry message ∷ others) = message ∷ sent_on Entry others
sent_on Exit (acts.Sends Exit message ∷ others) = message ∷ sent_on Exit others
sent_on side (act ∷ others) = sent_on side others

pub data AreFitActs : List Act → Type 0 where
  none_said : AreFitActs []
  more_said : {act : Act} {others : List Act} → IsFitAct act → AreFitActs others
      → AreFitActs (act ∷ others)

-- ---- a machine

-- an id has 128 bits
abbrev pub IsFitId : ℕ → Type 0
IsFitId id = id < 2 ^ 128

abbrev pub IsTextIf : Option (List ℕ) → Type 0
IsTextIf None = Unit {0}
IsTextIf (Some text) = IsText text

-- the place of a circuit has at most nine digits, and its barcode is a text
pub record IsFitSub (sub : SubBoard) : Type 0 where
  pub place : sub.pos ≤ 999_999_999
  pub barcode : IsProperSub sub

-- a record's id has 128 bits, its texts and measures are such, and so are its circuits, of which
-- there are not too many
pub record IsFitRecord (board : Record) : Type 0 where
  pub values : AllByRecursion IsProperIf (info_parts (info_of board))
  pub subs : AreWritableSubs board.subs
  pub barcodes : AllByRecursion IsProperSub board.subs

abbrev pub IsFitIf : Option Record → Type 0
IsFitIf None = Unit {0}
IsFitIf (Some board) = IsFitRecord board

pub data AreFitRecords : List Record → Type 0 where
  none_kept : AreFitRecords []
  more_kept : {board : Record} {others : List Record} → IsFitRecord board → AreFitRecords others
      → AreFitRecords (board ∷ others)

-- what a machine knows of itself: its name is a text, its lane has at most nine digits, and the
-- moment is of the years 1 to 9999
pub record IsFitDesk (desk : Desk) : Type 0 where
  pub name : IsText desk.name
  pub lane : desk.lane ≤ 999_999_999
  pub moment : IsMomentMillis desk.moment

-- the records of a machine are fit: those that are kept, that of the outlet, that of the intake,
-- and the one that is offered to it
pub record IsFitBody (body : Body) : Type 0 where
  pub kept : AreFitRecords body.kept
  pub outlet : IsFitIf (outlet.held body.outlet)
  pub intake : IsFitIf (intake.held body.intake)
  pub offer : IsFitIf body.intake.offer

-- ---- what comes to it

-- a message that is heard: of an available board its record, of a start its id, of a sign of life
-- the text that comes back
abbrev pub IsFitHeard : Horizontal → Type 0
IsFitHeard (bodies.BoardAvailable board) = IsFitRecord board
IsFitHeard (bodies.StartTransport id) = IsFitId id
IsFitHeard (bodies.CheckAlive ping id) = IsTextIf id
IsFitHeard _ = Unit {0}

-- the words of a side: such messages, up to a refusal that is a text. What stands behind that is
-- not heard
pub data AreFitWords : List Word → Type 0 where
  none_heard : AreFitWords []
  more_heard : {message : Message} {others : List Word} → IsFitHeard message.body
      → AreFitWords others → AreFitWords (words.Says message ∷ others)
  wrong_heard : {text : List ℕ} {others : List Word} → IsText text
      → AreFitWords (words.Wrong text ∷ others)

-- an event: its words, the ids that it makes, the barcode of a new board, the one that is asked
-- for, a circuit, and the record of a board from another lane
abbrev pub IsFitEvent : Event → Type 0
IsFitEvent (events.Words side heard) = AreFitWords heard
IsFitEvent (events.Insert id barcode) = IsFitId id × IsTextIf barcode
IsFitEvent (events.Replace old new) = IsFitId new
IsFitEvent (events.Query barcode) = IsText barcode
IsFitEvent (events.Sub id sub) = IsFitSub sub
IsFitEvent (events.Gets board) = IsFitRecord board
IsFitEvent _ = Unit {0}

-- an input: the barcode of a board that is put in, the one that is asked for, what is said of a
-- circuit, and the record of a board from another lane
abbrev pub IsFitInput : Input → Type 0
IsFitInput (inputs.Insert barcode) = IsTextIf barcode
IsFitInput (inputs.Query barcode) = IsText barcode
IsFitInput (inputs.Sub id place barcode) = (place ≤ 999_999_999) × IsTextIf barcode
IsFitInput (inputs.Gets board) = IsFitRecord board
IsFitInput _ = Unit {0}

-- the number of a machine has 32 bits
pub record IsFitMaker (maker : Maker) : Type 0 where
  pub small : maker.machine < 2 ^ 32

-- ---- what a machine does

-- the records behind it are fit, and all that is sent
pub record Fits (did : Done) : Type 0 where
  pub body : IsFitBody did.body
  pub acts : AreFitActs did.acts

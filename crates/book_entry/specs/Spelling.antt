-- THE FORM OF AN ENTRY: the bytes that it is written as, and which entries can be written.
use Rattle.std.specs.Prelude.{◌≡◌, ◌≤◌, ◌<◌, ◌^◌, ℕ, ℤ, Bool, true, false, List, [], ◌∷◌, ◌++◌, Option, Some, None, IfSome, length, get_or}
use Rattle.std.specs.Int.{cast_unsigned, to_be_bytes, w16, w32, w64, w128}
use Rattle.std.specs.List.{flat_map}
use Rattle.line_base.specs.Moment.{IsMomentMillis}
use Rattle.line_base.specs.Text.{IsText}
use Rattle.line_base.specs.declared.states.Quality.{Quality}
use Rattle.line_base.specs.declared.states.Quality.TheVariants as qualities
use Rattle.line_base.specs.declared.states.SensorEvent.{SensorEvent}
use Rattle.line_base.specs.declared.states.SensorEvent.TheVariants as seen
use Rattle.line_base.specs.declared.states.Side.{Side}
use Rattle.line_base.specs.declared.states.Side.TheVariants.{Entry as EntrySide, Exit}
use Rattle.board_record.specs.declared.sensed.Sensed.{Sensed}
use Rattle.hermes_vertical.specs.declared.message.Question.{Question}
use Rattle.hermes_vertical.specs.declared.message.Question.TheVariants as questions
use Rattle.smema_bridge.specs.declared.line.SegmentLine.{SegmentLine}
use Rattle.smema_bridge.specs.declared.line.SegmentLine.TheVariants as lines
use Rattle.book_entry.specs.declared.entry.Entry.{Entry}
use Rattle.book_entry.specs.declared.entry.OwnInput.{OwnInput}
use Rattle.book_entry.specs.declared.entry.OwnInput.TheVariants as inputs
use Rattle.book_entry.specs.Kinds.{input_kind, kind_tag}

-- ---- the parts. Numbers stand with their highest byte first; what is listed counts from 0

abbrev pub side_number : Side → ℕ
side_number EntrySide = 0
side_number Exit = 1

abbrev pub flag_number : Bool → ℕ
flag_number false = 0
flag_number true = 1

abbrev pub event_number : SensorEvent → ℕ
event_number seen.Begun = 0
event_number seen.Left = 1
event_number seen.Full = 2
event_number seen.Back = 3
event_number seen.Taken = 4

abbrev pub quality_number : Quality → ℕ
quality_number qualities.Unknown = 0
quality_number qualities.Good = 1
quality_number qualities.Failed = 2

abbrev pub line_number : SegmentLine → ℕ
line_number lines.Ready = 0
line_number lines.Available = 1
line_number lines.Failed = 2

-- the lane, which is 1, the side and the event
abbrev pub sensed_bytes : Sensed → List ℕ
sensed_bytes sensed = 1 ∷ side_number sensed.side ∷ event_number sensed.event ∷ []

-- a text is its length in 2 bytes and then its bytes
abbrev pub text_bytes : List ℕ → List ℕ
text_bytes text = to_be_bytes w16 (length text) ++ text

-- what may be left out is 0, or 1 and the value
abbrev pub maybe_text_bytes : Option (List ℕ) → List ℕ
maybe_text_bytes None = 0 ∷ []
maybe_text_bytes (Some text) = 1 ∷ text_bytes text

-- bytes are their length in 4 bytes and then themselves
abbrev pub own_bytes : List ℕ → List ℕ
own_bytes bytes = to_be_bytes w32 (length bytes) ++ bytes

-- a question is its tag and its fields
abbrev pub question_bytes : Question → List ℕ
question_bytes (questions.Barcode text) = 0 ∷ text_bytes text
question_bytes (questions.Order text) = 1 ∷ text_bytes text
question_bytes (questions.Place magazine slot) =
    2 ∷ (text_bytes magazine ++ to_be_bytes w32 slot)

-- an id has 16 bytes
abbrev pub id_bytes : ℕ → List ℕ
id_bytes id = to_be_bytes w128 id

-- the milliseconds of a moment, in two's complement
abbrev pub millis_bytes : ℤ → List ℕ
millis_bytes millis = to_be_bytes w64 (cast_unsigned w64 millis)

-- ---- an input: its tag, and its fields in order

abbrev pub field_bytes : OwnInput → List ℕ
field_bytes inputs.Nothing = []
field_bytes inputs.Connect = []
field_bytes inputs.Accepted = []
field_bytes inputs.Second = []
field_bytes (inputs.Bytes side bytes) = side_number side ∷ own_bytes bytes
field_bytes (inputs.Notice side) = side_number side ∷ []
field_bytes inputs.Tick = []
field_bytes inputs.Shutdown = []
field_bytes (inputs.Fault side) = side_number side ∷ []
field_bytes (inputs.Will side on) = side_number side ∷ flag_number on ∷ []
field_bytes (inputs.Level line on) = line_number line ∷ flag_number on ∷ []
field_bytes (inputs.Insert barcode) = maybe_text_bytes barcode
field_bytes (inputs.Remove id) = id_bytes id
field_bytes (inputs.Replace id) = id_bytes id
field_bytes (inputs.Mark id quality) = id_bytes id ++ (quality_number quality ∷ [])
field_bytes inputs.Forecast = []
field_bytes (inputs.Query barcode) = text_bytes barcode
field_bytes (inputs.Supervise on) = flag_number on ∷ []
field_bytes (inputs.Ask question) = question_bytes question
field_bytes (inputs.Answer query order) = to_be_bytes w64 query ++ text_bytes order
field_bytes (inputs.Sub id place barcode) =
    id_bytes id ++ (to_be_bytes w32 place ++ maybe_text_bytes barcode)

abbrev pub input_bytes : OwnInput → List ℕ
input_bytes input = kind_tag (input_kind input) ∷ field_bytes input

-- ---- an entry: the length of all that follows, the moment, the count of events, the events, the
-- input

abbrev pub events_bytes : List Sensed → List ℕ
events_bytes events = flat_map sensed_bytes events

abbrev pub body_bytes : Entry → List ℕ
body_bytes entry =
    millis_bytes entry.moment ++ (to_be_bytes w16 (length entry.sensed)
    ++ (events_bytes entry.sensed ++ input_bytes entry.input))

abbrev pub spelling : Entry → List ℕ
spelling entry = to_be_bytes w32 (length (body_bytes entry)) ++ body_bytes entry

-- ---- which entries can be written

pub record IsWritable (entry : Entry) : Type 0 where
  pub events : length entry.sensed ≤ 65535
  pub short : length (body_bytes entry) < 2 ^ 32

-- ---- what holds of every entry of a program, by the types of its parts

pub record AreBytes (bytes : List ℕ) : Type 0 where
  pub below : (k : ℕ) → get_or bytes k 0 < 256

abbrev pub IsProperQuestion : Question → Type 0
IsProperQuestion (questions.Barcode text) = IsText text
IsProperQuestion (questions.Order text) = IsText text
IsProperQuestion (questions.Place magazine slot) = IsText magazine × (slot < 2 ^ 32)

abbrev pub IsProperInput : OwnInput → Type 0
IsProperInput (inputs.Bytes side bytes) = AreBytes bytes
IsProperInput (inputs.Insert barcode) = IfSome barcode IsText
IsProperInput (inputs.Remove id) = id < 2 ^ 128
IsProperInput (inputs.Replace id) = id < 2 ^ 128
IsProperInput (inputs.Mark id quality) = id < 2 ^ 128
IsProperInput (inputs.Query barcode) = IsText barcode
IsProperInput (inputs.Ask question) = IsProperQuestion question
IsProperInput (inputs.Answer query order) = (query < 2 ^ 64) × IsText order
IsProperInput (inputs.Sub id place barcode) =
    (id < 2 ^ 128) × (place < 2 ^ 32) × IfSome barcode IsText
IsProperInput _ = Unit {0}

-- an entry that has a form
pub record IsEntry (entry : Entry) : Type 0 where
  pub moment : IsMomentMillis entry.moment
  pub input : IsProperInput entry.input
  pub events : length entry.sensed ≤ 65535
  pub short : length (body_bytes entry) < 2 ^ 32

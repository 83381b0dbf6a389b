-- WHAT A C PROGRAM TELLS A MACHINE: what the numbers of an input mean, and the input of the machine
-- step that they are with the bytes of the call.
use Rattle.std.specs.Prelude.{◌≡◌, ℕ, ℤ, pos, neg_ℤ, int_le, nat_le, Bool, true, false, ◌==◌, ◌&&◌, Option, None, Some, Result, List, [], ◌∷◌, length, option_map, if◌then◌else◌}
use Rattle.std.specs.Int.{from_be_bytes, w128}
use Rattle.std.specs.Borrow.{Bor}
use Rattle.line_base.specs.Text.{IsText}
use Rattle.line_base.specs.declared.states.Quality.{Quality}
use Rattle.line_base.specs.declared.states.Side.{Side}
use Rattle.line_base.specs.declared.states.Side.TheVariants.{Entry, Exit}
use Rattle.hermes_vertical.specs.declared.message.Question.TheVariants as questions
use Rattle.smema_bridge.specs.declared.line.SegmentLine.{SegmentLine}
use Rattle.board_record.specs.declared.sensed.Sensed.{Sensed}
use Rattle.node_core.specs.declared.input.Input.{Input}
use Rattle.node_core.specs.declared.input.Input.TheVariants as inputs
use Rattle.node_core.specs.May.{may_do, may_of}
use Rattle.node_core.specs.declared.input.No.{No}
use Rattle.machine_port.specs.Port.{HasClosed, HasStepped, PortState, made_after, may_take}
use Rattle.hermes_machine.specs.Numbers.{level_of, quality_of, seen_at, side_of, signal_of}
use Rattle.hermes_machine.specs.declared.happening.Happening.{Happening}
use Rattle.hermes_machine.specs.declared.happening.Happening.TheVariants as haps
use Rattle.hermes_machine.specs.declared.input.HermesInput.{HermesInput}
use Rattle.hermes_machine.specs.declared.meaning.Meaning.{Meaning}
use Rattle.hermes_machine.specs.declared.meaning.Meaning.TheVariants as means

-- ---- what the numbers mean, kind by kind

abbrev pub sensed_at : Side → ℕ → Option Meaning
sensed_at side number =
    option_map (λ event. means.Sensed (record { side = side; event = event }))
    (seen_at side number)

abbrev pub seen : Option Side → ℕ → Option Meaning
seen None number = None
seen (Some side) number = sensed_at side number

abbrev pub will_of : Option Side → Option Bool → Option Meaning
will_of (Some side) (Some on) = Some (means.Will side on)
will_of (Some side) None = None
will_of None on = None

abbrev pub bridge_level : Option SegmentLine → Option Bool → Option Meaning
bridge_level (Some line) (Some on) = Some (means.Level line on)
bridge_level (Some line) None = None
bridge_level None on = None

-- a second connection comes to the exit alone
abbrev pub second_at : Option Side → Option Meaning
second_at (Some Exit) = Some means.Second
second_at (Some Entry) = None
second_at None = None

abbrev pub insert_of : Option Bool → Option Meaning
insert_of (Some false) = Some means.Insert
insert_of (Some true) = Some means.InsertWith
insert_of None = None

abbrev pub id_of : HermesInput → ℕ
id_of i = from_be_bytes w128 i.id

abbrev pub mark_of : ℕ → Option Quality → Option Meaning
mark_of id quality = option_map (means.Mark id) quality

-- the supervisor is asked by a barcode, an order's id, or a place in a magazine
abbrev pub ask_of : ℕ → ℕ → Option Meaning
ask_of by slot =
    if by == 0 then Some means.AskBarcode else
    (if by == 1 then Some means.AskOrder else
    (if by == 2 then Some (means.AskPlace slot) else None))

abbrev pub supervise_of : Option Bool → Option Meaning
supervise_of on = option_map means.Supervise on

-- of a kind that names a side and nothing else
abbrev pub of_side : ℕ → Option Side → Option Meaning
of_side kind side =
    if kind == 1 then option_map means.Connected side else
    (if kind == 3 then option_map means.Bytes side else
    (if kind == 4 then option_map means.Closed side else
    (if kind == 7 then option_map means.Fault side else None)))

-- by its kind
abbrev pub kind_of : HermesInput → Option Meaning
kind_of i =
    if i.kind == 0 then Some means.Nothing else
    (if i.kind == 2 then second_at (side_of i.side) else
    (if i.kind == 5 then Some means.Tick else
    (if i.kind == 6 then seen (side_of i.side) i.what else
    (if i.kind == 8 then will_of (side_of i.side) (level_of i.what) else
    (if i.kind == 9 then bridge_level (signal_of i.side) (level_of i.what) else
    (if i.kind == 10 then insert_of (level_of i.what) else
    (if i.kind == 11 then Some (means.Remove (id_of i)) else
    (if i.kind == 12 then Some (means.Replace (id_of i)) else
    (if i.kind == 13 then mark_of (id_of i) (quality_of i.what) else
    (if i.kind == 14 then Some means.Shutdown else
    (if i.kind == 15 then Some means.Forecast else
    (if i.kind == 16 then Some means.Query else
    (if i.kind == 17 then ask_of i.what i.slot else
    (if i.kind == 18 then supervise_of (level_of i.what) else
    (if i.kind == 19 then Some (means.Answer i.query) else
    of_side i.kind (side_of i.side))))))))))))))))

-- WHAT AN INPUT MEANS: nothing where it says another size than its own, or a number is out of its
-- range
abbrev pub meaning_of : HermesInput → Option Meaning
meaning_of i = if i.size == 48 && i.zero == 0 then kind_of i else None

-- ---- and what that is for the machine

abbrev pub wants_text : Meaning → Bool
wants_text means.InsertWith = true
wants_text means.Query = true
wants_text means.AskBarcode = true
wants_text means.AskOrder = true
wants_text (means.AskPlace slot) = true
wants_text (means.Answer query) = true
wants_text _ = false

-- the input of the machine step, with the bytes of the call
abbrev pub input_of : Meaning → Bor (List ℕ) → Input
input_of (means.Connected Entry) bytes = inputs.Connect
input_of (means.Connected Exit) bytes = inputs.Accepted
input_of means.Second bytes = inputs.Second
input_of (means.Bytes side) bytes = inputs.Bytes side bytes
input_of means.Tick bytes = inputs.Tick
input_of (means.Fault side) bytes = inputs.Fault side
input_of (means.Will side on) bytes = inputs.Will side on
input_of (means.Level line on) bytes = inputs.Level line on
input_of means.Insert bytes = inputs.Insert None
input_of means.InsertWith bytes = inputs.Insert (Some bytes.now)
input_of (means.Remove id) bytes = inputs.Remove id
input_of (means.Replace id) bytes = inputs.Replace id
input_of (means.Mark id quality) bytes = inputs.Mark id quality
input_of means.Shutdown bytes = inputs.Shutdown
input_of means.Forecast bytes = inputs.Forecast
input_of means.Query bytes = inputs.Query bytes.now
input_of means.AskBarcode bytes = inputs.Ask (questions.Barcode bytes.now)
input_of means.AskOrder bytes = inputs.Ask (questions.Order bytes.now)
input_of (means.AskPlace slot) bytes = inputs.Ask (questions.Place bytes.now slot)
input_of (means.Supervise on) bytes = inputs.Supervise on
input_of (means.Answer query) bytes = inputs.Answer query bytes.now
input_of _ bytes = inputs.Nothing

-- what a sensor saw and a close are none
abbrev pub happening_of : Meaning → Bor (List ℕ) → Happening
happening_of (means.Sensed sensed) bytes = haps.Sees sensed
happening_of (means.Closed side) bytes = haps.Closes side
happening_of meaning bytes = haps.Given (input_of meaning bytes)

-- a moment of the clock, in milliseconds
abbrev pub is_moment : ℤ → Bool
is_moment now =
    int_le (neg_ℤ (pos 62_135_596_800_000)) now && int_le now (pos 253_402_300_799_999)

-- WHAT IS TOLD by an input with these bytes, at this moment: nothing where they are more than 4,096,
-- or the moment is none
abbrev pub told_of : HermesInput → List ℕ → ℤ → Option Meaning
told_of i bytes now =
    if nat_le (length bytes) 4096 && is_moment now then meaning_of i else None

-- the bytes are a text where it wants one
abbrev pub HasText : Bool → List ℕ → Type 0
HasText true bytes = IsText bytes
HasText false bytes = Unit {0}

-- ---- what a machine does then

abbrev pub may_happen : PortState → Happening → Result (Unit {0}) No
may_happen s (haps.Given input) = may_take s input
may_happen s (haps.Sees sensed) = may_do
may_happen s (haps.Closes side) = may_do

-- how many ids it has made then
abbrev pub made_by : Happening → ℕ → ℕ
made_by (haps.Given input) made = made_after input made
made_by (haps.Sees sensed) made = made
made_by (haps.Closes side) made = made

abbrev pub Happens : Happening → ℤ → PortState → PortState → Type 0
Happens (haps.Given input) now s t = HasStepped [] input now s t
Happens (haps.Sees sensed) now s t = HasStepped (sensed ∷ []) inputs.Nothing now s t
Happens (haps.Closes side) now s t =
    HasClosed (may_of s.node (inputs.Notice side)) side now s t

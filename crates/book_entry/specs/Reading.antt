-- Reading an entry part by part. An entry says its length first, so how many bytes each part has to
-- be is known before it is read, and bytes that can't go on to it are refused at the first that
-- shows it.
use Rattle.std.specs.Prelude.{◌≡◌, ℕ, zero, suc, ℤ, Bool, true, false, ◌+◌, ◌-◌, ◌*◌, ◌/◌, ◌^◌, ◌==◌, ◌&&◌, ◌||◌, min, nat_le, nat_lt, List, [], ◌∷◌, ◌++◌, Option, Some, None, Result, Ok, Err, length, take, drop, if◌then◌else◌}
use Rattle.std.specs.Int.{cast_signed, w64}
use Rattle.std.specs.List.{list_all}
use Rattle.std.specs.Str.{chars, is_utf8}
use Rattle.line_base.specs.Results.{then_ok, mapped_ok}
use Rattle.line_base.specs.Text.{is_allowed_char}
use Rattle.line_base.specs.declared.states.Quality.{Quality}
use Rattle.line_base.specs.declared.states.Quality.TheVariants as qualities
use Rattle.line_base.specs.declared.states.SensorEvent.{SensorEvent}
use Rattle.line_base.specs.declared.states.SensorEvent.TheVariants as seen
use Rattle.line_base.specs.declared.states.Side.{Side}
use Rattle.line_base.specs.declared.states.Side.TheVariants.{Entry as EntrySide, Exit}
use Rattle.board_record.specs.declared.sensed.Sensed.{Sensed}
use Rattle.hermes_vertical.specs.declared.message.Question.{Question}
use Rattle.hermes_vertical.specs.declared.message.Question.TheVariants as questions
use Rattle.smema_bridge.specs.declared.line.SegmentLine.{SegmentLine}
use Rattle.smema_bridge.specs.declared.line.SegmentLine.TheVariants as lines
use Rattle.book_entry.specs.declared.entry.Entry.{Entry}
use Rattle.book_entry.specs.declared.entry.OwnInput.{OwnInput}
use Rattle.book_entry.specs.declared.entry.OwnInput.TheVariants as inputs
use Rattle.book_entry.specs.declared.fault.EntryError.{EntryError}
use Rattle.book_entry.specs.declared.fault.EntryError.TheVariants as errors
use Rattle.book_entry.specs.declared.fault.Fail.{Fail}
use Rattle.book_entry.specs.declared.fault.Fail.TheVariants as fails
use Rattle.book_entry.specs.declared.kind.InputKind.{InputKind}
use Rattle.book_entry.specs.declared.kind.InputKind.TheVariants as kinds
use Rattle.book_entry.specs.Kinds.{is_from, kind_of, takes}
use Rattle.book_entry.specs.Numbers.{byte_in, millis_in, number_in}

-- ---- the parts of one byte

abbrev pub below : ℕ → ℕ → Bool
below count byte = nat_lt byte count

abbrev pub exactly : ℕ → ℕ → Bool
exactly wanted byte = byte == wanted

abbrev pub side_of : ℕ → Side
side_of number = if number == 0 then EntrySide else Exit

abbrev pub side_in : List ℕ → Result Side Fail
side_in bytes = mapped_ok side_of (byte_in (below 2) bytes)

abbrev pub flag_in : List ℕ → Result Bool Fail
flag_in bytes = mapped_ok (exactly 1) (byte_in (below 2) bytes)

abbrev pub event_of : ℕ → SensorEvent
event_of number =
    if number == 0 then seen.Begun else (if number == 1 then seen.Left else
    (if number == 2 then seen.Full else (if number == 3 then seen.Back else seen.Taken)))

abbrev pub event_in : List ℕ → Result SensorEvent Fail
event_in bytes = mapped_ok event_of (byte_in (below 5) bytes)

abbrev pub quality_of : ℕ → Quality
quality_of number =
    if number == 0 then qualities.Unknown else
    (if number == 1 then qualities.Good else qualities.Failed)

abbrev pub quality_in : List ℕ → Result Quality Fail
quality_in bytes = mapped_ok quality_of (byte_in (below 3) bytes)

abbrev pub line_of : ℕ → SegmentLine
line_of number =
    if number == 0 then lines.Ready else
    (if number == 1 then lines.Available else lines.Failed)

abbrev pub line_in : List ℕ → Result SegmentLine Fail
line_in bytes = mapped_ok line_of (byte_in (below 3) bytes)

-- ---- numbers

abbrev pub short_in : List ℕ → Result ℕ Fail
short_in bytes = number_in 4 0 (2 ^ 32 - 1) bytes

abbrev pub long_in : List ℕ → Result ℕ Fail
long_in bytes = number_in 8 0 (2 ^ 64 - 1) bytes

abbrev pub id_in : List ℕ → Result ℕ Fail
id_in bytes = number_in 16 0 (2 ^ 128 - 1) bytes

-- ---- texts and bytes

unfoldable pub is_text : List ℕ → Bool
is_text bytes = is_utf8 bytes && list_all is_allowed_char (chars bytes)

-- the bytes with these behind them are a text of at most so many bytes
abbrev pub ends_by : ℕ → List ℕ → List ℕ → Bool
ends_by count bytes tail = nat_le (length bytes + length tail) count && is_text (bytes ++ tail)

-- The bytes go on to a text of so many bytes. If they go on to any, then by one of these ends:
-- none, where they are a text themselves; else what the least allowed character has behind the
-- bytes of it that are there
abbrev pub ends_soon : ℕ → List ℕ → Bool
ends_soon count bytes =
    ends_by count bytes []
    || (ends_by count bytes (128 ∷ []) || ends_by count bytes (128 ∷ 128 ∷ []))

abbrev pub ends_late : ℕ → List ℕ → Bool
ends_late count bytes =
    ends_by count bytes (160 ∷ 128 ∷ [])
    || (ends_by count bytes (128 ∷ 128 ∷ 128 ∷ [])
    || ends_by count bytes (144 ∷ 128 ∷ 128 ∷ []))

unfoldable pub goes_on : ℕ → List ℕ → Bool
goes_on count bytes = ends_soon count bytes || ends_late count bytes

-- a text of so many bytes
unfoldable pub chars_in : ℕ → List ℕ → Result (List ℕ) Fail
chars_in count bytes =
    if nat_le count (length bytes)
    then (if is_text (take count bytes) then Ok (take count bytes) else Err fails.Bad)
    else (if goes_on count bytes then Err fails.Short else Err fails.Bad)

-- a text that is, with its length in front, so many bytes
abbrev pub text_in : ℕ → List ℕ → Result (List ℕ) Fail
text_in count bytes =
    then_ok (number_in 2 (count - 2) (count - 2) bytes)
    (λ length. chars_in (count - 2) (drop 2 bytes))

abbrev pub no_text : ℕ → Option (List ℕ)
no_text byte = None

abbrev pub some_text_in : ℕ → List ℕ → Result (Option (List ℕ)) Fail
some_text_in count bytes =
    then_ok (byte_in (exactly 1) bytes) (λ byte. mapped_ok Some (text_in (count - 1) (drop 1 bytes)))

abbrev pub maybe_text_in : ℕ → List ℕ → Result (Option (List ℕ)) Fail
maybe_text_in count bytes =
    if count == 1 then mapped_ok no_text (byte_in (exactly 0) bytes) else some_text_in count bytes

abbrev pub raw_in : ℕ → List ℕ → Result (List ℕ) Fail
raw_in count bytes =
    if nat_le count (length bytes) then Ok (take count bytes) else Err fails.Short

abbrev pub own_in : ℕ → List ℕ → Result (List ℕ) Fail
own_in count bytes =
    then_ok (number_in 4 (count - 4) (count - 4) bytes)
    (λ length. raw_in (count - 4) (drop 4 bytes))

-- ---- questions

-- the question of this tag can be so many bytes
abbrev pub asks : ℕ → ℕ → Bool
asks count tag =
    (nat_lt tag 2 && is_from 3 1027 count) || (tag == 2 && is_from 7 1031 count)

abbrev pub place_in : ℕ → List ℕ → Result Question Fail
place_in count bytes =
    then_ok (text_in (count - 4) bytes)
    (λ magazine. mapped_ok (questions.Place magazine) (short_in (drop (count - 4) bytes)))

abbrev pub asked_in : ℕ → ℕ → List ℕ → Result Question Fail
asked_in tag count bytes =
    if tag == 0 then mapped_ok questions.Barcode (text_in count bytes) else
    (if tag == 1 then mapped_ok questions.Order (text_in count bytes) else place_in count bytes)

abbrev pub question_in : ℕ → List ℕ → Result Question Fail
question_in count bytes =
    then_ok (byte_in (asks count) bytes) (λ tag. asked_in tag (count - 1) (drop 1 bytes))

-- ---- inputs

abbrev pub allowed : ℕ → Option InputKind → Result InputKind Fail
allowed count None = Err fails.Bad
allowed count (Some kind) = if takes kind count then Ok kind else Err fails.Bad

-- the tag of an input whose fields are so many bytes
abbrev pub kind_in : ℕ → List ℕ → Result InputKind Fail
kind_in count [] = Err fails.Short
kind_in count (tag ∷ bytes) = allowed count (kind_of tag)

abbrev pub bytes_in : ℕ → List ℕ → Result OwnInput Fail
bytes_in count bytes =
    then_ok (side_in bytes) (λ side.
    mapped_ok (inputs.Bytes side) (own_in (count - 1) (drop 1 bytes)))

abbrev pub will_in : List ℕ → Result OwnInput Fail
will_in bytes =
    then_ok (side_in bytes) (λ side. mapped_ok (inputs.Will side) (flag_in (drop 1 bytes)))

abbrev pub level_in : List ℕ → Result OwnInput Fail
level_in bytes =
    then_ok (line_in bytes) (λ line. mapped_ok (inputs.Level line) (flag_in (drop 1 bytes)))

abbrev pub mark_in : List ℕ → Result OwnInput Fail
mark_in bytes =
    then_ok (id_in bytes) (λ id. mapped_ok (inputs.Mark id) (quality_in (drop 16 bytes)))

abbrev pub answer_in : ℕ → List ℕ → Result OwnInput Fail
answer_in count bytes =
    then_ok (long_in bytes) (λ query.
    mapped_ok (inputs.Answer query) (text_in (count - 8) (drop 8 bytes)))

abbrev pub placed_in : ℕ → ℕ → List ℕ → Result OwnInput Fail
placed_in id count bytes =
    then_ok (short_in bytes) (λ place.
    mapped_ok (inputs.Sub id place) (maybe_text_in (count - 4) (drop 4 bytes)))

abbrev pub sub_in : ℕ → List ℕ → Result OwnInput Fail
sub_in count bytes =
    then_ok (id_in bytes) (λ id. placed_in id (count - 16) (drop 16 bytes))

-- the fields of an input, which are so many bytes
abbrev pub fields_in : InputKind → ℕ → List ℕ → Result OwnInput Fail
fields_in kinds.Nothing count bytes = Ok inputs.Nothing
fields_in kinds.Connect count bytes = Ok inputs.Connect
fields_in kinds.Accepted count bytes = Ok inputs.Accepted
fields_in kinds.Second count bytes = Ok inputs.Second
fields_in kinds.Bytes count bytes = bytes_in count bytes
fields_in kinds.Notice count bytes = mapped_ok inputs.Notice (side_in bytes)
fields_in kinds.Tick count bytes = Ok inputs.Tick
fields_in kinds.Shutdown count bytes = Ok inputs.Shutdown
fields_in kinds.Fault count bytes = mapped_ok inputs.Fault (side_in bytes)
fields_in kinds.Will count bytes = will_in bytes
fields_in kinds.Level count bytes = level_in bytes
fields_in kinds.Insert count bytes = mapped_ok inputs.Insert (maybe_text_in count bytes)
fields_in kinds.Remove count bytes = mapped_ok inputs.Remove (id_in bytes)
fields_in kinds.Replace count bytes = mapped_ok inputs.Replace (id_in bytes)
fields_in kinds.Mark count bytes = mark_in bytes
fields_in kinds.Forecast count bytes = Ok inputs.Forecast
fields_in kinds.Query count bytes = mapped_ok inputs.Query (text_in count bytes)
fields_in kinds.Supervise count bytes = mapped_ok inputs.Supervise (flag_in bytes)
fields_in kinds.Ask count bytes = mapped_ok inputs.Ask (question_in count bytes)
fields_in kinds.Answer count bytes = answer_in count bytes
fields_in kinds.Sub count bytes = sub_in count bytes

unfoldable pub input_in : ℕ → List ℕ → Result OwnInput Fail
input_in count bytes =
    then_ok (kind_in (count - 1) bytes) (λ kind. fields_in kind (count - 1) (drop 1 bytes))

-- ---- entries

abbrev pub made_sensed : Side → SensorEvent → Sensed
made_sensed side event = record { side = side; event = event }

abbrev pub seen_in : List ℕ → Result Sensed Fail
seen_in bytes =
    then_ok (side_in bytes) (λ side. mapped_ok (made_sensed side) (event_in (drop 1 bytes)))

abbrev pub sensed_in : List ℕ → Result Sensed Fail
sensed_in bytes = then_ok (byte_in (exactly 1) bytes) (λ lane. seen_in (drop 1 bytes))

abbrev pub put : Sensed → List Sensed → List Sensed
put sensed events = sensed ∷ events

unfoldable pub events_in : ℕ → List ℕ → Result (List Sensed) Fail
events_in zero bytes = Ok []
events_in (suc count) bytes =
    then_ok (sensed_in bytes) (λ sensed. mapped_ok (put sensed) (events_in count (drop 3 bytes)))

-- what adding one event answers: it is put behind those before, unless memory ran out
pub record IsPut (wanted : Result Sensed Fail) (old new : List Sensed) : Type 0 where
  pub sensed : Sensed
  pub read : wanted ≡ Ok sensed
  pub put : new ≡ old ++ sensed ∷ []

abbrev pub PutsOne : Result Sensed Fail → List Sensed → Result (Unit {0}) EntryError
    → List Sensed → Type 0
PutsOne wanted old (Ok done) new = IsPut wanted old new
PutsOne wanted old (Err errors.Short) new = wanted ≡ Err fails.Short
PutsOne wanted old (Err errors.Bad) new = wanted ≡ Err fails.Bad
PutsOne wanted old (Err errors.Memory) new = Unit {0}

abbrev pub moment_in : List ℕ → Result ℤ Fail
moment_in bytes = mapped_ok (cast_signed w64) (millis_in bytes)

abbrev pub made_entry : ℤ → List Sensed → OwnInput → Entry
made_entry moment sensed input = record { sensed = sensed; input = input; moment = moment }

-- so many events, and an input
unfoldable pub listed_in : ℤ → ℕ → ℕ → List ℕ → Result Entry Fail
listed_in moment events count bytes =
    then_ok (events_in events bytes) (λ sensed.
    mapped_ok (made_entry moment sensed) (input_in (count - 3 * events) (drop (3 * events) bytes)))

-- the most events that fit so many bytes, in which their count and an input stand too
abbrev pub most_events : ℕ → ℕ
most_events count = min 65535 ((count - 3) / 3)

-- the count of events, and what is counted
unfoldable pub counted_in : ℤ → ℕ → List ℕ → Result Entry Fail
counted_in moment count bytes =
    then_ok (number_in 2 0 (most_events count) bytes)
    (λ events. listed_in moment events (count - 2) (drop 2 bytes))

-- what stands behind the length, which is so many bytes
unfoldable pub body_in : ℕ → List ℕ → Result Entry Fail
body_in count bytes =
    then_ok (moment_in bytes) (λ moment. counted_in moment (count - 8) (drop 8 bytes))

abbrev pub with_size : ℕ → Entry → Entry × ℕ
with_size count entry = (entry, count + 4)

unfoldable pub entry_in : List ℕ → Result (Entry × ℕ) Fail
entry_in bytes =
    then_ok (number_in 4 11 (2 ^ 32 - 1) bytes)
    (λ count. mapped_ok (with_size count) (body_in count (drop 4 bytes)))

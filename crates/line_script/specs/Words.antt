use Rattle.std.specs.Prelude.{◌≡◌, ◌==◌, ◌||◌, ◌&&◌, ◌+◌, ℕ, Bool, true, false, List, Option, Some, None, Result, Ok, Err, codes, drop, filter, length, nat_le, nat_lt, position, take, if◌then◌else◌}
use Rattle.std.specs.List.{list_all, slice_split}
use Rattle.std.specs.Str.{bytes_eq}
use Rattle.line_base.specs.Number.{is_digits, value_of}
use Rattle.line_base.specs.declared.states.Quality.{Quality}
use Rattle.line_base.specs.declared.states.Quality.TheVariants as qualities
use Rattle.line_base.specs.declared.states.SensorEvent.{SensorEvent}
use Rattle.line_base.specs.declared.states.SensorEvent.TheVariants as events
use Rattle.line_base.specs.declared.states.Side.{Side}
use Rattle.line_base.specs.declared.states.Side.TheVariants as sides
use Rattle.board_record.specs.BoardId.{read_id}
use Rattle.board_record.specs.declared.id.BadId.{BadId}
use Rattle.hermes_vertical.specs.declared.message.Question.{Question}
use Rattle.hermes_vertical.specs.declared.message.Question.TheVariants as questions
use Rattle.smema_bridge.specs.declared.line.SegmentLine.{SegmentLine}
use Rattle.smema_bridge.specs.declared.line.SegmentLine.TheVariants as signals
use Rattle.line_script.specs.declared.line.LineWhy.{LineWhy}
use Rattle.line_script.specs.declared.line.LineWhy.TheVariants as whys
use Rattle.line_script.specs.declared.words.AskedBy.{AskedBy}
use Rattle.line_script.specs.declared.words.AskedBy.TheVariants as bys
use Rattle.line_script.specs.declared.words.Place.{Place}
use Rattle.line_script.specs.declared.line.LineError.{LineError}
use Rattle.line_script.specs.declared.line.LineError.TheVariants as errors

-- words are parted by spaces and tabs
abbrev pub is_blank : ℕ → Bool
is_blank b = b == 32 || b == 9

-- a byte of a line: printable ASCII, or a tab
abbrev pub is_text_byte : ℕ → Bool
is_text_byte b = (nat_le 32 b && nat_le b 126) || b == 9

-- the words of a line: what stands between blanks
abbrev pub words_of : List ℕ → List (List ℕ)
words_of bytes = filter (λ word. nat_lt 0 (length word)) (slice_split is_blank bytes)

abbrev pub number_between : ℕ → ℕ → ℕ → Result ℕ LineWhy
number_between low high value =
    if nat_le low value && nat_le value high then Ok value else Err whys.BadNumber

-- a number is 1 to 15 digits whose value stands between two bounds
abbrev pub number_in : ℕ → ℕ → List ℕ → Result ℕ LineWhy
number_in low high word =
    if is_digits 1 15 word then number_between low high (value_of word) else Err whys.BadNumber

abbrev pub place_from : Result ℕ LineWhy → Result ℕ LineWhy → Result Place LineWhy
place_from (Ok number) (Ok lane) = Ok (record { number = number; lane = lane })
place_from (Ok number) (Err why) = Err why
place_from (Err why) lane = Err why

-- what a word says that has its first point there, or none
abbrev pub place_at : ℕ → List ℕ → Option ℕ → Result Place LineWhy
place_at most word None = place_from (number_in 1 most word) (Ok 1)
place_at most word (Some i) =
    place_from (number_in 1 most (take i word)) (number_in 1 4 (drop (i + 1) word))

-- WHAT A PLACE WORD SAYS: the number of a machine or a gap, and a lane. `m` is on lane 1, `m.l` on
-- lane l
abbrev pub place_of : ℕ → List ℕ → Result Place LineWhy
place_of most word = place_at most word (position (λ b. b == 46) word)

-- this word and no other
abbrev pub literal_of : List ℕ → List ℕ → Result (Unit {0}) LineWhy
literal_of wanted word = if bytes_eq word wanted then Ok tt else Err whys.BadWord

abbrev pub identity_from : Result ℕ BadId → Result ℕ LineWhy
identity_from (Ok id) = Ok id
identity_from (Err bad) = Err whys.BadId

-- the id that a word spells
abbrev pub identity_of : List ℕ → Result ℕ LineWhy
identity_of word = identity_from (read_id word)

-- a text word has at most 64 bytes
abbrev pub token_of : List ℕ → Result (List ℕ) LineWhy
token_of word =
    if nat_le (length word) 64 && list_all is_text_byte word then Ok word else Err whys.BadWord

-- a barcode is a text word, and a hyphen alone says that there is none
abbrev pub barcode_in : List ℕ → Option (List ℕ)
barcode_in word = if bytes_eq word (codes "-") then None else Some word

abbrev pub barcode_from : Result (List ℕ) LineWhy → Result (Option (List ℕ)) LineWhy
barcode_from (Ok word) = Ok (barcode_in word)
barcode_from (Err why) = Err why

abbrev pub barcode_of : List ℕ → Result (Option (List ℕ)) LineWhy
barcode_of word = barcode_from (token_of word)

-- the side that a word names
abbrev pub side_of : List ℕ → Result Side LineWhy
side_of word =
    if bytes_eq word (codes "in") then Ok sides.Entry else
    (if bytes_eq word (codes "out") then Ok sides.Exit else Err whys.BadSide)

-- the quality that a word names
abbrev pub quality_of : List ℕ → Result Quality LineWhy
quality_of word =
    if bytes_eq word (codes "unknown") then Ok qualities.Unknown else
    (if bytes_eq word (codes "good") then Ok qualities.Good else
    (if bytes_eq word (codes "failed") then Ok qualities.Failed else Err whys.BadWord))

-- the sensor event that a word names
abbrev pub event_of : List ℕ → Result SensorEvent LineWhy
event_of word =
    if bytes_eq word (codes "Begun") then Ok events.Begun else
    (if bytes_eq word (codes "Left") then Ok events.Left else
    (if bytes_eq word (codes "Full") then Ok events.Full else
    (if bytes_eq word (codes "Back") then Ok events.Back else
    (if bytes_eq word (codes "Taken") then Ok events.Taken else Err whys.BadWord))))

-- the signal of a segment that a word names
abbrev pub segment_line_of : List ℕ → Result SegmentLine LineWhy
segment_line_of word =
    if bytes_eq word (codes "ready") then Ok signals.Ready else
    (if bytes_eq word (codes "available") then Ok signals.Available else
    (if bytes_eq word (codes "failed") then Ok signals.Failed else Err whys.BadWord))

-- whether a signal is switched on
abbrev pub switch_of : List ℕ → Result Bool LineWhy
switch_of word =
    if bytes_eq word (codes "on") then Ok true else
    (if bytes_eq word (codes "off") then Ok false else Err whys.BadWord)

-- what a work order is asked for by, where a text is enough to say it
abbrev pub asked_by_of : List ℕ → Result AskedBy LineWhy
asked_by_of word =
    if bytes_eq word (codes "barcode") then Ok bys.Barcode else
    (if bytes_eq word (codes "order") then Ok bys.Order else Err whys.BadWord)

abbrev pub question_of : AskedBy → List ℕ → Question
question_of bys.Barcode text = questions.Barcode text
question_of bys.Order text = questions.Order text

-- what reading answers, unless memory ran out
abbrev pub Reads : {A : Type 0} → Result A LineWhy → Result A LineError → Type 0
Reads wanted (Ok value) = wanted ≡ Ok value
Reads wanted (Err (errors.Refused why)) = wanted ≡ Err why
Reads wanted (Err errors.Memory) = Unit {0}

abbrev pub ReadsToken : List ℕ → Result (List ℕ) LineError → Type 0
ReadsToken word answer = Reads (token_of word) answer

-- the text of a refusal
abbrev pub why_text : LineWhy → List ℕ
why_text whys.LongLine = codes "long line"
why_text whys.TooManyLines = codes "too many lines"
why_text whys.NotText = codes "not text"
why_text whys.UnknownWord = codes "unknown word"
why_text whys.WrongCount = codes "wrong count"
why_text whys.BadNumber = codes "bad number"
why_text whys.BadSide = codes "bad side"
why_text whys.BadId = codes "bad id"
why_text whys.BadWord = codes "bad word"

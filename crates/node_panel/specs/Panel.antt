-- The lines of a machine's panel: those of a script without their machine, and `end`.
use Rattle.std.specs.Prelude.{◌==◌, ℕ, Bool, false, List, [], ◌∷◌, Some, None, Result, Ok, Err, codes, length, nat_lt, if◌then◌else◌}
use Rattle.std.specs.List.{list_all}
use Rattle.std.specs.Str.{bytes_eq}
use Rattle.line_base.specs.Results.{then_ok, mapped_ok}
use Rattle.line_base.specs.declared.states.Side.{Side}
use Rattle.line_base.specs.declared.states.Side.TheVariants.{Entry, Exit}
use Rattle.line_base.specs.declared.states.Quality.{Quality}
use Rattle.line_base.specs.declared.states.Quality.TheVariants as qualities
use Rattle.line_base.specs.declared.states.SensorEvent.{SensorEvent}
use Rattle.line_base.specs.declared.states.SensorEvent.TheVariants as sensors
use Rattle.hermes_vertical.specs.declared.message.Question.TheVariants as questions
use Rattle.line_script.specs.Words.{words_of, is_text_byte, number_in, literal_of, identity_of, token_of, segment_line_of, switch_of, asked_by_of, question_of, barcode_of}
use Rattle.line_script.specs.declared.line.LineWhy.{LineWhy}
use Rattle.line_script.specs.declared.line.LineWhy.TheVariants as whys
use Rattle.node_panel.specs.declared.line.PanelLine.{PanelLine}
use Rattle.node_panel.specs.declared.line.PanelLine.TheVariants as lines

-- ---- words

abbrev pub side_of : List ℕ → Result Side LineWhy
side_of word =
    if bytes_eq word (codes "in") then Ok Entry else
    (if bytes_eq word (codes "out") then Ok Exit else Err whys.BadSide)

abbrev pub quality_of : List ℕ → Result Quality LineWhy
quality_of word =
    if bytes_eq word (codes "unknown") then Ok qualities.Unknown else
    (if bytes_eq word (codes "good") then Ok qualities.Good else
    (if bytes_eq word (codes "failed") then Ok qualities.Failed else Err whys.BadWord))

-- the sensors of the entry see a board begin, come in, go back and be taken, those of the exit see
-- it leave in place of come in
abbrev pub last_event : Side → List ℕ
last_event Entry = codes "Full"
last_event Exit = codes "Left"

abbrev pub last_event_of : Side → SensorEvent
last_event_of Entry = sensors.Full
last_event_of Exit = sensors.Left

abbrev pub event_of : Side → List ℕ → Result SensorEvent LineWhy
event_of side word =
    if bytes_eq word (codes "Begun") then Ok sensors.Begun else
    (if bytes_eq word (codes "Back") then Ok sensors.Back else
    (if bytes_eq word (codes "Taken") then Ok sensors.Taken else
    (if bytes_eq word (last_event side) then Ok (last_event_of side) else Err whys.BadWord)))

-- the id that a word spells
unfoldable pub id_of : List ℕ → Result ℕ LineWhy
id_of word = identity_of word

-- ---- forms, by what stands behind their first word

abbrev pub bare : PanelLine → List (List ℕ) → Result PanelLine LineWhy
bare line [] = Ok line
bare line (word ∷ words) = Err whys.WrongCount

abbrev pub insert_of : List (List ℕ) → Result PanelLine LineWhy
insert_of [] = Ok (lines.Insert None)
insert_of (barcode ∷ []) = mapped_ok (λ text. lines.Insert (Some text)) (token_of barcode)
insert_of (barcode ∷ other ∷ words) = Err whys.WrongCount

abbrev pub with_id : (ℕ → PanelLine) → List (List ℕ) → Result PanelLine LineWhy
with_id line [] = Err whys.WrongCount
with_id line (id ∷ []) = mapped_ok line (id_of id)
with_id line (id ∷ other ∷ words) = Err whys.WrongCount

abbrev pub with_side : (Side → PanelLine) → List (List ℕ) → Result PanelLine LineWhy
with_side line [] = Err whys.WrongCount
with_side line (side ∷ []) = mapped_ok line (side_of side)
with_side line (side ∷ other ∷ words) = Err whys.WrongCount

abbrev pub mark_of : List (List ℕ) → Result PanelLine LineWhy
mark_of (id ∷ quality ∷ []) =
    then_ok (id_of id) (λ id. mapped_ok (lines.Mark id) (quality_of quality))
mark_of _ = Err whys.WrongCount

abbrev pub sub_of : List (List ℕ) → Result PanelLine LineWhy
sub_of (id ∷ place ∷ barcode ∷ []) =
    then_ok (id_of id) (λ id. then_ok (number_in 0 999999999 place)
    (λ place. mapped_ok (lines.Sub id place) (barcode_of barcode)))
sub_of _ = Err whys.WrongCount

abbrev pub made_sense : Side → SensorEvent → PanelLine
made_sense side event = lines.Sense (record { side = side; event = event })

abbrev pub sense_of : List (List ℕ) → Result PanelLine LineWhy
sense_of (side ∷ event ∷ []) =
    then_ok (side_of side) (λ side. mapped_ok (made_sense side) (event_of side event))
sense_of _ = Err whys.WrongCount

abbrev pub signal_of : List (List ℕ) → Result PanelLine LineWhy
signal_of (line ∷ on ∷ []) =
    then_ok (segment_line_of line) (λ line. mapped_ok (lines.Signal line) (switch_of on))
signal_of _ = Err whys.WrongCount

abbrev pub query_of : List (List ℕ) → Result PanelLine LineWhy
query_of [] = Err whys.WrongCount
query_of (barcode ∷ []) = mapped_ok lines.Query (token_of barcode)
query_of (barcode ∷ other ∷ words) = Err whys.WrongCount

-- a question by one text, and by a place: a magazine and a slot of it
abbrev pub text_asked : List ℕ → List ℕ → Result PanelLine LineWhy
text_asked word text =
    then_ok (asked_by_of word) (λ by.
    mapped_ok (λ text. lines.Ask (question_of by text)) (token_of text))

abbrev pub place_asked : List ℕ → List ℕ → List ℕ → Result PanelLine LineWhy
place_asked word magazine slot =
    then_ok (literal_of (codes "place") word) (λ place. then_ok (token_of magazine)
    (λ magazine.
    mapped_ok (λ slot. lines.Ask (questions.Place magazine slot))
    (number_in 0 999999999 slot)))

abbrev pub ask_of : List (List ℕ) → Result PanelLine LineWhy
ask_of (word ∷ text ∷ []) = text_asked word text
ask_of (word ∷ magazine ∷ slot ∷ []) = place_asked word magazine slot
ask_of _ = Err whys.WrongCount

-- THE TABLE: `insert [barcode]`, `query barcode`, `ask barcode|order w`, `ask place w s`, `remove
-- id`, `replace id`, `mark id quality`, `sub id pos barcode`, `hold side`, `go side`, `fault side`,
-- `sense side event`, `signal ready|available|failed on|off`, `connect`, `shutdown`, `tick`, `forecast`, `show`, `end`
abbrev pub asked_of_connections : List ℕ → List (List ℕ) → Result PanelLine LineWhy
asked_of_connections first words =
    if bytes_eq first (codes "connect") then bare lines.Connect words else
    (if bytes_eq first (codes "shutdown") then bare lines.Shutdown words else
    (if bytes_eq first (codes "tick") then bare lines.Tick words else
    (if bytes_eq first (codes "forecast") then bare lines.Forecast words else
    (if bytes_eq first (codes "show") then bare lines.Show words else
    (if bytes_eq first (codes "end") then bare lines.End words else Err whys.UnknownWord)))))

abbrev pub asked_of_sides : List ℕ → List (List ℕ) → Result PanelLine LineWhy
asked_of_sides first words =
    if bytes_eq first (codes "hold") then with_side lines.Hold words else
    (if bytes_eq first (codes "go") then with_side lines.Go words else
    (if bytes_eq first (codes "fault") then with_side lines.Fault words else
    (if bytes_eq first (codes "sense") then sense_of words else
    (if bytes_eq first
    (codes "signal") then signal_of words else asked_of_connections first words))))

abbrev pub asked_of : List ℕ → List (List ℕ) → Result PanelLine LineWhy
asked_of first words =
    if bytes_eq first (codes "insert") then insert_of words else
    (if bytes_eq first (codes "query") then query_of words else
    (if bytes_eq first (codes "ask") then ask_of words else
    (if bytes_eq first (codes "remove") then with_id lines.Remove words else
    (if bytes_eq first (codes "replace") then with_id lines.Replace words else
    (if bytes_eq first (codes "mark") then mark_of words else
    (if bytes_eq first (codes "sub") then sub_of words else asked_of_sides first words))))))

-- a line whose first word begins with `#` is a comment
abbrev pub is_comment : List ℕ → Bool
is_comment [] = false
is_comment (b ∷ bs) = b == 35

abbrev pub panel_line_of_words : List (List ℕ) → Result PanelLine LineWhy
panel_line_of_words [] = Ok lines.Blank
panel_line_of_words (first ∷ words) =
    if is_comment first then Ok lines.Blank else asked_of first words

-- what the bytes of one line ask for, or why they are refused: the first refusal that holds
abbrev pub panel_line_of : List ℕ → Result PanelLine LineWhy
panel_line_of bytes =
    if nat_lt 4096 (length bytes) then Err whys.LongLine else
    (if list_all is_text_byte bytes then panel_line_of_words
    (words_of bytes) else Err whys.NotText)

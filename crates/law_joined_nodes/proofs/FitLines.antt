-- THE INPUT OF EACH LINE OF THE PANEL IS FIT: a barcode is a text, and a circuit's place has at most nine digits.
use Rattle.std.proofs.Common.{Bool, List, None, Ok, Option, Err, Result, Some, [], arith, codes, false, length, refl, true, ℕ, ◌&&◌, ◌∷◌, ◌≡◌, ◌≤◌, if◌then◌else◌, nat_lt}
use Rattle.std.specs.Prelude.{nat_le}
use Rattle.std.proofs.lemmas.Bool.{and_parts, leb-true}
use Rattle.std.specs.List.{list_all}
use Rattle.std.specs.Str.{bytes_eq}
use Rattle.line_base.specs.Number.{is_digits, value_of}
use Rattle.line_base.specs.Results.{mapped_ok, then_ok}
use Rattle.line_base.specs.Text.{IsText}
use Rattle.line_base.specs.declared.states.Side.{Side}
use Rattle.hermes_vertical.specs.declared.message.Question.TheVariants as questions
use Rattle.law_link_messages.specs.Fit.{IsFitInput, IsTextIf}
use Rattle.line_script.specs.Words.{asked_by_of, barcode_from, barcode_of, is_text_byte, literal_of, number_between, number_in, question_of, segment_line_of, switch_of, token_of, words_of}
use Rattle.line_script.specs.declared.line.LineWhy.{LineWhy}
use Rattle.line_script.specs.declared.line.LineWhy.TheVariants as whys
use Rattle.line_script.proofs.Tokens.{IsAllowed-from_text}
use Rattle.node_panel.specs.Panel.{ask_of, asked_of, asked_of_connections, asked_of_sides, bare, event_of, id_of, insert_of, is_comment, made_sense, mark_of, panel_line_of, panel_line_of_words, quality_of, query_of, sense_of, side_of, signal_of, sub_of, with_id, with_side}
use Rattle.node_panel.specs.declared.line.PanelLine.{PanelLine}
use Rattle.node_panel.specs.declared.line.PanelLine.TheVariants as lines
use Rattle.node_panel.specs.Inputs.{input_of}

-- ---- words

abbrev TokenOk : Result (List ℕ) LineWhy → Type 0
TokenOk (Ok word) = IsText word
TokenOk (Err why) = Unit {0}

abbrev CodeOk : Result (Option (List ℕ)) LineWhy → Type 0
CodeOk (Ok barcode) = IsTextIf barcode
CodeOk (Err why) = Unit {0}

abbrev PlaceOk : Result ℕ LineWhy → Type 0
PlaceOk (Ok place) = place ≤ 999_999_999
PlaceOk (Err why) = Unit {0}

token_by : (word : List ℕ) (test : Bool) → (nat_le (length word) 64 && list_all is_text_byte word) ≡ test → TokenOk (if test then Ok word else Err whys.BadWord)
token_by word true is =
    let parts = and_parts (nat_le (length word) 64) (list_all is_text_byte word) is in
    let few : length word ≤ 64 = leb-true (length word) 64 parts.0 in
    record { short = omega (arith, few); allowed = IsAllowed-from_text word parts.1 }
token_by word false is = tt

token_fit : (word : List ℕ) → TokenOk (token_of word)
token_fit word = token_by word (nat_le (length word) 64 && list_all is_text_byte word) refl

barcode_by : (word : List ℕ) (none : Bool) → IsText word → IsTextIf (if none then None else Some word)
barcode_by word true is = tt
barcode_by word false is = is

code_by : (found : Result (List ℕ) LineWhy) → TokenOk found → CodeOk (barcode_from found)
code_by (Ok word) is = barcode_by word (bytes_eq word (codes "-")) is
code_by (Err why) is = tt

place_by : (value : ℕ) (test : Bool) → (nat_le 0 value && nat_le value 999999999) ≡ test → PlaceOk (if test then Ok value else Err whys.BadNumber)
place_by value true is = leb-true value 999999999 (and_parts (nat_le 0 value) (nat_le value 999999999) is).1
place_by value false is = tt

place_in : (word : List ℕ) (digits : Bool) → PlaceOk (if digits then number_between 0 999999999 (value_of word) else Err whys.BadNumber)
place_in word true = place_by (value_of word) (nat_le 0 (value_of word) && nat_le (value_of word) 999999999) refl
place_in word false = tt

place_fit : (word : List ℕ) → PlaceOk (number_in 0 999999999 word)
place_fit word = place_in word (is_digits 1 15 word)

-- ---- forms

abbrev pub FitOk : Result PanelLine LineWhy → Type 0
FitOk (Ok line) = IsFitInput (input_of line)
FitOk (Err why) = Unit {0}

either_fit : (test : Bool) (a b : Result PanelLine LineWhy) → FitOk a → FitOk b → FitOk (if test then a else b)
either_fit true a b one other = one
either_fit false a b one other = other

mapped_fit : {A : Type 0} (f : A → PanelLine) (found : Result A LineWhy) → ((a : A) → FitOk (Ok (f a))) → FitOk (mapped_ok f found)
mapped_fit f (Ok a) fit = fit a
mapped_fit f (Err why) fit = tt

then_fit : {A : Type 0} (found : Result A LineWhy) (next : A → Result PanelLine LineWhy) → ((a : A) → FitOk (next a)) → FitOk (then_ok found next)
then_fit (Ok a) next fit = fit a
then_fit (Err why) next fit = tt

token_line : (f : List ℕ → PanelLine) (found : Result (List ℕ) LineWhy) → TokenOk found → ((word : List ℕ) → IsText word → FitOk (Ok (f word))) → FitOk (mapped_ok f found)
token_line f (Ok word) is fit = fit word is
token_line f (Err why) is fit = tt

bare_fit : (line : PanelLine) (words : List (List ℕ)) → FitOk (Ok line) → FitOk (bare line words)
bare_fit line [] fit = fit
bare_fit line (word ∷ words) fit = tt

id_fit : (line : ℕ → PanelLine) (words : List (List ℕ)) → ((id : ℕ) → FitOk (Ok (line id))) → FitOk (with_id line words)
id_fit line [] fit = tt
id_fit line (id ∷ []) fit = mapped_fit line (id_of id) fit
id_fit line (id ∷ other ∷ words) fit = tt

side_fit : (line : Side → PanelLine) (words : List (List ℕ)) → ((side : Side) → FitOk (Ok (line side))) → FitOk (with_side line words)
side_fit line [] fit = tt
side_fit line (side ∷ []) fit = mapped_fit line (side_of side) fit
side_fit line (side ∷ other ∷ words) fit = tt

insert_fit : (words : List (List ℕ)) → FitOk (insert_of words)
insert_fit [] = tt
insert_fit (barcode ∷ []) = token_line (λ text. lines.Insert (Some text)) (token_of barcode) (token_fit barcode) (λ word is. is)
insert_fit (barcode ∷ other ∷ words) = tt

query_fit : (words : List (List ℕ)) → FitOk (query_of words)
query_fit [] = tt
query_fit (barcode ∷ []) = token_line lines.Query (token_of barcode) (token_fit barcode) (λ word is. is)
query_fit (barcode ∷ other ∷ words) = tt

ask_fit : (words : List (List ℕ)) → FitOk (ask_of words)
ask_fit [] = tt
ask_fit (word ∷ []) = tt
ask_fit (word ∷ text ∷ []) = then_fit (asked_by_of word) (λ by. mapped_ok (λ text. lines.Ask (question_of by text)) (token_of text)) (λ by. mapped_fit (λ text. lines.Ask (question_of by text)) (token_of text) (λ text. tt))
ask_fit (word ∷ magazine ∷ slot ∷ []) =
    then_fit (literal_of (codes "place") word) (λ place. then_ok (token_of magazine) (λ magazine. mapped_ok (λ slot. lines.Ask (questions.Place magazine slot)) (number_in 0 999999999 slot)))
    (λ place. then_fit (token_of magazine) (λ magazine. mapped_ok (λ slot. lines.Ask (questions.Place magazine slot)) (number_in 0 999999999 slot))
    (λ magazine. mapped_fit (λ slot. lines.Ask (questions.Place magazine slot)) (number_in 0 999999999 slot) (λ slot. tt)))
ask_fit (word ∷ magazine ∷ slot ∷ other ∷ words) = tt

mark_fit : (words : List (List ℕ)) → FitOk (mark_of words)
mark_fit [] = tt
mark_fit (id ∷ []) = tt
mark_fit (id ∷ quality ∷ []) = then_fit (id_of id) (λ id. mapped_ok (lines.Mark id) (quality_of quality)) (λ id. mapped_fit (lines.Mark id) (quality_of quality) (λ quality. tt))
mark_fit (id ∷ quality ∷ other ∷ words) = tt

sub_code : (id place : ℕ) (found : Result (Option (List ℕ)) LineWhy) → place ≤ 999_999_999 → CodeOk found → FitOk (mapped_ok (lines.Sub id place) found)
sub_code id place (Ok barcode) small is = (small, is)
sub_code id place (Err why) small is = tt

sub_place : (id : ℕ) (found : Result ℕ LineWhy) (barcode : List ℕ) → PlaceOk found → FitOk (then_ok found (λ place. mapped_ok (lines.Sub id place) (barcode_of barcode)))
sub_place id (Ok place) barcode small = sub_code id place (barcode_of barcode) small (code_by (token_of barcode) (token_fit barcode))
sub_place id (Err why) barcode small = tt

sub_fit : (words : List (List ℕ)) → FitOk (sub_of words)
sub_fit [] = tt
sub_fit (id ∷ []) = tt
sub_fit (id ∷ place ∷ []) = tt
sub_fit (id ∷ place ∷ barcode ∷ []) =
    then_fit (id_of id) (λ id. then_ok (number_in 0 999999999 place) (λ place. mapped_ok (lines.Sub id place) (barcode_of barcode)))
    (λ id. sub_place id (number_in 0 999999999 place) barcode (place_fit place))
sub_fit (id ∷ place ∷ barcode ∷ other ∷ words) = tt

sense_fit : (words : List (List ℕ)) → FitOk (sense_of words)
sense_fit [] = tt
sense_fit (side ∷ []) = tt
sense_fit (side ∷ event ∷ []) = then_fit (side_of side) (λ side. mapped_ok (made_sense side) (event_of side event)) (λ side. mapped_fit (made_sense side) (event_of side event) (λ event. tt))
sense_fit (side ∷ event ∷ other ∷ words) = tt

signal_fit : (words : List (List ℕ)) → FitOk (signal_of words)
signal_fit [] = tt
signal_fit (line ∷ []) = tt
signal_fit (line ∷ on ∷ []) = then_fit (segment_line_of line) (λ line. mapped_ok (lines.Signal line) (switch_of on)) (λ line. mapped_fit (lines.Signal line) (switch_of on) (λ on. tt))
signal_fit (line ∷ on ∷ other ∷ words) = tt

-- ---- the table

connections_fit : (first : List ℕ) (words : List (List ℕ)) → FitOk (asked_of_connections first words)
connections_fit first words =
    either_fit (bytes_eq first (codes "connect")) _ _ (bare_fit lines.Connect words tt)
    (either_fit (bytes_eq first (codes "shutdown")) _ _ (bare_fit lines.Shutdown words tt)
    (either_fit (bytes_eq first (codes "tick")) _ _ (bare_fit lines.Tick words tt)
    (either_fit (bytes_eq first (codes "forecast")) _ _ (bare_fit lines.Forecast words tt)
    (either_fit (bytes_eq first (codes "show")) _ _ (bare_fit lines.Show words tt)
    (either_fit (bytes_eq first (codes "end")) _ (Err whys.UnknownWord) (bare_fit lines.End words tt) tt)))))

sides_fit : (first : List ℕ) (words : List (List ℕ)) → FitOk (asked_of_sides first words)
sides_fit first words =
    either_fit (bytes_eq first (codes "hold")) _ _ (side_fit lines.Hold words (λ side. tt))
    (either_fit (bytes_eq first (codes "go")) _ _ (side_fit lines.Go words (λ side. tt))
    (either_fit (bytes_eq first (codes "fault")) _ _ (side_fit lines.Fault words (λ side. tt))
    (either_fit (bytes_eq first (codes "sense")) _ _ (sense_fit words)
    (either_fit (bytes_eq first (codes "signal")) _ _ (signal_fit words) (connections_fit first words)))))

words_fit : (first : List ℕ) (words : List (List ℕ)) → FitOk (asked_of first words)
words_fit first words =
    either_fit (bytes_eq first (codes "insert")) _ _ (insert_fit words)
    (either_fit (bytes_eq first (codes "query")) _ _ (query_fit words)
    (either_fit (bytes_eq first (codes "ask")) _ _ (ask_fit words)
    (either_fit (bytes_eq first (codes "remove")) _ _ (id_fit lines.Remove words (λ id. tt))
    (either_fit (bytes_eq first (codes "replace")) _ _ (id_fit lines.Replace words (λ id. tt))
    (either_fit (bytes_eq first (codes "mark")) _ _ (mark_fit words)
    (either_fit (bytes_eq first (codes "sub")) _ _ (sub_fit words) (sides_fit first words)))))))

all_fit : (words : List (List ℕ)) → FitOk (panel_line_of_words words)
all_fit [] = tt
all_fit (first ∷ words) = either_fit (is_comment first) (Ok lines.Blank) (asked_of first words) tt (words_fit first words)

pub line_fit : (bytes : List ℕ) → FitOk (panel_line_of bytes)
line_fit bytes =
    either_fit (nat_lt 4096 (length bytes)) (Err whys.LongLine) _ tt
    (either_fit (list_all is_text_byte bytes) (panel_line_of_words (words_of bytes)) (Err whys.NotText) (all_fit (words_of bytes)) tt)

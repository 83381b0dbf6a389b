-- Each script that is read fits the laws: its texts are texts, and it has at most 1,000,000 lines.
use Rattle.std.proofs.Common.{Bool, List, [], arith, false, length, refl, true, ℕ, ◌&&◌, ◌+◌, ◌∷◌, ◌≡◌, ◌≤◌, sym}
use Rattle.std.proofs.lemmas.Bool.Decides.{nat_tests}
use Rattle.std.specs.Prelude.{Err, None, Ok, Result, Some, if◌then◌else◌, nat_eq, nat_le, nat_lt}
use Rattle.std.proofs.lemmas.Bool.{and_parts, leb-true}
use Rattle.line_base.specs.Number.{is_digits, value_of}
use Rattle.std.specs.List.{AllByRecursion, list_all, list_any}
use Rattle.std.specs.Str.{bytes_eq}
use Rattle.std.specs.Str.Lines.{lines as lines_in}
use Rattle.line_base.specs.declared.states.SensorEvent.{SensorEvent}
use Rattle.line_base.specs.declared.states.Side.{Side}
use Rattle.line_base.specs.Text.{IsText}
use Rattle.hermes_vertical.specs.declared.message.Question.TheVariants as questions
use Rattle.line_script.specs.Grammar.{Form, Kind, Value, arguments_as, asked_by, board, coded, forms, graded, is_comment, is_seen_at, lie_of, line_among, line_as, line_of_words, mapped_ok, numeral, placed, read_of, seen, sided, signalled, spelled, switched, then_ok}
use Rattle.line_script.specs.Grammar as grammar
use Rattle.line_script.specs.Words.{is_text_byte, number_in, question_of, words_of}
use Rattle.line_script.specs.declared.line.LaneLine.{LaneLine}
use Rattle.line_script.specs.declared.line.LineWhy.{LineWhy}
use Rattle.line_script.specs.declared.line.LineWhy.TheVariants as whys
use Rattle.line_script.specs.declared.line.ScriptLine.TheVariants as lines
use Rattle.line_script.specs.declared.words.AskedBy.{AskedBy}
use Rattle.line_script.specs.declared.words.AskedBy.TheVariants as bys
use Rattle.line_script.proofs.Said.{SayAll, SayAllOk, arguments_say}
use Rattle.line_commands.specs.Premises.{ScriptsAreFit}
use Rattle.line_commands.specs.Script.{Script, before_all, either, meaning_at, refused_at, script_from, script_of}
use Rattle.law_lanes.specs.Along.{IsFitLaneLine}
use Rattle.law_one_standing.specs.Standing.{IsFitLine}

-- an answer is a refusal, or a line whose texts are texts
abbrev Fit : Result LaneLine LineWhy → Type 0
Fit (Ok line) = IsFitLaneLine line
Fit (Err why) = Unit {0}

-- ---- each form

made_machine : (values : List Value) → Fit (grammar.made_machine values)
made_machine (numeral capacity ∷ []) = omega arith
made_machine (numeral capacity ∷ spelled used ∷ numeral count ∷ []) = omega arith
made_machine _ = tt

made_bridge : (values : List Value) → Fit (grammar.made_bridge values)
made_bridge (numeral capacity ∷ []) = omega arith
made_bridge (numeral capacity ∷ spelled used ∷ numeral count ∷ []) = omega arith
made_bridge _ = tt

made_remove : (values : List Value) → Fit (grammar.made_remove values)
made_remove (placed machine lane ∷ board id ∷ []) = tt
made_remove _ = tt

made_replace : (values : List Value) → Fit (grammar.made_replace values)
made_replace (placed machine lane ∷ board id ∷ []) = tt
made_replace _ = tt

made_mark : (values : List Value) → Fit (grammar.made_mark values)
made_mark (placed machine lane ∷ board id ∷ graded quality ∷ []) = tt
made_mark _ = tt

made_hold : (values : List Value) → Fit (grammar.made_hold values)
made_hold (placed machine lane ∷ sided side ∷ []) = tt
made_hold _ = tt

made_go : (values : List Value) → Fit (grammar.made_go values)
made_go (placed machine lane ∷ sided side ∷ []) = tt
made_go _ = tt

made_signal : (values : List Value) → Fit (grammar.made_signal values)
made_signal (placed machine lane ∷ signalled line ∷ switched on ∷ []) = tt
made_signal _ = tt

made_connect : (values : List Value) → Fit (grammar.made_connect values)
made_connect (placed machine lane ∷ []) = tt
made_connect _ = tt

made_flow : (values : List Value) → Fit (grammar.made_flow values)
made_flow (placed machine lane ∷ sided side ∷ []) = tt
made_flow (placed machine lane ∷ sided side ∷ numeral count ∷ []) = tt
made_flow _ = tt

made_notice : (values : List Value) → Fit (grammar.made_notice values)
made_notice (placed machine lane ∷ sided side ∷ []) = tt
made_notice _ = tt

made_cut : (values : List Value) → Fit (grammar.made_cut values)
made_cut (placed gap lane ∷ []) = tt
made_cut _ = tt

made_spoil : (values : List Value) → Fit (grammar.made_spoil values)
made_spoil (placed machine lane ∷ sided side ∷ []) = tt
made_spoil _ = tt

made_forecast : (values : List Value) → Fit (grammar.made_forecast values)
made_forecast (placed machine lane ∷ []) = tt
made_forecast _ = tt

made_shutdown : (values : List Value) → Fit (grammar.made_shutdown values)
made_shutdown (placed machine lane ∷ []) = tt
made_shutdown _ = tt

made_stop : (values : List Value) → Fit (grammar.made_stop values)
made_stop (numeral machine ∷ []) = tt
made_stop _ = tt

made_tick : (values : List Value) → Fit (grammar.made_tick values)
made_tick (placed machine lane ∷ []) = tt
made_tick _ = tt

made_fault : (values : List Value) → Fit (grammar.made_fault values)
made_fault (placed machine lane ∷ sided side ∷ []) = tt
made_fault _ = tt

made_unseen : (values : List Value) → Fit (grammar.made_unseen values)
made_unseen (sided side ∷ placed machine lane ∷ []) = tt
made_unseen _ = tt

made_sense : (values : List Value) → Fit (grammar.made_sense values)
made_sense (placed machine lane ∷ []) = tt
made_sense _ = tt

made_begin : (values : List Value) → Fit (grammar.made_begin values)
made_begin (placed gap lane ∷ []) = tt
made_begin _ = tt

made_left : (values : List Value) → Fit (grammar.made_left values)
made_left (placed gap lane ∷ []) = tt
made_left _ = tt

made_enter : (values : List Value) → Fit (grammar.made_enter values)
made_enter (placed gap lane ∷ []) = tt
made_enter _ = tt

made_back : (values : List Value) → Fit (grammar.made_back values)
made_back (placed gap lane ∷ []) = tt
made_back _ = tt

made_hand_in : (values : List Value) → Fit (grammar.made_hand_in values)
made_hand_in (placed gap lane ∷ []) = tt
made_hand_in _ = tt

made_take : (values : List Value) → Fit (grammar.made_take values)
made_take (placed gap lane ∷ []) = tt
made_take _ = tt

made_show : (values : List Value) → Fit (grammar.made_show values)
made_show [] = tt
made_show _ = tt

made_shift : (values : List Value) → Fit (grammar.made_shift values)
made_shift (placed machine lane ∷ numeral to ∷ board id ∷ []) = tt
made_shift _ = tt

lie_by : (lane machine : ℕ) (side : Side) (event : SensorEvent) (is_seen : Bool) → is_seen ≡ is_seen_at side event → Fit (lie_of lane machine side event)
lie_by lane machine side event true is = rw (sym is) tt
lie_by lane machine side event false is = rw (sym is) tt

made_lie : (values : List Value) → Fit (grammar.made_lie values)
made_lie (placed machine lane ∷ sided side ∷ seen event ∷ []) = lie_by lane machine side event (is_seen_at side event) refl
made_lie _ = tt

made_supervise : (values : List Value) → Fit (grammar.made_supervise values)
made_supervise (numeral machine ∷ []) = tt
made_supervise _ = tt

-- the barcode of an insertion, and that of a query, is a text
made_insert : (count : ℕ) (values : List Value) → SayAll (grammar.insert_form.arguments count) values
    → Fit (grammar.made_insert values)
made_insert count (placed machine lane ∷ []) say = tt
made_insert count (placed machine lane ∷ spelled barcode ∷ []) say = say.1.0
made_insert count _ say = tt

made_query : (count : ℕ) (values : List Value) → SayAll (grammar.query_form.arguments count) values
    → Fit (grammar.made_query values)
made_query count (placed machine lane ∷ spelled barcode ∷ []) say = say.1.0
made_query count _ say = tt

-- so is that of a circuit, where there is one, and its place has at most nine digits
made_sub : (count : ℕ) (values : List Value) → SayAll (grammar.sub_form.arguments count) values
    → Fit (grammar.made_sub values)
made_sub count (placed machine lane ∷ board id ∷ numeral place ∷ coded None ∷ []) say = (say.1.1.0, tt)
made_sub count (placed machine lane ∷ board id ∷ numeral place ∷ coded (Some barcode) ∷ []) say =
    (say.1.1.0, say.1.1.1.0)
made_sub count _ say = tt

-- a question by a text, one by a place, and an answer
text_asked : (machine : ℕ) (by : AskedBy) (text : List ℕ) → IsText text → IsFitLine (lines.Ask machine (question_of by text))
text_asked machine bys.Barcode text is = tt
text_asked machine bys.Order text is = tt

place_asked : (machine : ℕ) (magazine : List ℕ) (slot : ℕ) → IsText magazine
    → IsFitLine (lines.Ask machine (questions.Place magazine slot))
place_asked machine magazine slot is = tt

answered : (machine query : ℕ) (order : List ℕ) → IsText order → IsFitLine (lines.Answer machine query order)
answered machine query order is = tt

made_question : (place : Bool) (values : List Value)
    → SayAll (if place then grammar.slot_words else grammar.text_words) values → Fit (grammar.made_ask values)
made_question true (numeral machine ∷ asked_by by ∷ spelled text ∷ []) say = text_asked machine by text say.1.1.0
made_question false (numeral machine ∷ asked_by by ∷ spelled text ∷ []) say = text_asked machine by text say.1.1.0
made_question true (numeral machine ∷ spelled place ∷ spelled magazine ∷ numeral slot ∷ []) say =
    place_asked machine magazine slot say.1.1.0
made_question false (numeral machine ∷ spelled place ∷ spelled magazine ∷ numeral slot ∷ []) say =
    place_asked machine magazine slot say.1.1.0
made_question place _ say = tt

made_ask : (count : ℕ) (values : List Value) → SayAll (grammar.ask_form.arguments count) values
    → Fit (grammar.made_ask values)
made_ask count values say = made_question (nat_eq count 4) values say

made_answer : (count : ℕ) (values : List Value) → SayAll (grammar.answer_form.arguments count) values
    → Fit (grammar.made_answer values)
made_answer count (numeral machine ∷ numeral query ∷ spelled order ∷ []) say = answered machine query order say.1.1.0
made_answer count _ say = tt

-- ---- a form, whatever its words

abbrev FitForm : Form → Type 0
FitForm form = (words : List (List ℕ)) → Fit (line_as form words)

fit_then : (values : Result (List Value) LineWhy) (made : List Value → Result LaneLine LineWhy) → ((all : List Value) → Fit (made all)) → Fit (then_ok values made)
fit_then (Ok values) made fits = fits values
fit_then (Err why) made fits = tt

by_values : (form : Form) → ((all : List Value) → Fit (form.made all)) → FitForm form
by_values form fits words = fit_then (arguments_as form.counts (form.arguments (length words)) words) form.made fits

-- the same, where what the arguments say is needed
said_then : (kinds : List Kind) (values : Result (List Value) LineWhy) (made : List Value → Result LaneLine LineWhy)
    → ((all : List Value) → SayAll kinds all → Fit (made all)) → SayAllOk kinds values → Fit (then_ok values made)
said_then kinds (Ok values) made fits say = fits values say
said_then kinds (Err why) made fits say = tt

by_said : (form : Form)
    → ((count : ℕ) (all : List Value) → SayAll (form.arguments count) all → Fit (form.made all)) → FitForm form
by_said form fits words =
    said_then (form.arguments (length words)) (arguments_as form.counts (form.arguments (length words)) words)
    form.made (fits (length words)) (arguments_say form.counts (form.arguments (length words)) words)

-- the lanes that are set are one to four
abbrev FewLanes : Result ℕ LineWhy → Type 0
FewLanes (Ok count) = (1 ≤ count) × (count ≤ 4)
FewLanes (Err why) = Unit {0}

few_lanes : (word : List ℕ) (digits within : Bool) → digits ≡ is_digits 1 15 word → within ≡ (nat_le 1 (value_of word) && nat_le (value_of word) 4) → FewLanes (number_in 1 4 word)
few_lanes word true true digits within =
    let both = and_parts (nat_le 1 (value_of word)) (nat_le (value_of word) 4) (sym within) in
    rw (sym digits) (rw (sym within) (leb-true 1 (value_of word) both.0, leb-true (value_of word) 4 both.1))
few_lanes word true false digits within = rw (sym digits) (rw (sym within) tt)
few_lanes word false within digits is = rw (sym digits) tt

made_lanes : (read : Result ℕ LineWhy) → FewLanes read → Fit (then_ok (then_ok (mapped_ok numeral read) (λ value. mapped_ok (λ values. value ∷ values) (Ok []))) grammar.made_lanes)
made_lanes (Ok count) few = few
made_lanes (Err why) few = tt

many_words : (may : Bool) (read : Result Value LineWhy)
    → Fit (then_ok (if may then then_ok read (λ value. mapped_ok (λ (values : List Value). value ∷ values) (Err whys.WrongCount)) else Err whys.WrongCount) grammar.made_lanes)
many_words true (Ok value) = tt
many_words true (Err why) = tt
many_words false read = tt

lanes_fit : FitForm grammar.lanes_form
lanes_fit [] = tt
lanes_fit (word ∷ []) = made_lanes (number_in 1 4 word) (few_lanes word (is_digits 1 15 word) (nat_le 1 (value_of word) && nat_le (value_of word) 4) refl refl)
lanes_fit (word ∷ other ∷ words) = many_words (list_any (nat_eq (length (word ∷ other ∷ words))) (1 ∷ [])) (grammar.value_as grammar.lane_number word)

-- ---- all forms

abbrev AllFit : List Form → Type 0
AllFit rows = AllByRecursion FitForm rows

among_by : (form : Form) (rows : List Form) (first : List ℕ) (words : List (List ℕ)) (is : Bool) → is ≡ bytes_eq first form.word → Fit (line_as form words) → Fit (line_among rows first words) → Fit (line_among (form ∷ rows) first words)
among_by form rows first words true is this others = rw (sym is) this
among_by form rows first words false is this others = rw (sym is) others

among : (rows : List Form) (first : List ℕ) (words : List (List ℕ)) → AllFit rows → Fit (line_among rows first words)
among [] first words all = tt
among (form ∷ rows) first words all = among_by form rows first words (bytes_eq first form.word) refl (all.0 words) (among rows first words all.1)

whole_fit : AllFit grammar.whole_forms
whole_fit = (
  lanes_fit,
  (by_values grammar.show_form made_show, tt),
)

floor_fit : AllFit grammar.floor_forms
floor_fit = (
  by_values grammar.sense_form made_sense,
  (
    by_values grammar.begin_form made_begin,
    (
      by_values grammar.left_form made_left,
      (
        by_values grammar.enter_form made_enter,
        (
          by_values grammar.back_form made_back,
          (
            by_values grammar.hand_in_form made_hand_in,
            (by_values grammar.take_form made_take, whole_fit),
          ),
        ),
      ),
    ),
  ),
)

machine_fit : AllFit grammar.machine_forms
machine_fit = (
  by_values grammar.shutdown_form made_shutdown,
  (
    by_values grammar.stop_form made_stop,
    (
      by_values grammar.tick_form made_tick,
      (
        by_values grammar.fault_form made_fault,
        (
          by_values grammar.lie_form made_lie,
          (by_values grammar.unseen_form made_unseen, floor_fit),
        ),
      ),
    ),
  ),
)

link_fit : AllFit grammar.link_forms
link_fit = (
  by_values grammar.connect_form made_connect,
  (
    by_values grammar.flow_form made_flow,
    (
      by_values grammar.notice_form made_notice,
      (
        by_values grammar.cut_form made_cut,
        (
          by_values grammar.spoil_form made_spoil,
          (
            by_values grammar.forecast_form made_forecast,
            (by_values grammar.supervise_form made_supervise, machine_fit),
          ),
        ),
      ),
    ),
  ),
)

board_fit : AllFit grammar.board_forms
board_fit = (
  by_values grammar.remove_form made_remove,
  (
    by_values grammar.replace_form made_replace,
    (
      by_values grammar.shift_form made_shift,
      (
        by_values grammar.mark_form made_mark,
        (
          by_values grammar.hold_form made_hold,
          (
            by_values grammar.go_form made_go,
            (by_values grammar.signal_form made_signal, link_fit),
          ),
        ),
      ),
    ),
  ),
)

all_fit : AllFit forms
all_fit = (
  by_values grammar.machine_form made_machine,
  (
    by_values grammar.bridge_form made_bridge,
    (
      by_said grammar.insert_form made_insert,
      (
        by_said grammar.query_form made_query,
        (
          by_said grammar.ask_form made_ask,
          (
            by_said grammar.answer_form made_answer,
            (by_said grammar.sub_form made_sub, board_fit),
          ),
        ),
      ),
    ),
  ),
)

comment_by : (first : List ℕ) (words : List (List ℕ)) (is : Bool) → is ≡ is_comment first → Fit (line_of_words (first ∷ words))
comment_by first words true is = rw (sym is) tt
comment_by first words false is = rw (sym is) (among forms first words all_fit)

fit_words : (words : List (List ℕ)) → Fit (line_of_words words)
fit_words [] = tt
fit_words (first ∷ words) = comment_by first words (is_comment first) refl

text_by : (bytes : List ℕ) (text : Bool) → text ≡ list_all is_text_byte bytes → Fit (if list_all is_text_byte bytes then line_of_words (words_of bytes) else Err whys.NotText)
text_by bytes true is = rw (sym is) (fit_words (words_of bytes))
text_by bytes false is = rw (sym is) tt

-- ---- a script

meaning_by : (number : ℕ) (line : List ℕ) (long many : Bool) → long ≡ nat_lt 4096 (length line) → many ≡ nat_lt 1000000 number → Fit (meaning_at number line)
meaning_by number line true many long is = rw (sym long) tt
meaning_by number line false true long is = rw (sym long) (rw (sym is) tt)
meaning_by number line false false long is = rw (sym long) (rw (sym is) (text_by line (list_all is_text_byte line) refl))

-- a line that is not refused has a number that a script may have
few_of : (long many : Bool) (read : Result LaneLine LineWhy) (asked : LaneLine) → (if long then Err whys.LongLine else (if many then Err whys.TooManyLines else read)) ≡ Ok asked → many ≡ false
few_of true many read asked answer = cc
few_of false true read asked answer = cc
few_of false false read asked answer = refl

few_at : (number : ℕ) (line : List ℕ) (asked : LaneLine) → meaning_at number line ≡ Ok asked → number ≤ 1000000
few_at number line asked answer =
    let few : nat_lt 1000000 number ≡ false = few_of (nat_lt 4096 (length line)) (nat_lt 1000000 number) (read_of line) asked answer in
    grind (arith, nat_tests)

abbrev FitFrom : ℕ → Script → Type 0
FitFrom done script = AllByRecursion IsFitLaneLine script.lines × (done + length script.lines ≤ 1000000)

from_by : (done : ℕ) (line : List ℕ) (others : List (List ℕ)) (answer : Result LaneLine LineWhy) → answer ≡ meaning_at (done + 1) line → Fit answer → done ≤ 1000000 → (done + 1 ≤ 1000000 → FitFrom (done + 1) (script_from (done + 1) others)) → FitFrom done (either answer (λ asked. before_all asked (script_from (done + 1) others)) (λ why. refused_at (done + 1) why))
from_by done line others (Ok asked) is fit small later =
    let rest : FitFrom (done + 1) (script_from (done + 1) others) = later (few_at (done + 1) line asked (sym is)) in
    ((fit, rest.0), omega (arith, rest.1))
from_by done line others (Err why) is fit small later = (tt, omega (arith, small))

from : (done : ℕ) (lines_left : List (List ℕ)) → done ≤ 1000000 → FitFrom done (script_from done lines_left)
from done [] small = (tt, omega (arith, small))
from done (line ∷ others) small = from_by done line others (meaning_at (done + 1) line) refl (meaning_by (done + 1) line (nat_lt 4096 (length line)) (nat_lt 1000000 (done + 1)) refl refl) small (λ next. from (done + 1) others next)

-- WHATEVER BYTES A SCRIPT IS READ FROM
pub scripts_are_fit : ScriptsAreFit
scripts_are_fit bytes =
    let all : FitFrom 0 (script_of bytes) = from 0 (lines_in bytes) (omega (arith)) in
    record { fit = all.0; few = omega (arith, all.1) }

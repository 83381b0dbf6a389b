use Rattle.std.specs.Prelude.{◌==◌, ℕ, Bool, true, false, List, [], ◌∷◌, Option, Some, None, Result, Ok, Err, codes, length, nat_lt, nat_eq, if◌then◌else◌}
use Rattle.std.specs.List.{list_all, list_any}
use Rattle.std.specs.Str.{bytes_eq}
use Rattle.line_base.specs.declared.states.Quality.{Quality}
use Rattle.line_base.specs.declared.states.SensorEvent.{SensorEvent}
use Rattle.line_base.specs.declared.states.SensorEvent.TheVariants as events
use Rattle.line_base.specs.declared.states.Side.{Side}
use Rattle.line_base.specs.declared.states.Side.TheVariants as sides
use Rattle.hermes_vertical.specs.declared.message.Question.TheVariants as questions
use Rattle.smema_bridge.specs.declared.line.SegmentLine.{SegmentLine}
use Rattle.line_script.specs.Words.{words_of, is_text_byte, number_in, literal_of, identity_of, token_of, side_of, quality_of, event_of, segment_line_of, switch_of, asked_by_of, question_of, barcode_of, place_of}
use Rattle.line_script.specs.declared.words.AskedBy.{AskedBy}
use Rattle.line_script.specs.declared.line.LaneLine.{LaneLine}
use Rattle.line_script.specs.declared.line.LaneLine.TheVariants as lane_lines
use Rattle.line_script.specs.declared.line.LineWhy.{LineWhy}
use Rattle.line_script.specs.declared.line.LineWhy.TheVariants as whys
use Rattle.line_script.specs.declared.line.ScriptLine.{ScriptLine}
use Rattle.line_script.specs.declared.line.ScriptLine.TheVariants as lines

-- the kinds of arguments: a number between two bounds, a place word, whose number is so much at
-- most, a board's id, one fixed word, a text word, a side of a machine, a quality, a sensor event,
-- a signal of a segment, on or off, what a work order is asked for by, a barcode or none
pub data Kind : Type 0 where
  number : ℕ → ℕ → Kind
  place_number : ℕ → Kind
  identity : Kind
  literal : List ℕ → Kind
  token : Kind
  side_word : Kind
  quality_word : Kind
  event_word : Kind
  segment_word : Kind
  switch_word : Kind
  asked_by_word : Kind
  barcode_word : Kind

-- what an argument says; a place word a number and a lane
pub data Value : Type 0 where
  numeral : ℕ → Value
  placed : ℕ → ℕ → Value
  board : ℕ → Value
  spelled : List ℕ → Value
  sided : Side → Value
  graded : Quality → Value
  seen : SensorEvent → Value
  signalled : SegmentLine → Value
  switched : Bool → Value
  asked_by : AskedBy → Value
  coded : Option (List ℕ) → Value

-- a form of line: its first word, how many arguments it may have, their kinds where there are so
-- many, and the line that their values make, or why they make none
pub record Form : Type 0 where
  pub word : List ℕ
  pub counts : List ℕ
  pub arguments : ℕ → List Kind
  pub made : List Value → Result LaneLine LineWhy

-- machines are numbered 1 to 64
abbrev pub machine_number : Kind
machine_number = number 1 64

abbrev pub machine_place : Kind
machine_place = place_number 64

-- gap k, between the machines k and k + 1, is numbered 1 to 63
abbrev pub gap_place : Kind
gap_place = place_number 63

-- the lanes of a line are numbered 1 to 4
abbrev pub lane_number : Kind
lane_number = number 1 4

-- a line of this lane. What names no lane is of lane 1
abbrev pub on_lane : ℕ → ScriptLine → Result LaneLine LineWhy
on_lane lane line = Ok (lane_lines.On lane line)

-- a machine with room for so many boards, that has made no id or so many
abbrev pub made_room : (ℕ → ℕ → ScriptLine) → List Value → Result LaneLine LineWhy
made_room line (numeral capacity ∷ []) = on_lane 1 (line capacity 0)
made_room line (numeral capacity ∷ spelled used ∷ numeral count ∷ []) =
    on_lane 1 (line capacity count)
made_room line _ = Err whys.WrongCount

abbrev pub made_machine : List Value → Result LaneLine LineWhy
made_machine = made_room lines.Machine

abbrev pub made_bridge : List Value → Result LaneLine LineWhy
made_bridge = made_room lines.Bridge

abbrev pub made_insert : List Value → Result LaneLine LineWhy
made_insert (placed machine lane ∷ []) = on_lane lane (lines.Insert machine None)
made_insert (placed machine lane ∷ spelled barcode ∷ []) =
    on_lane lane (lines.Insert machine (Some barcode))
made_insert _ = Err whys.WrongCount

abbrev pub made_remove : List Value → Result LaneLine LineWhy
made_remove (placed machine lane ∷ board id ∷ []) = on_lane lane (lines.Remove machine id)
made_remove _ = Err whys.WrongCount

abbrev pub made_replace : List Value → Result LaneLine LineWhy
made_replace (placed machine lane ∷ board id ∷ []) = on_lane lane (lines.Replace machine id)
made_replace _ = Err whys.WrongCount

abbrev pub made_mark : List Value → Result LaneLine LineWhy
made_mark (placed machine lane ∷ board id ∷ graded quality ∷ []) =
    on_lane lane (lines.Mark machine id quality)
made_mark _ = Err whys.WrongCount

abbrev pub made_sub : List Value → Result LaneLine LineWhy
made_sub (placed machine lane ∷ board id ∷ numeral pos ∷ coded barcode ∷ []) =
    on_lane lane (lines.Sub machine id pos barcode)
made_sub _ = Err whys.WrongCount

abbrev pub made_hold : List Value → Result LaneLine LineWhy
made_hold (placed machine lane ∷ sided side ∷ []) = on_lane lane (lines.Hold machine side)
made_hold _ = Err whys.WrongCount

abbrev pub made_go : List Value → Result LaneLine LineWhy
made_go (placed machine lane ∷ sided side ∷ []) = on_lane lane (lines.Go machine side)
made_go _ = Err whys.WrongCount

abbrev pub made_signal : List Value → Result LaneLine LineWhy
made_signal (placed machine lane ∷ signalled line ∷ switched on ∷ []) =
    on_lane lane (lines.Signal machine line on)
made_signal _ = Err whys.WrongCount

abbrev pub made_connect : List Value → Result LaneLine LineWhy
made_connect (placed machine lane ∷ []) = on_lane lane (lines.Connect machine)
made_connect _ = Err whys.WrongCount

abbrev pub made_flow : List Value → Result LaneLine LineWhy
made_flow (placed machine lane ∷ sided side ∷ []) = on_lane lane (lines.Flow machine side None)
made_flow (placed machine lane ∷ sided side ∷ numeral count ∷ []) =
    on_lane lane (lines.Flow machine side (Some count))
made_flow _ = Err whys.WrongCount

abbrev pub made_notice : List Value → Result LaneLine LineWhy
made_notice (placed machine lane ∷ sided side ∷ []) = on_lane lane (lines.Notice machine side)
made_notice _ = Err whys.WrongCount

abbrev pub made_cut : List Value → Result LaneLine LineWhy
made_cut (placed gap lane ∷ []) = on_lane lane (lines.Cut gap)
made_cut _ = Err whys.WrongCount

abbrev pub made_spoil : List Value → Result LaneLine LineWhy
made_spoil (placed machine lane ∷ sided side ∷ []) = on_lane lane (lines.Spoil machine side)
made_spoil _ = Err whys.WrongCount

abbrev pub made_shutdown : List Value → Result LaneLine LineWhy
made_shutdown (placed machine lane ∷ []) = on_lane lane (lines.Shutdown machine)
made_shutdown _ = Err whys.WrongCount

abbrev pub made_stop : List Value → Result LaneLine LineWhy
made_stop (numeral machine ∷ []) = on_lane 1 (lines.Stop machine)
made_stop _ = Err whys.WrongCount

abbrev pub made_tick : List Value → Result LaneLine LineWhy
made_tick (placed machine lane ∷ []) = on_lane lane (lines.Tick machine)
made_tick _ = Err whys.WrongCount

abbrev pub made_fault : List Value → Result LaneLine LineWhy
made_fault (placed machine lane ∷ sided side ∷ []) = on_lane lane (lines.Fault machine side)
made_fault _ = Err whys.WrongCount

-- the entry's sensors see no board leave, and the exit's see none come wholly in
abbrev pub is_seen_at : Side → SensorEvent → Bool
is_seen_at sides.Entry events.Begun = true
is_seen_at sides.Entry events.Left = false
is_seen_at sides.Entry events.Full = true
is_seen_at sides.Entry events.Back = true
is_seen_at sides.Entry events.Taken = true
is_seen_at sides.Exit events.Begun = true
is_seen_at sides.Exit events.Left = true
is_seen_at sides.Exit events.Full = false
is_seen_at sides.Exit events.Back = true
is_seen_at sides.Exit events.Taken = true

abbrev pub lie_of : ℕ → ℕ → Side → SensorEvent → Result LaneLine LineWhy
lie_of lane machine side event =
    if is_seen_at side event then on_lane lane
    (lines.Lie machine (record { side = side; event = event })) else Err whys.BadWord

abbrev pub made_lie : List Value → Result LaneLine LineWhy
made_lie (placed machine lane ∷ sided side ∷ seen event ∷ []) = lie_of lane machine side event
made_lie _ = Err whys.WrongCount

abbrev pub made_unseen : List Value → Result LaneLine LineWhy
made_unseen (sided side ∷ placed machine lane ∷ []) = on_lane lane (lines.Unseen machine side)
made_unseen _ = Err whys.WrongCount

abbrev pub made_sense : List Value → Result LaneLine LineWhy
made_sense (placed machine lane ∷ []) = on_lane lane (lines.Sense machine)
made_sense _ = Err whys.WrongCount

abbrev pub made_begin : List Value → Result LaneLine LineWhy
made_begin (placed gap lane ∷ []) = on_lane lane (lines.Begin gap)
made_begin _ = Err whys.WrongCount

abbrev pub made_left : List Value → Result LaneLine LineWhy
made_left (placed gap lane ∷ []) = on_lane lane (lines.Left gap)
made_left _ = Err whys.WrongCount

abbrev pub made_enter : List Value → Result LaneLine LineWhy
made_enter (placed gap lane ∷ []) = on_lane lane (lines.Enter gap)
made_enter _ = Err whys.WrongCount

abbrev pub made_back : List Value → Result LaneLine LineWhy
made_back (placed gap lane ∷ []) = on_lane lane (lines.Back gap)
made_back _ = Err whys.WrongCount

abbrev pub made_hand_in : List Value → Result LaneLine LineWhy
made_hand_in (placed gap lane ∷ []) = on_lane lane (lines.HandIn gap)
made_hand_in _ = Err whys.WrongCount

abbrev pub made_take : List Value → Result LaneLine LineWhy
made_take (placed gap lane ∷ []) = on_lane lane (lines.Take gap)
made_take _ = Err whys.WrongCount

abbrev pub made_show : List Value → Result LaneLine LineWhy
made_show [] = on_lane 1 lines.Show
made_show _ = Err whys.WrongCount

abbrev pub made_forecast : List Value → Result LaneLine LineWhy
made_forecast (placed machine lane ∷ []) = on_lane lane (lines.Forecast machine)
made_forecast _ = Err whys.WrongCount

abbrev pub made_query : List Value → Result LaneLine LineWhy
made_query (placed machine lane ∷ spelled barcode ∷ []) = on_lane lane (lines.Query machine barcode)
made_query _ = Err whys.WrongCount

abbrev pub made_supervise : List Value → Result LaneLine LineWhy
made_supervise (numeral machine ∷ []) = on_lane 1 (lines.Supervise machine)
made_supervise _ = Err whys.WrongCount

abbrev pub made_ask : List Value → Result LaneLine LineWhy
made_ask (numeral machine ∷ asked_by by ∷ spelled text ∷ []) =
    on_lane 1 (lines.Ask machine (question_of by text))
made_ask (numeral machine ∷ spelled word ∷ spelled magazine ∷ numeral slot ∷ []) =
    on_lane 1 (lines.Ask machine (questions.Place magazine slot))
made_ask _ = Err whys.WrongCount

abbrev pub made_answer : List Value → Result LaneLine LineWhy
made_answer (numeral machine ∷ numeral query ∷ spelled order ∷ []) =
    on_lane 1 (lines.Answer machine query order)
made_answer _ = Err whys.WrongCount

abbrev pub made_lanes : List Value → Result LaneLine LineWhy
made_lanes (numeral count ∷ []) = Ok (lane_lines.Lanes count)
made_lanes _ = Err whys.WrongCount

abbrev pub made_shift : List Value → Result LaneLine LineWhy
made_shift (placed machine lane ∷ numeral to ∷ board id ∷ []) =
    Ok (lane_lines.Shift machine lane to id)
made_shift _ = Err whys.WrongCount

-- how many boards a machine has room for, and how many ids it has made
abbrev pub room_words : List Kind
room_words = number 1 1024 ∷ literal (codes "used") ∷ number 0 281474976710655 ∷ []

-- THE TABLE: `machine c [used u]`, `bridge c [used u]`, `insert m [barcode]`, `query m barcode`,
-- `remove m id`, `replace m id`, `shift m t id`, `mark m id unknown|good|failed`, `sub m id pos
-- barcode`, `hold m side`, `go m side`,
-- `signal m ready|available|failed on|off`, `connect m`, `flow m side [n]`, `notice m side`, `cut
-- k`, `spoil m side`, `forecast m`, `shutdown m`, `stop m`, `tick m`, `fault m side`, `lie m side
-- event`, `unseen side m`, `sense m`, `begin k`, `left k`, `in k`, `back k`, `hand-in k`, `take k`,
-- `lanes n`, `show`, `supervise m`, `ask m barcode|order w`, `ask m place w s`, `answer m q w`. Each
-- m and k is a place word, but in `stop`, `supervise`, `ask` and `answer`
abbrev pub machine_form : Form
machine_form =
    record {
      word = codes "machine";
      counts = 1 ∷ 3 ∷ [];
      arguments = λ _. room_words;
      made = made_machine;
    }

abbrev pub bridge_form : Form
bridge_form =
    record {
      word = codes "bridge";
      counts = 1 ∷ 3 ∷ [];
      arguments = λ _. room_words;
      made = made_bridge;
    }

abbrev pub insert_form : Form
insert_form =
    record {
      word = codes "insert";
      counts = 1 ∷ 2 ∷ [];
      arguments = λ _.
          machine_place ∷ token ∷ [];
      made = made_insert;
    }

abbrev pub query_form : Form
query_form =
    record {
      word = codes "query";
      counts = 2 ∷ [];
      arguments = λ _. machine_place ∷ token ∷ [];
      made = made_query;
    }

-- one text says what is asked for, or a magazine and a slot of it: the second question has a word
-- more
abbrev pub text_words : List Kind
text_words = machine_number ∷ asked_by_word ∷ token ∷ []

abbrev pub slot_words : List Kind
slot_words = machine_number ∷ literal (codes "place") ∷ token ∷ number 0 999999999 ∷ []

abbrev pub question_words : ℕ → List Kind
question_words count = if nat_eq count 4 then slot_words else text_words

abbrev pub ask_form : Form
ask_form =
    record { word = codes "ask"; counts = 3 ∷ 4 ∷ []; arguments = question_words; made = made_ask }

-- a question is named by its number, of which any that 15 digits spell may be given
abbrev pub answer_form : Form
answer_form = record {
  word = codes "answer";
  counts = 3 ∷ [];
  arguments = λ _. machine_number ∷ number 0 999999999999999 ∷ token ∷ [];
  made = made_answer;
}

-- a place on a panel is spelled by at most nine digits
abbrev pub sub_form : Form
sub_form = record {
  word = codes "sub";
  counts = 4 ∷ [];
  arguments = λ _. machine_place ∷ identity ∷ number 0 999999999 ∷ barcode_word ∷ [];
  made = made_sub;
}

abbrev pub remove_form : Form
remove_form =
    record {
      word = codes "remove";
      counts = 2 ∷ [];
      arguments = λ _.
          machine_place ∷ identity ∷ [];
      made = made_remove;
    }

abbrev pub replace_form : Form
replace_form =
    record {
      word = codes "replace";
      counts = 2 ∷ [];
      arguments = λ _.
          machine_place ∷ identity ∷ [];
      made = made_replace;
    }

abbrev pub mark_form : Form
mark_form =
    record {
      word = codes "mark";
      counts = 3 ∷ [];
      arguments = λ _.
          machine_place ∷ identity ∷ quality_word ∷ [];
      made = made_mark;
    }

abbrev pub hold_form : Form
hold_form =
    record {
      word = codes "hold";
      counts = 2 ∷ [];
      arguments = λ _.
          machine_place ∷ side_word ∷ [];
      made = made_hold;
    }

abbrev pub go_form : Form
go_form =
    record {
      word = codes "go";
      counts = 2 ∷ [];
      arguments = λ _. machine_place ∷ side_word ∷ [];
      made = made_go;
    }

abbrev pub signal_form : Form
signal_form = record {
  word = codes "signal";
  counts = 3 ∷ [];
  arguments = λ _. machine_place ∷ segment_word ∷ switch_word ∷ [];
  made = made_signal;
}

abbrev pub connect_form : Form
connect_form =
    record {
      word = codes "connect";
      counts = 1 ∷ [];
      arguments = λ _. machine_place ∷ [];
      made = made_connect;
    }

abbrev pub flow_form : Form
flow_form =
    record {
      word = codes "flow";
      counts = 2 ∷ 3 ∷ [];
      arguments = λ _.
          machine_place ∷ side_word ∷ number 1 65536 ∷ [];
      made = made_flow;
    }

abbrev pub notice_form : Form
notice_form =
    record {
      word = codes "notice";
      counts = 2 ∷ [];
      arguments = λ _.
          machine_place ∷ side_word ∷ [];
      made = made_notice;
    }

abbrev pub cut_form : Form
cut_form =
    record {
      word = codes "cut";
      counts = 1 ∷ [];
      arguments = λ _. gap_place ∷ [];
      made = made_cut;
    }

abbrev pub spoil_form : Form
spoil_form =
    record {
      word = codes "spoil";
      counts = 2 ∷ [];
      arguments = λ _.
          machine_place ∷ side_word ∷ [];
      made = made_spoil;
    }

abbrev pub forecast_form : Form
forecast_form =
    record {
      word = codes "forecast";
      counts = 1 ∷ [];
      arguments = λ _. machine_place ∷ [];
      made = made_forecast;
    }

abbrev pub supervise_form : Form
supervise_form =
    record {
      word = codes "supervise";
      counts = 1 ∷ [];
      arguments = λ _. machine_number ∷ [];
      made = made_supervise;
    }

abbrev pub shutdown_form : Form
shutdown_form =
    record {
      word = codes "shutdown";
      counts = 1 ∷ [];
      arguments = λ _. machine_place ∷ [];
      made = made_shutdown;
    }

abbrev pub stop_form : Form
stop_form =
    record {
      word = codes "stop";
      counts = 1 ∷ [];
      arguments = λ _. machine_number ∷ [];
      made = made_stop;
    }

abbrev pub tick_form : Form
tick_form =
    record {
      word = codes "tick";
      counts = 1 ∷ [];
      arguments = λ _. machine_place ∷ [];
      made = made_tick;
    }

abbrev pub fault_form : Form
fault_form =
    record {
      word = codes "fault";
      counts = 2 ∷ [];
      arguments = λ _.
          machine_place ∷ side_word ∷ [];
      made = made_fault;
    }

abbrev pub lie_form : Form
lie_form =
    record {
      word = codes "lie";
      counts = 3 ∷ [];
      arguments = λ _.
          machine_place ∷ side_word ∷ event_word ∷ [];
      made = made_lie;
    }

abbrev pub unseen_form : Form
unseen_form =
    record {
      word = codes "unseen";
      counts = 2 ∷ [];
      arguments = λ _.
          side_word ∷ machine_place ∷ [];
      made = made_unseen;
    }

abbrev pub sense_form : Form
sense_form =
    record {
      word = codes "sense";
      counts = 1 ∷ [];
      arguments = λ _. machine_place ∷ [];
      made = made_sense;
    }

abbrev pub begin_form : Form
begin_form =
    record {
      word = codes "begin";
      counts = 1 ∷ [];
      arguments = λ _. gap_place ∷ [];
      made = made_begin;
    }

abbrev pub left_form : Form
left_form =
    record {
      word = codes "left";
      counts = 1 ∷ [];
      arguments = λ _. gap_place ∷ [];
      made = made_left;
    }

abbrev pub enter_form : Form
enter_form =
    record {
      word = codes "in";
      counts = 1 ∷ [];
      arguments = λ _. gap_place ∷ [];
      made = made_enter;
    }

abbrev pub back_form : Form
back_form =
    record {
      word = codes "back";
      counts = 1 ∷ [];
      arguments = λ _. gap_place ∷ [];
      made = made_back;
    }

abbrev pub hand_in_form : Form
hand_in_form =
    record {
      word = codes "hand-in";
      counts = 1 ∷ [];
      arguments = λ _. gap_place ∷ [];
      made = made_hand_in;
    }

abbrev pub take_form : Form
take_form =
    record {
      word = codes "take";
      counts = 1 ∷ [];
      arguments = λ _. gap_place ∷ [];
      made = made_take;
    }

abbrev pub lanes_form : Form
lanes_form =
    record {
      word = codes "lanes";
      counts = 1 ∷ [];
      arguments = λ _. lane_number ∷ [];
      made = made_lanes;
    }

abbrev pub shift_form : Form
shift_form = record {
  word = codes "shift";
  counts = 3 ∷ [];
  arguments = λ _. machine_place ∷ lane_number ∷ identity ∷ [];
  made = made_shift;
}

abbrev pub show_form : Form
show_form = record { word = codes "show"; counts = 0 ∷ []; arguments = λ _. []; made = made_show }

-- the rows of the whole line; with those of the floor before them; with those of what befalls a
-- machine; with those of links; with those of boards, willingness and signals; and all rows
abbrev pub whole_forms : List Form
whole_forms = lanes_form ∷ show_form ∷ []

abbrev pub floor_forms : List Form
floor_forms =
    sense_form ∷ begin_form ∷ left_form ∷ enter_form ∷ back_form ∷ hand_in_form ∷ take_form ∷
    whole_forms

abbrev pub machine_forms : List Form
machine_forms =
    shutdown_form ∷ stop_form ∷ tick_form ∷ fault_form ∷ lie_form ∷ unseen_form ∷ floor_forms

abbrev pub link_forms : List Form
link_forms =
    connect_form ∷ flow_form ∷ notice_form ∷ cut_form ∷ spoil_form ∷ forecast_form ∷ supervise_form
    ∷ machine_forms

abbrev pub board_forms : List Form
board_forms =
    remove_form ∷ replace_form ∷ shift_form ∷ mark_form ∷ hold_form ∷ go_form ∷ signal_form ∷
    link_forms

abbrev pub forms : List Form
forms = machine_form ∷ bridge_form ∷ insert_form ∷ query_form ∷ ask_form ∷ answer_form ∷
    sub_form ∷ board_forms

abbrev pub mapped_ok : {A B : Type 0} → (A → B) → Result A LineWhy → Result B LineWhy
mapped_ok f (Ok value) = Ok (f value)
mapped_ok f (Err why) = Err why

abbrev pub then_ok : {A B : Type 0} → Result A LineWhy → (A → Result B LineWhy) → Result B LineWhy
then_ok (Ok value) next = next value
then_ok (Err why) next = Err why

-- what a word says as an argument of a kind
abbrev pub value_as : Kind → List ℕ → Result Value LineWhy
value_as (number low high) word = mapped_ok numeral (number_in low high word)
value_as (place_number most) word =
    mapped_ok (λ place. placed place.number place.lane) (place_of most word)
value_as identity word = mapped_ok board (identity_of word)
value_as (literal wanted) word = mapped_ok (λ _. spelled wanted) (literal_of wanted word)
value_as token word = mapped_ok spelled (token_of word)
value_as side_word word = mapped_ok sided (side_of word)
value_as quality_word word = mapped_ok graded (quality_of word)
value_as event_word word = mapped_ok seen (event_of word)
value_as segment_word word = mapped_ok signalled (segment_line_of word)
value_as switch_word word = mapped_ok switched (switch_of word)
value_as asked_by_word word = mapped_ok asked_by (asked_by_of word)
value_as barcode_word word = mapped_ok coded (barcode_of word)

-- what the words say, tested from the left
abbrev pub values_as : List Kind → List (List ℕ) → Result (List Value) LineWhy
values_as kinds [] = Ok []
values_as [] (word ∷ words) = Err whys.WrongCount
values_as (kind ∷ kinds) (word ∷ words) =
    then_ok (value_as kind word) (λ value.
    mapped_ok (λ values. value ∷ values) (values_as kinds words))

-- the same, if there are as many words as there may be
abbrev pub arguments_as : List ℕ → List Kind → List (List ℕ) → Result (List Value) LineWhy
arguments_as counts kinds words =
    if list_any (nat_eq (length words)) counts then values_as kinds words else Err whys.WrongCount

-- the line that the arguments of a form make, or the first refusal
abbrev pub line_as : Form → List (List ℕ) → Result LaneLine LineWhy
line_as form words =
    then_ok (arguments_as form.counts (form.arguments (length words)) words) form.made

-- the same, for the form that has this first word
abbrev pub line_among : List Form → List ℕ → List (List ℕ) → Result LaneLine LineWhy
line_among [] first words = Err whys.UnknownWord
line_among (form ∷ others) first words =
    if bytes_eq first form.word then line_as form words else line_among others first words

-- a line whose first word begins with `#` is a comment
abbrev pub is_comment : List ℕ → Bool
is_comment [] = false
is_comment (b ∷ bs) = b == 35

abbrev pub line_of_words : List (List ℕ) → Result LaneLine LineWhy
line_of_words [] = on_lane 1 lines.Blank
line_of_words (first ∷ words) =
    if is_comment first then on_lane 1 lines.Blank else line_among forms first words

-- what the bytes of one line ask for, or why they are refused: the first refusal that holds
abbrev pub read_of : List ℕ → Result LaneLine LineWhy
read_of bytes =
    if nat_lt 4096 (length bytes) then Err whys.LongLine else
    (if list_all is_text_byte bytes then line_of_words (words_of bytes) else Err whys.NotText)

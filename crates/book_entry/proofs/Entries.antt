-- Inputs, events and entries.
use Rattle.std.proofs.Common.{◌≡◌, ℕ, ℤ, zero, suc, ◌+◌, ◌-◌, ◌*◌, ◌^◌, ◌<◌, ◌≤◌, Bool, true, false, cond, ◌==◌, ◌&&◌, ◌||◌, nat_le, nat_lt, pos, min, ◌/◌, List, [], ◌∷◌, ◌++◌, Option, Some, None, Result, Ok, Err, IfSome, length, take, drop, refl, sym, ap, ◌∙◌, subst, arith, append_assoc, length-append, ◌⊎◌, inl, inr, eqb-true, eq-eqb, leb-true, le-leb}
use Rattle.std.specs.Int.{bytes_high_first}
use Rattle.std.specs.List.{flat_map}
use Rattle.std.proofs.lemmas.Bool.{and_from, and_parts, or_cases, or_left, or_right}
use Rattle.std.proofs.lemmas.Int.{ints}
use Rattle.line_base.specs.Moment.{IsMomentMillis}
use Rattle.line_base.specs.Results.{then_ok, mapped_ok}
use Rattle.line_base.specs.Text.{IsText}
use Rattle.line_base.specs.declared.states.Quality.{Quality}
use Rattle.line_base.specs.declared.states.Quality.TheVariants as qualities
use Rattle.line_base.specs.declared.states.SensorEvent.{SensorEvent}
use Rattle.line_base.specs.declared.states.SensorEvent.TheVariants as seen
use Rattle.line_base.specs.declared.states.Side.{Side}
use Rattle.line_base.specs.declared.states.Side.TheVariants.{Entry as EntrySide, Exit}
use Rattle.board_record.specs.declared.sensed.Sensed.{Sensed}
use Rattle.hermes_vertical.specs.declared.message.Question.{Question}
use Rattle.hermes_vertical.specs.declared.message.Question.TheVariants as questions
use Rattle.smema_bridge.specs.declared.line.SegmentLine.{SegmentLine}
use Rattle.smema_bridge.specs.declared.line.SegmentLine.TheVariants as lines
use Rattle.book_entry.specs.declared.entry.Entry.{Entry}
use Rattle.book_entry.specs.declared.entry.OwnInput.{OwnInput}
use Rattle.book_entry.specs.declared.entry.OwnInput.TheVariants as inputs
use Rattle.book_entry.specs.declared.fault.Fail.{Fail}
use Rattle.book_entry.specs.declared.fault.Fail.TheVariants as fails
use Rattle.book_entry.specs.declared.kind.InputKind.{InputKind}
use Rattle.book_entry.specs.declared.kind.InputKind.TheVariants as kinds
use Rattle.book_entry.specs.Kinds.{input_kind, is_from, kind_of, kind_tag, takes}
use Rattle.book_entry.specs.Numbers.{byte_in, number_in}
use Rattle.book_entry.specs.Reading.{allowed, answer_in, body_in, bytes_in, counted_in, entry_in, event_in, events_in, exactly, fields_in, flag_in, id_in, input_in, kind_in, level_in, line_in, listed_in, long_in, made_entry, made_sensed, mark_in, maybe_text_in, moment_in, most_events, own_in, placed_in, put, quality_in, question_in, seen_in, sensed_in, short_in, side_in, sub_in, text_in, will_in, with_size}
use Rattle.book_entry.specs.Spelling.{AreBytes, IsEntry, IsProperInput, body_bytes, event_number, events_bytes, field_bytes, flag_number, id_bytes, input_bytes, line_number, maybe_text_bytes, millis_bytes, own_bytes, quality_number, question_bytes, sensed_bytes, side_number, spelling, text_bytes}
use Rattle.book_entry.proofs.Forms.{Form, GoesOn, IsKeyed, IsMade, IsMadeOfTwo, IsPair, IsRead, alone, behind, both_form, byte_form, fused, mapped, paired, pairing, reform, then_same}
use Rattle.book_entry.proofs.Numbers.{IsIn, moment_form, number_form, spelled_length}
use Rattle.book_entry.proofs.Texts.{IsTextOf, some_text}
use Rattle.book_entry.proofs.Fields.{Any, IsBelow, IsMaybeOf, IsQuestionOf, IsRawOf, IsRoom, event_form, flag_form, id_form, line_form, long_form, maybe_text_form, own_form, quality_form, question_form, short_form, side_form, some_maybe, some_question, some_raw, text_form}

-- ---- tags

kind_back : (kind : InputKind) → kind_of (kind_tag kind) ≡ Some kind
kind_back kinds.Nothing = refl
kind_back kinds.Connect = refl
kind_back kinds.Accepted = refl
kind_back kinds.Second = refl
kind_back kinds.Bytes = refl
kind_back kinds.Notice = refl
kind_back kinds.Tick = refl
kind_back kinds.Shutdown = refl
kind_back kinds.Fault = refl
kind_back kinds.Will = refl
kind_back kinds.Level = refl
kind_back kinds.Insert = refl
kind_back kinds.Remove = refl
kind_back kinds.Replace = refl
kind_back kinds.Mark = refl
kind_back kinds.Forecast = refl
kind_back kinds.Query = refl
kind_back kinds.Supervise = refl
kind_back kinds.Ask = refl
kind_back kinds.Answer = refl
kind_back kinds.Sub = refl

next : (tag n : ℕ) (kind found : InputKind) (rest : Option InputKind) → kind_tag kind ≡ n → cond (tag == n) (Some kind) rest ≡ Some found → (rest ≡ Some found → tag ≡ kind_tag found) → tag ≡ kind_tag found
next tag n kind found rest named e others = next_by tag n kind found rest (tag == n) refl named e others
  where
    next_by : (tag n : ℕ) (kind found : InputKind) (rest : Option InputKind) (t : Bool) → (tag == n) ≡ t → kind_tag kind ≡ n → cond t (Some kind) rest ≡ Some found → (rest ≡ Some found → tag ≡ kind_tag found) → tag ≡ kind_tag found
    next_by tag n kind found rest true q named e others = let same : kind ≡ found = cc in eqb-true tag n q ∙ sym named ∙ ap kind_tag same
    next_by tag n kind found rest false q named e others = others e

kind_only : (tag : ℕ) (found : InputKind) → kind_of tag ≡ Some found → tag ≡ kind_tag found
kind_only tag found = λ e. next tag 0 kinds.Nothing found _ refl e
    (λ e. next tag 1 kinds.Connect found _ refl e
    (λ e. next tag 2 kinds.Accepted found _ refl e
    (λ e. next tag 3 kinds.Second found _ refl e
    (λ e. next tag 4 kinds.Bytes found _ refl e
    (λ e. next tag 5 kinds.Notice found _ refl e
    (λ e. next tag 6 kinds.Tick found _ refl e
    (λ e. next tag 7 kinds.Shutdown found _ refl e
    (λ e. next tag 8 kinds.Fault found _ refl e
    (λ e. next tag 9 kinds.Will found _ refl e
    (λ e. next tag 10 kinds.Level found _ refl e
    (λ e. next tag 11 kinds.Insert found _ refl e
    (λ e. next tag 12 kinds.Remove found _ refl e
    (λ e. next tag 13 kinds.Replace found _ refl e
    (λ e. next tag 14 kinds.Mark found _ refl e
    (λ e. next tag 15 kinds.Forecast found _ refl e
    (λ e. next tag 16 kinds.Query found _ refl e
    (λ e. next tag 17 kinds.Supervise found _ refl e
    (λ e. next tag 18 kinds.Ask found _ refl e
    (λ e. next tag 19 kinds.Answer found _ refl e
    (λ e. next tag 21 kinds.Sub found _ refl e
    (λ e. absurd (cc e))))))))))))))))))))))

some_kind : (count : ℕ) → (kind : InputKind) × (takes kind count ≡ true)
some_kind zero = (kinds.Nothing, refl)
some_kind (suc zero) = (kinds.Notice, refl)
some_kind (suc (suc zero)) = (kinds.Will, refl)
some_kind (suc (suc (suc zero))) = (kinds.Query, refl)
some_kind (suc (suc (suc (suc zero)))) = (kinds.Query, refl)
some_kind (suc (suc (suc (suc (suc n))))) = (kinds.Bytes, le-leb 5 (suc (suc (suc (suc (suc n))))) (omega arith))

chosen_ok : (t : Bool) (kind found : InputKind) → cond {A = Result InputKind Fail} t (Ok kind) (Err fails.Bad) ≡ Ok found → (t ≡ true) × (kind ≡ found)
chosen_ok true kind found e = (refl, cc)
chosen_ok false kind found e = absurd (cc)

allowed_ok : (count : ℕ) (own : Option InputKind) (found : InputKind) → allowed count own ≡ Ok found → (own ≡ Some found) × (takes found count ≡ true)
allowed_ok count None found e = absurd (cc)
allowed_ok count (Some kind) found e =
    let d = chosen_ok (takes kind count) kind found e in
    (ap Some d.1, ap (λ k. takes k count) (sym d.1) ∙ d.0)

never_short : (t : Bool) (kind : InputKind) → cond {A = Result InputKind Fail} t (Ok kind) (Err fails.Bad) ≡ Err fails.Short → ⊥
never_short true kind e = absurd (cc)
never_short false kind e = absurd (cc)

allowed_never : (count : ℕ) (own : Option InputKind) → allowed count own ≡ Err fails.Short → ⊥
allowed_never count None e = absurd (cc)
allowed_never count (Some kind) e = never_short (takes kind count) kind e

allowed_own : (count : ℕ) (kind : InputKind) → takes kind count ≡ true → allowed count (kind_of (kind_tag kind)) ≡ Ok kind
allowed_own count kind e = ap (allowed count) (kind_back kind) ∙ ap (λ t. cond t (Ok kind) (Err fails.Bad)) e

abbrev tag_bytes : InputKind → List ℕ
tag_bytes kind = kind_tag kind ∷ []

abbrev CanBe : ℕ → InputKind → Type 0
CanBe count kind = takes kind count ≡ true

kind_read : (count : ℕ) (bytes : List ℕ) (kind : InputKind) → kind_in count bytes ≡ Ok kind → IsRead tag_bytes (CanBe count) bytes kind
kind_read count [] kind e = absurd (cc)
kind_read count (tag ∷ bytes) kind e =
    let d = allowed_ok count (kind_of tag) kind e in
    record { value_fits = d.1; rest = bytes; spelled = ap (λ t. t ∷ bytes) (kind_only tag kind d.0) }

kind_goes : (count : ℕ) (bytes : List ℕ) → kind_in count bytes ≡ Err fails.Short → GoesOn tag_bytes (CanBe count) bytes
kind_goes count [] e = let k = some_kind count in record { value = k.0; value_fits = k.1; more = tag_bytes k.0; spelled = refl }
kind_goes count (tag ∷ bytes) e = absurd (allowed_never count (kind_of tag) e)

kind_bad : (count : ℕ) (bytes more rest : List ℕ) (kind : InputKind) → kind_in count bytes ≡ Err fails.Bad → takes kind count ≡ true → bytes ++ more ≡ tag_bytes kind ++ rest → ⊥
kind_bad count [] more rest kind e is p = absurd (cc)
kind_bad count (tag ∷ bytes) more rest kind e is p =
    let same : tag ≡ kind_tag kind = cc in
    let found : allowed count (kind_of tag) ≡ Ok kind = ap (λ t. allowed count (kind_of t)) same ∙ allowed_own count kind is in
    absurd (cc (found, e))

kind_form : (count : ℕ) → Form tag_bytes (CanBe count) (kind_in count)
kind_form count = record {
  back = λ kind rest is. allowed_own count kind is;
  only = λ bytes kind are. kind_read count bytes kind;
  short = λ bytes are. kind_goes count bytes;
  bad = λ bytes more rest kind are. kind_bad count bytes more rest kind;
}

-- ---- the fields of each input

pub record IsFieldsOf (kind : InputKind) (count : ℕ) (input : OwnInput) : Type 0 where
  pub input_is : IsProperInput input
  pub kind_is : input_kind input ≡ kind
  pub size : length (field_bytes input) ≡ count

range : (least most count : ℕ) → is_from least most count ≡ true → (least ≤ count) × (count ≤ most)
range least most count e =
    let d = and_parts (nat_le least count) (nat_le count most) e in
    (leb-true least count d.0, leb-true count most d.1)

in_range : (least most count : ℕ) → least ≤ count → count ≤ most → is_from least most count ≡ true
in_range least most count low high = and_from (nat_le least count) (nat_le count most) (le-leb least count low) (le-leb count most high)

room : (count : ℕ) → (count == 1 || is_from 3 1027 count) ≡ true → IsRoom count
room count e = elim (or_cases (count == 1) (is_from 3 1027 count) e) [
  | inl a ↦ inl (eqb-true count 1 a)
  | inr a ↦ inr (range 3 1027 count a)
]

sub_room : (count : ℕ) → (count == 21 || is_from 23 1047 count) ≡ true → IsRoom (count - 16 - 4) × (20 ≤ count)
sub_room count e = elim (or_cases (count == 21) (is_from 23 1047 count) e) [
  | inl a ↦ let n = eqb-true count 21 a in (inl (omega (arith, n)), omega (arith, n))
  | inr a ↦ let r = range 23 1047 count a in (inr (omega (arith, r.0), omega (arith, r.1)), omega (arith, r.0))
]

nothing_only : (count : ℕ) (input : OwnInput) → IsFieldsOf kinds.Nothing count input → inputs.Nothing ≡ input
nothing_only count inputs.Nothing is = refl
nothing_only count _ is = absurd (cc is.kind_is)

nothing_form : (count : ℕ) → (count == 0) ≡ true → Form field_bytes (IsFieldsOf kinds.Nothing count) (λ bytes. Ok inputs.Nothing)
nothing_form count e = alone inputs.Nothing field_bytes (IsFieldsOf kinds.Nothing count) (record { input_is = tt; kind_is = refl; size = sym (eqb-true count 0 e) }) refl (nothing_only count)

connect_only : (count : ℕ) (input : OwnInput) → IsFieldsOf kinds.Connect count input → inputs.Connect ≡ input
connect_only count inputs.Connect is = refl
connect_only count _ is = absurd (cc is.kind_is)

connect_form : (count : ℕ) → (count == 0) ≡ true → Form field_bytes (IsFieldsOf kinds.Connect count) (λ bytes. Ok inputs.Connect)
connect_form count e = alone inputs.Connect field_bytes (IsFieldsOf kinds.Connect count) (record { input_is = tt; kind_is = refl; size = sym (eqb-true count 0 e) }) refl (connect_only count)

accepted_only : (count : ℕ) (input : OwnInput) → IsFieldsOf kinds.Accepted count input → inputs.Accepted ≡ input
accepted_only count inputs.Accepted is = refl
accepted_only count _ is = absurd (cc is.kind_is)

accepted_form : (count : ℕ) → (count == 0) ≡ true → Form field_bytes (IsFieldsOf kinds.Accepted count) (λ bytes. Ok inputs.Accepted)
accepted_form count e = alone inputs.Accepted field_bytes (IsFieldsOf kinds.Accepted count) (record { input_is = tt; kind_is = refl; size = sym (eqb-true count 0 e) }) refl (accepted_only count)

second_only : (count : ℕ) (input : OwnInput) → IsFieldsOf kinds.Second count input → inputs.Second ≡ input
second_only count inputs.Second is = refl
second_only count _ is = absurd (cc is.kind_is)

second_form : (count : ℕ) → (count == 0) ≡ true → Form field_bytes (IsFieldsOf kinds.Second count) (λ bytes. Ok inputs.Second)
second_form count e = alone inputs.Second field_bytes (IsFieldsOf kinds.Second count) (record { input_is = tt; kind_is = refl; size = sym (eqb-true count 0 e) }) refl (second_only count)

tick_only : (count : ℕ) (input : OwnInput) → IsFieldsOf kinds.Tick count input → inputs.Tick ≡ input
tick_only count inputs.Tick is = refl
tick_only count _ is = absurd (cc is.kind_is)

tick_form : (count : ℕ) → (count == 0) ≡ true → Form field_bytes (IsFieldsOf kinds.Tick count) (λ bytes. Ok inputs.Tick)
tick_form count e = alone inputs.Tick field_bytes (IsFieldsOf kinds.Tick count) (record { input_is = tt; kind_is = refl; size = sym (eqb-true count 0 e) }) refl (tick_only count)

shutdown_only : (count : ℕ) (input : OwnInput) → IsFieldsOf kinds.Shutdown count input → inputs.Shutdown ≡ input
shutdown_only count inputs.Shutdown is = refl
shutdown_only count _ is = absurd (cc is.kind_is)

shutdown_form : (count : ℕ) → (count == 0) ≡ true → Form field_bytes (IsFieldsOf kinds.Shutdown count) (λ bytes. Ok inputs.Shutdown)
shutdown_form count e = alone inputs.Shutdown field_bytes (IsFieldsOf kinds.Shutdown count) (record { input_is = tt; kind_is = refl; size = sym (eqb-true count 0 e) }) refl (shutdown_only count)

forecast_only : (count : ℕ) (input : OwnInput) → IsFieldsOf kinds.Forecast count input → inputs.Forecast ≡ input
forecast_only count inputs.Forecast is = refl
forecast_only count _ is = absurd (cc is.kind_is)

forecast_form : (count : ℕ) → (count == 0) ≡ true → Form field_bytes (IsFieldsOf kinds.Forecast count) (λ bytes. Ok inputs.Forecast)
forecast_form count e = alone inputs.Forecast field_bytes (IsFieldsOf kinds.Forecast count) (record { input_is = tt; kind_is = refl; size = sym (eqb-true count 0 e) }) refl (forecast_only count)

notice_made : (count : ℕ) (input : OwnInput) → IsFieldsOf kinds.Notice count input → IsMade (λ (side : Side). side_number side ∷ []) (Any) inputs.Notice field_bytes input
notice_made count (inputs.Notice side) is = record { from = side; from_fits = tt; made = refl }
notice_made count _ is = absurd (cc is.kind_is)

notice_form : (count : ℕ) → (count == 1) ≡ true → Form field_bytes (IsFieldsOf kinds.Notice count) (λ bytes. mapped_ok inputs.Notice (side_in bytes))
notice_form count e =
    mapped (λ (side : Side). side_number side ∷ []) (Any) (side_in) inputs.Notice field_bytes (IsFieldsOf kinds.Notice count) (side_form)
    (λ side is. record { input_is = tt; kind_is = refl; size = sym (eqb-true count 1 e) }) (λ side is. refl) (notice_made count)

fault_made : (count : ℕ) (input : OwnInput) → IsFieldsOf kinds.Fault count input → IsMade (λ (side : Side). side_number side ∷ []) (Any) inputs.Fault field_bytes input
fault_made count (inputs.Fault side) is = record { from = side; from_fits = tt; made = refl }
fault_made count _ is = absurd (cc is.kind_is)

fault_form : (count : ℕ) → (count == 1) ≡ true → Form field_bytes (IsFieldsOf kinds.Fault count) (λ bytes. mapped_ok inputs.Fault (side_in bytes))
fault_form count e =
    mapped (λ (side : Side). side_number side ∷ []) (Any) (side_in) inputs.Fault field_bytes (IsFieldsOf kinds.Fault count) (side_form)
    (λ side is. record { input_is = tt; kind_is = refl; size = sym (eqb-true count 1 e) }) (λ side is. refl) (fault_made count)

supervise_made : (count : ℕ) (input : OwnInput) → IsFieldsOf kinds.Supervise count input → IsMade (λ (on : Bool). flag_number on ∷ []) (Any) inputs.Supervise field_bytes input
supervise_made count (inputs.Supervise on) is = record { from = on; from_fits = tt; made = refl }
supervise_made count _ is = absurd (cc is.kind_is)

supervise_form : (count : ℕ) → (count == 1) ≡ true → Form field_bytes (IsFieldsOf kinds.Supervise count) (λ bytes. mapped_ok inputs.Supervise (flag_in bytes))
supervise_form count e =
    mapped (λ (on : Bool). flag_number on ∷ []) (Any) (flag_in) inputs.Supervise field_bytes (IsFieldsOf kinds.Supervise count) (flag_form)
    (λ on is. record { input_is = tt; kind_is = refl; size = sym (eqb-true count 1 e) }) (λ on is. refl) (supervise_made count)

remove_made : (count : ℕ) (input : OwnInput) → IsFieldsOf kinds.Remove count input → IsMade (bytes_high_first 16) (IsBelow (2 ^ 128)) inputs.Remove field_bytes input
remove_made count (inputs.Remove id) is = record { from = id; from_fits = is.input_is; made = refl }
remove_made count _ is = absurd (cc is.kind_is)

remove_form : (count : ℕ) → (count == 16) ≡ true → Form field_bytes (IsFieldsOf kinds.Remove count) (λ bytes. mapped_ok inputs.Remove (id_in bytes))
remove_form count e =
    mapped (bytes_high_first 16) (IsBelow (2 ^ 128)) (id_in) inputs.Remove field_bytes (IsFieldsOf kinds.Remove count) (id_form)
    (λ id is. record { input_is = is; kind_is = refl; size = sym (eqb-true count 16 e) }) (λ id is. refl) (remove_made count)

replace_made : (count : ℕ) (input : OwnInput) → IsFieldsOf kinds.Replace count input → IsMade (bytes_high_first 16) (IsBelow (2 ^ 128)) inputs.Replace field_bytes input
replace_made count (inputs.Replace id) is = record { from = id; from_fits = is.input_is; made = refl }
replace_made count _ is = absurd (cc is.kind_is)

replace_form : (count : ℕ) → (count == 16) ≡ true → Form field_bytes (IsFieldsOf kinds.Replace count) (λ bytes. mapped_ok inputs.Replace (id_in bytes))
replace_form count e =
    mapped (bytes_high_first 16) (IsBelow (2 ^ 128)) (id_in) inputs.Replace field_bytes (IsFieldsOf kinds.Replace count) (id_form)
    (λ id is. record { input_is = is; kind_is = refl; size = sym (eqb-true count 16 e) }) (λ id is. refl) (replace_made count)

insert_made : (count : ℕ) (input : OwnInput) → IsFieldsOf kinds.Insert count input → IsMade (maybe_text_bytes) (IsMaybeOf count) inputs.Insert field_bytes input
insert_made count (inputs.Insert barcode) is = record { from = barcode; from_fits = record { text_is = is.input_is; size = is.size }; made = refl }
insert_made count _ is = absurd (cc is.kind_is)

insert_form : (count : ℕ) → IsRoom count → Form field_bytes (IsFieldsOf kinds.Insert count) (λ bytes. mapped_ok inputs.Insert (maybe_text_in count bytes))
insert_form count e =
    mapped (maybe_text_bytes) (IsMaybeOf count) (maybe_text_in count) inputs.Insert field_bytes (IsFieldsOf kinds.Insert count) (maybe_text_form count e)
    (λ barcode is. record { input_is = is.text_is; kind_is = refl; size = is.size }) (λ barcode is. refl) (insert_made count)

query_made : (count : ℕ) (input : OwnInput) → IsFieldsOf kinds.Query count input → IsMade (text_bytes) (IsTextOf (count - 2)) inputs.Query field_bytes input
query_made count (inputs.Query barcode) is = record { from = barcode; from_fits = record { text_is = is.input_is; size = omega (arith, is.size) }; made = refl }
query_made count _ is = absurd (cc is.kind_is)

query_form : (count : ℕ) → (2 ≤ count) × (count ≤ 1026) → Form field_bytes (IsFieldsOf kinds.Query count) (λ bytes. mapped_ok inputs.Query (text_in count bytes))
query_form count e =
    mapped (text_bytes) (IsTextOf (count - 2)) (text_in count) inputs.Query field_bytes (IsFieldsOf kinds.Query count) (text_form count e.0 e.1)
    (λ barcode is. record { input_is = is.text_is; kind_is = refl; size = omega (arith, is.size, e.0) }) (λ barcode is. refl) (query_made count)

ask_made : (count : ℕ) (input : OwnInput) → IsFieldsOf kinds.Ask count input → IsMade (question_bytes) (IsQuestionOf count) inputs.Ask field_bytes input
ask_made count (inputs.Ask question) is = record { from = question; from_fits = record { question_is = is.input_is; size = is.size }; made = refl }
ask_made count _ is = absurd (cc is.kind_is)

ask_form : (count : ℕ) → (3 ≤ count) × (count ≤ 1031) → Form field_bytes (IsFieldsOf kinds.Ask count) (λ bytes. mapped_ok inputs.Ask (question_in count bytes))
ask_form count e =
    mapped (question_bytes) (IsQuestionOf count) (question_in count) inputs.Ask field_bytes (IsFieldsOf kinds.Ask count) (question_form count e.0 e.1)
    (λ question is. record { input_is = is.question_is; kind_is = refl; size = is.size }) (λ question is. refl) (ask_made count)

will_made : (count : ℕ) (input : OwnInput) → IsFieldsOf kinds.Will count input → IsMadeOfTwo (Any) (Any) inputs.Will input
will_made count (inputs.Will side on) is = record { left = side; left_fits = tt; right = on; right_fits = tt; made = refl }
will_made count _ is = absurd (cc is.kind_is)

will_form : (count : ℕ) → (count == 2) ≡ true → Form field_bytes (IsFieldsOf kinds.Will count) (will_in)
will_form count e =
    both_form 1 (λ (side : Side). side_number side ∷ []) (Any) (side_in) (λ (on : Bool). flag_number on ∷ []) (Any) (flag_in) inputs.Will field_bytes (IsFieldsOf kinds.Will count)
    side_form (λ side is. refl) (flag_form) (false) (tt)
    (λ side on f g. record { input_is = tt; kind_is = refl; size = sym (eqb-true count 2 e) }) (λ side on f g. refl) (will_made count)

level_made : (count : ℕ) (input : OwnInput) → IsFieldsOf kinds.Level count input → IsMadeOfTwo (Any) (Any) inputs.Level input
level_made count (inputs.Level line on) is = record { left = line; left_fits = tt; right = on; right_fits = tt; made = refl }
level_made count _ is = absurd (cc is.kind_is)

level_form : (count : ℕ) → (count == 2) ≡ true → Form field_bytes (IsFieldsOf kinds.Level count) (level_in)
level_form count e =
    both_form 1 (λ (line : SegmentLine). line_number line ∷ []) (Any) (line_in) (λ (on : Bool). flag_number on ∷ []) (Any) (flag_in) inputs.Level field_bytes (IsFieldsOf kinds.Level count)
    line_form (λ line is. refl) (flag_form) (false) (tt)
    (λ line on f g. record { input_is = tt; kind_is = refl; size = sym (eqb-true count 2 e) }) (λ line on f g. refl) (level_made count)

mark_made : (count : ℕ) (input : OwnInput) → IsFieldsOf kinds.Mark count input → IsMadeOfTwo (IsBelow (2 ^ 128)) (Any) inputs.Mark input
mark_made count (inputs.Mark id quality) is = record { left = id; left_fits = is.input_is; right = quality; right_fits = tt; made = refl }
mark_made count _ is = absurd (cc is.kind_is)

mark_form : (count : ℕ) → (count == 17) ≡ true → Form field_bytes (IsFieldsOf kinds.Mark count) (mark_in)
mark_form count e =
    both_form 16 (bytes_high_first 16) (IsBelow (2 ^ 128)) (id_in) (λ (quality : Quality). quality_number quality ∷ []) (Any) (quality_in) inputs.Mark field_bytes (IsFieldsOf kinds.Mark count)
    id_form (λ id is. refl) (quality_form) (qualities.Good) (tt)
    (λ id quality f g. record { input_is = f; kind_is = refl; size = sym (eqb-true count 17 e) }) (λ id quality f g. refl) (mark_made count)

answer_made : (count : ℕ) (input : OwnInput) → IsFieldsOf kinds.Answer count input → IsMadeOfTwo (IsBelow (2 ^ 64)) (IsTextOf (count - 8 - 2)) inputs.Answer input
answer_made count (inputs.Answer query order) is = record { left = query; left_fits = is.input_is.0; right = order; right_fits = record { text_is = is.input_is.1; size = omega (arith, is.size) }; made = refl }
answer_made count _ is = absurd (cc is.kind_is)

answer_form : (count : ℕ) → (10 ≤ count) × (count ≤ 1034) → Form field_bytes (IsFieldsOf kinds.Answer count) (answer_in count)
answer_form count e =
    both_form 8 (bytes_high_first 8) (IsBelow (2 ^ 64)) (long_in) (text_bytes) (IsTextOf (count - 8 - 2)) (text_in (count - 8)) inputs.Answer field_bytes (IsFieldsOf kinds.Answer count)
    long_form (λ query is. refl) (text_form (count - 8) (omega (arith, e.0)) (omega (arith, e.1))) ((some_text (count - 8 - 2) (omega (arith, e.1))).0) ((some_text (count - 8 - 2) (omega (arith, e.1))).1)
    (λ query order f g. record { input_is = (f, g.text_is); kind_is = refl; size = omega (arith, g.size, e.0) }) (λ query order f g. refl) (answer_made count)

bytes_made : (count : ℕ) (input : OwnInput) → IsFieldsOf kinds.Bytes count input → IsMadeOfTwo (Any) (IsRawOf (count - 1 - 4)) inputs.Bytes input
bytes_made count (inputs.Bytes side own) is = record { left = side; left_fits = tt; right = own; right_fits = record { are = is.input_is; size = omega (arith, is.size) }; made = refl }
bytes_made count _ is = absurd (cc is.kind_is)

bytes_form : (count : ℕ) → (5 ≤ count) × (count < 2 ^ 32) → Form field_bytes (IsFieldsOf kinds.Bytes count) (bytes_in count)
bytes_form count e =
    both_form 1 (λ (side : Side). side_number side ∷ []) (Any) (side_in) (own_bytes) (IsRawOf (count - 1 - 4)) (own_in (count - 1)) inputs.Bytes field_bytes (IsFieldsOf kinds.Bytes count)
    side_form (λ side is. refl) (own_form (count - 1) (omega (arith, e.0)) (omega (arith, e.1))) ((some_raw (count - 1 - 4)).0) ((some_raw (count - 1 - 4)).1)
    (λ side own f g. record { input_is = g.are; kind_is = refl; size = omega (arith, g.size, e.0) }) (λ side own f g. refl) (bytes_made count)

-- an id, and behind it a place and maybe a text
abbrev placed_bytes : ℕ × Option (List ℕ) → List ℕ
placed_bytes p = bytes_high_first 4 p.0 ++ maybe_text_bytes p.1

abbrev IsPlaced : ℕ → ℕ × Option (List ℕ) → Type 0
IsPlaced count p = IsPair (IsBelow (2 ^ 32)) (IsMaybeOf (count - 4)) p

abbrev pair_in : ℕ → List ℕ → Result (ℕ × Option (List ℕ)) Fail
pair_in count bytes = then_ok (short_in bytes) (λ place. mapped_ok (pairing place) (maybe_text_in (count - 4) (drop 4 bytes)))

pair_form : (count : ℕ) → IsRoom (count - 4) → Form placed_bytes (IsPlaced count) (pair_in count)
pair_form count r =
    let some = some_maybe (count - 4) r in
    paired 4 (bytes_high_first 4) (IsBelow (2 ^ 32)) short_in maybe_text_bytes (IsMaybeOf (count - 4)) (maybe_text_in (count - 4)) short_form (λ place is. refl) (maybe_text_form (count - 4) r) some.0 some.1

abbrev made_sub : ℕ → ℕ × Option (List ℕ) → OwnInput
made_sub id p = inputs.Sub id p.0 p.1

sub_size : (id place : ℕ) (barcode : Option (List ℕ)) → length (field_bytes (inputs.Sub id place barcode)) ≡ length (maybe_text_bytes barcode) + 20
sub_size id place barcode = omega arith

sub_made : (count : ℕ) (input : OwnInput) → 20 ≤ count → IsFieldsOf kinds.Sub count input → IsMadeOfTwo (IsBelow (2 ^ 128)) (IsPlaced (count - 16)) made_sub input
sub_made count (inputs.Sub id place barcode) low is = record {
  left = id;
  left_fits = is.input_is.0;
  right = (place, barcode);
  right_fits = record { left = is.input_is.1; right = record { text_is = is.input_is.2; size = omega (arith, is.size, sub_size id place barcode) } };
  made = refl;
}
sub_made count _ low is = absurd (cc is.kind_is)

sub_again : (count : ℕ) (bytes : List ℕ) → sub_in count bytes ≡ then_ok (id_in bytes) (λ id. mapped_ok (made_sub id) (pair_in (count - 16) (drop 16 bytes)))
sub_again count bytes =
    then_same (id_in bytes) (λ id. placed_in id (count - 16) (drop 16 bytes)) (λ id. mapped_ok (made_sub id) (pair_in (count - 16) (drop 16 bytes)))
    (λ id. sym (fused (made_sub id) pairing (short_in (drop 16 bytes)) (λ place. maybe_text_in (count - 16 - 4) (drop 4 (drop 16 bytes)))))

sub_form : (count : ℕ) → IsRoom (count - 16 - 4) × (20 ≤ count) → Form field_bytes (IsFieldsOf kinds.Sub count) (sub_in count)
sub_form count r =
    let some = some_maybe (count - 16 - 4) r.0 in
    reform field_bytes field_bytes (IsFieldsOf kinds.Sub count) (IsFieldsOf kinds.Sub count) (λ bytes. then_ok (id_in bytes) (λ id. mapped_ok (made_sub id) (pair_in (count - 16) (drop 16 bytes)))) (sub_in count)
    (both_form 16 (bytes_high_first 16) (IsBelow (2 ^ 128)) id_in placed_bytes (IsPlaced (count - 16)) (pair_in (count - 16)) made_sub field_bytes (IsFieldsOf kinds.Sub count)
    id_form (λ id is. refl) (pair_form (count - 16) r.0) (0, some.0) (record { left = omega arith; right = some.1 })
    (λ id p f g. record { input_is = (f, g.left, g.right.text_is); kind_is = refl; size = omega (arith, g.right.size, r.1, sub_size id p.0 p.1) }) (λ id p f g. refl) (λ input is. sub_made count input r.1 is))
    (λ input is. is) (λ input is. is) (λ input is. refl) (sub_again count)

fields_form : (kind : InputKind) (count : ℕ) → takes kind count ≡ true → count < 2 ^ 32 → Form field_bytes (IsFieldsOf kind count) (fields_in kind count)
fields_form kinds.Nothing count e short = nothing_form count e
fields_form kinds.Connect count e short = connect_form count e
fields_form kinds.Accepted count e short = accepted_form count e
fields_form kinds.Second count e short = second_form count e
fields_form kinds.Bytes count e short = bytes_form count (leb-true 5 count e, short)
fields_form kinds.Notice count e short = notice_form count e
fields_form kinds.Tick count e short = tick_form count e
fields_form kinds.Shutdown count e short = shutdown_form count e
fields_form kinds.Fault count e short = fault_form count e
fields_form kinds.Will count e short = will_form count e
fields_form kinds.Level count e short = level_form count e
fields_form kinds.Insert count e short = insert_form count (room count e)
fields_form kinds.Remove count e short = remove_form count e
fields_form kinds.Replace count e short = replace_form count e
fields_form kinds.Mark count e short = mark_form count e
fields_form kinds.Forecast count e short = forecast_form count e
fields_form kinds.Query count e short = query_form count (range 2 1026 count e)
fields_form kinds.Supervise count e short = supervise_form count e
fields_form kinds.Ask count e short = ask_form count (range 3 1031 count e)
fields_form kinds.Answer count e short = answer_form count (range 10 1034 count e)
fields_form kinds.Sub count e short = sub_form count (sub_room count e)

-- ---- which fields there are

size_1 : (count : ℕ) → count ≡ 1 → (count == 1) ≡ true
size_1 count e = eq-eqb count 1 e

own_takes : (input : OwnInput) → IsProperInput input → takes (input_kind input) (length (field_bytes input)) ≡ true
own_takes inputs.Nothing is = refl
own_takes inputs.Connect is = refl
own_takes inputs.Accepted is = refl
own_takes inputs.Second is = refl
own_takes (inputs.Bytes side own) is = le-leb 5 (length (side_number side ∷ own_bytes own)) (omega arith)
own_takes (inputs.Notice side) is = refl
own_takes inputs.Tick is = refl
own_takes inputs.Shutdown is = refl
own_takes (inputs.Fault side) is = refl
own_takes (inputs.Will side on) is = refl
own_takes (inputs.Level line on) is = refl
own_takes (inputs.Insert None) is = refl
own_takes (inputs.Insert (Some text)) is = or_right (length (maybe_text_bytes (Some text)) == 1) (is_from 3 1027 (length (maybe_text_bytes (Some text)))) (in_range 3 1027 (length (maybe_text_bytes (Some text))) (omega arith) (omega (arith, is.short)))
own_takes (inputs.Remove id) is = refl
own_takes (inputs.Replace id) is = refl
own_takes (inputs.Mark id quality) is = refl
own_takes inputs.Forecast is = refl
own_takes (inputs.Query text) is = in_range 2 1026 (length (text_bytes text)) (omega arith) (omega (arith, is.short))
own_takes (inputs.Supervise on) is = refl
own_takes (inputs.Ask (questions.Barcode text)) is = in_range 3 1031 (length (question_bytes (questions.Barcode text))) (omega arith) (omega (arith, is.short))
own_takes (inputs.Ask (questions.Order text)) is = in_range 3 1031 (length (question_bytes (questions.Order text))) (omega arith) (omega (arith, is.short))
own_takes (inputs.Ask (questions.Place magazine slot)) is = in_range 3 1031 (length (question_bytes (questions.Place magazine slot))) (omega (arith, length-append (text_bytes magazine) (bytes_high_first 4 slot))) (omega (arith, is.0.short, length-append (text_bytes magazine) (bytes_high_first 4 slot)))
own_takes (inputs.Answer query order) is = in_range 10 1034 (length (bytes_high_first 8 query ++ text_bytes order)) (omega arith) (omega (arith, is.1.short))
own_takes (inputs.Sub id place None) is = refl
own_takes (inputs.Sub id place (Some text)) is = or_right (length (field_bytes (inputs.Sub id place (Some text))) == 21) (is_from 23 1047 (length (field_bytes (inputs.Sub id place (Some text))))) (in_range 23 1047 (length (field_bytes (inputs.Sub id place (Some text)))) (omega arith) (omega (arith, is.2.short)))

some_fields : (kind : InputKind) (count : ℕ) → takes kind count ≡ true → (input : OwnInput) × IsFieldsOf kind count input
some_fields kinds.Nothing count e = (inputs.Nothing, record { input_is = tt; kind_is = refl; size = sym (eqb-true count 0 e) })
some_fields kinds.Connect count e = (inputs.Connect, record { input_is = tt; kind_is = refl; size = sym (eqb-true count 0 e) })
some_fields kinds.Accepted count e = (inputs.Accepted, record { input_is = tt; kind_is = refl; size = sym (eqb-true count 0 e) })
some_fields kinds.Second count e = (inputs.Second, record { input_is = tt; kind_is = refl; size = sym (eqb-true count 0 e) })
some_fields kinds.Bytes count e = let t = some_raw (count - 5) in (inputs.Bytes Exit t.0, record { input_is = t.1.are; kind_is = refl; size = omega (arith, t.1.size, leb-true 5 count e) })
some_fields kinds.Notice count e = (inputs.Notice Exit, record { input_is = tt; kind_is = refl; size = sym (eqb-true count 1 e) })
some_fields kinds.Tick count e = (inputs.Tick, record { input_is = tt; kind_is = refl; size = sym (eqb-true count 0 e) })
some_fields kinds.Shutdown count e = (inputs.Shutdown, record { input_is = tt; kind_is = refl; size = sym (eqb-true count 0 e) })
some_fields kinds.Fault count e = (inputs.Fault Exit, record { input_is = tt; kind_is = refl; size = sym (eqb-true count 1 e) })
some_fields kinds.Will count e = (inputs.Will Exit true, record { input_is = tt; kind_is = refl; size = sym (eqb-true count 2 e) })
some_fields kinds.Level count e = (inputs.Level lines.Ready true, record { input_is = tt; kind_is = refl; size = sym (eqb-true count 2 e) })
some_fields kinds.Insert count e = let t = some_maybe count (room count e) in (inputs.Insert t.0, record { input_is = t.1.text_is; kind_is = refl; size = t.1.size })
some_fields kinds.Remove count e = (inputs.Remove 0, record { input_is = omega arith; kind_is = refl; size = sym (eqb-true count 16 e) })
some_fields kinds.Replace count e = (inputs.Replace 0, record { input_is = omega arith; kind_is = refl; size = sym (eqb-true count 16 e) })
some_fields kinds.Mark count e = (inputs.Mark 0 qualities.Good, record { input_is = omega arith; kind_is = refl; size = sym (eqb-true count 17 e) })
some_fields kinds.Forecast count e = (inputs.Forecast, record { input_is = tt; kind_is = refl; size = sym (eqb-true count 0 e) })
some_fields kinds.Query count e = let r = range 2 1026 count e in let t = some_text (count - 2) (omega (arith, r.1)) in (inputs.Query t.0, record { input_is = t.1.text_is; kind_is = refl; size = omega (arith, t.1.size, r.0) })
some_fields kinds.Supervise count e = (inputs.Supervise true, record { input_is = tt; kind_is = refl; size = sym (eqb-true count 1 e) })
some_fields kinds.Ask count e = let r = range 3 1031 count e in let t = some_question count r.0 r.1 in (inputs.Ask t.0, record { input_is = t.1.question_is; kind_is = refl; size = t.1.size })
some_fields kinds.Answer count e = let r = range 10 1034 count e in let t = some_text (count - 10) (omega (arith, r.1)) in (inputs.Answer 0 t.0, record { input_is = (omega arith, t.1.text_is); kind_is = refl; size = omega (arith, t.1.size, r.0) })
some_fields kinds.Sub count e = let r = sub_room count e in let t = some_maybe (count - 16 - 4) r.0 in (inputs.Sub 0 0 t.0, record { input_is = (omega arith, omega arith, t.1.text_is); kind_is = refl; size = omega (arith, t.1.size, r.1, sub_size 0 0 t.0) })

-- ---- inputs

pub record IsInputOf (count : ℕ) (input : OwnInput) : Type 0 where
  pub input_is : IsProperInput input
  pub size : length (field_bytes input) ≡ count - 1

keyed_fields : (kind : InputKind) (count : ℕ) → takes kind (count - 1) ≡ true → count < 2 ^ 32 → Form field_bytes (IsKeyed input_kind (IsInputOf count) kind) (fields_in kind (count - 1))
keyed_fields kind count e short =
    reform field_bytes field_bytes (IsFieldsOf kind (count - 1)) (IsKeyed input_kind (IsInputOf count) kind) (fields_in kind (count - 1)) (fields_in kind (count - 1)) (fields_form kind (count - 1) e (omega arith))
    (λ input is. record { whole_is = record { input_is = is.input_is; size = is.size }; key_is = is.kind_is })
    (λ input is. record { input_is = is.whole_is.input_is; kind_is = is.key_is; size = is.whole_is.size }) (λ input is. refl) (λ bytes. refl)

pub input_form : (count : ℕ) → count < 2 ^ 32 → Form input_bytes (IsInputOf count) (input_in count)
unfolding input_in
input_form count short =
    behind 1 tag_bytes (CanBe (count - 1)) (kind_in (count - 1)) input_kind field_bytes (IsInputOf count) (λ kind. fields_in kind (count - 1))
    (kind_form (count - 1)) (λ kind is. refl) (λ kind is. keyed_fields kind count is short)
    (λ input is. ap (takes (input_kind input)) (sym is.size) ∙ own_takes input is.input_is)
    (λ kind is. let t = some_fields kind (count - 1) is in (t.0, record { whole_is = record { input_is = t.1.input_is; size = t.1.size }; key_is = t.1.kind_is }))

some_input : (count : ℕ) → (input : OwnInput) × IsInputOf count input
some_input count =
    let kind = some_kind (count - 1) in
    let t = some_fields kind.0 (count - 1) kind.1 in
    (t.0, record { input_is = t.1.input_is; size = t.1.size })

-- ---- events

abbrev seen_bytes : Sensed → List ℕ
seen_bytes sensed = side_number sensed.side ∷ event_number sensed.event ∷ []

seen_form : Form seen_bytes Any seen_in
seen_form =
    both_form 1 (λ (side : Side). side_number side ∷ []) Any side_in (λ (event : SensorEvent). event_number event ∷ []) Any event_in made_sensed seen_bytes Any
    side_form (λ side is. refl) event_form seen.Begun tt (λ side event f g. tt) (λ side event f g. refl)
    (λ sensed is. record { left = sensed.side; left_fits = tt; right = sensed.event; right_fits = tt; made = refl })

abbrev lane_of : Sensed → ℕ
lane_of sensed = 1

keyed_seen : (lane : ℕ) → exactly 1 lane ≡ true → Form seen_bytes (IsKeyed lane_of Any lane) seen_in
keyed_seen lane e =
    reform seen_bytes seen_bytes Any (IsKeyed lane_of Any lane) seen_in seen_in seen_form
    (λ sensed is. record { whole_is = tt; key_is = sym (eqb-true lane 1 e) }) (λ sensed is. tt) (λ sensed is. refl) (λ bytes. refl)

sample : Sensed
sample = record { side = Exit; event = seen.Begun }

sensed_form : Form sensed_bytes Any sensed_in
sensed_form =
    behind 1 (λ b. b ∷ []) (λ b. exactly 1 b ≡ true) (byte_in (exactly 1)) lane_of seen_bytes Any (λ lane. seen_in)
    (byte_form (exactly 1) 1 refl) (λ b is. refl) keyed_seen (λ sensed is. refl)
    (λ lane is. (sample, record { whole_is = tt; key_is = sym (eqb-true lane 1 is) }))

abbrev AreCounted : ℕ → List Sensed → Type 0
AreCounted count events = length events ≡ count

samples : (count : ℕ) → (events : List Sensed) × AreCounted count events
samples zero = ([], refl)
samples (suc count) = let s = samples count in (sample ∷ s.0, omega (arith, s.1))

none_counted : (events : List Sensed) → AreCounted 0 events → [] ≡ events
none_counted [] is = refl
none_counted (sensed ∷ events) is = absurd (omega arith)

put_made : (count : ℕ) (events : List Sensed) → AreCounted (suc count) events → IsMadeOfTwo Any (AreCounted count) put events
put_made count [] is = absurd (omega arith)
put_made count (sensed ∷ events) is = record { left = sensed; left_fits = tt; right = events; right_fits = omega arith; made = refl }

pub events_form : (count : ℕ) → Form events_bytes (AreCounted count) (events_in count)
unfolding events_in
events_form zero = alone [] events_bytes (AreCounted 0) refl refl none_counted
events_form (suc count) =
    let some = samples count in
    both_form 3 sensed_bytes Any sensed_in events_bytes (AreCounted count) (events_in count) put events_bytes (AreCounted (suc count))
    sensed_form (λ sensed is. refl) (events_form count) some.0 some.1 (λ sensed events f g. omega (arith, g)) (λ sensed events f g. refl) (put_made count)

pub events_length : (events : List Sensed) → length (events_bytes events) ≡ 3 * length events
events_length [] = refl
events_length (sensed ∷ events) = omega (arith, events_length events)

-- ---- events and an input

abbrev listed_bytes : Entry → List ℕ
listed_bytes entry = events_bytes entry.sensed ++ input_bytes entry.input

abbrev own_input : Entry → List ℕ
own_input entry = input_bytes entry.input

abbrev own_events : Entry → List Sensed
own_events entry = entry.sensed

abbrev own_count : Entry → ℕ
own_count entry = length entry.sensed

abbrev own_moment : Entry → ℤ
own_moment entry = entry.moment

record IsListed (moment : ℤ) (events count : ℕ) (entry : Entry) : Type 0 where
  moment_is : entry.moment ≡ moment
  events_are : length entry.sensed ≡ events
  input_is : IsProperInput entry.input
  size : length (input_bytes entry.input) ≡ count - 3 * events

listed_made : (moment : ℤ) (events count : ℕ) (sensed : List Sensed) (entry : Entry) → IsKeyed own_events (IsListed moment events count) sensed entry → IsMade input_bytes (IsInputOf (count - 3 * events)) (made_entry moment sensed) own_input entry
listed_made moment events count sensed entry is = record {
  from = entry.input;
  from_fits = record { input_is = is.whole_is.input_is; size = omega (arith, is.whole_is.size) };
  made = λ i. record { sensed = sym is.key_is i; input = entry.input; moment = sym is.whole_is.moment_is i };
}

listed_second : (moment : ℤ) (events count : ℕ) (sensed : List Sensed) → 3 * events < count → count < 2 ^ 32 → AreCounted events sensed → Form own_input (IsKeyed own_events (IsListed moment events count) sensed) (λ bytes. mapped_ok (made_entry moment sensed) (input_in (count - 3 * events) bytes))
listed_second moment events count sensed fits short are =
    mapped input_bytes (IsInputOf (count - 3 * events)) (input_in (count - 3 * events)) (made_entry moment sensed) own_input (IsKeyed own_events (IsListed moment events count) sensed) (input_form (count - 3 * events) (omega arith))
    (λ input is. record { whole_is = record { moment_is = refl; events_are = are; input_is = is.input_is; size = omega (arith, is.size, fits) }; key_is = refl }) (λ input is. refl) (listed_made moment events count sensed)

listed_form : (moment : ℤ) (events count : ℕ) → 3 * events < count → count < 2 ^ 32 → Form listed_bytes (IsListed moment events count) (listed_in moment events count)
unfolding listed_in
listed_form moment events count fits short =
    behind (3 * events) events_bytes (AreCounted events) (events_in events) own_events own_input (IsListed moment events count) (λ sensed bytes. mapped_ok (made_entry moment sensed) (input_in (count - 3 * events) bytes))
    (events_form events) (λ sensed is. events_length sensed ∙ ap (λ n. 3 * n) is) (λ sensed is. listed_second moment events count sensed fits short is) (λ entry is. is.events_are)
    (λ sensed is. let t = some_input (count - 3 * events) in (made_entry moment sensed t.0, record { whole_is = record { moment_is = refl; events_are = is; input_is = t.1.input_is; size = omega (arith, t.1.size, fits) }; key_is = refl }))

-- ---- their count

abbrev counted_bytes : Entry → List ℕ
counted_bytes entry = bytes_high_first 2 (length entry.sensed) ++ listed_bytes entry

record IsCounted (moment : ℤ) (count : ℕ) (entry : Entry) : Type 0 where
  moment_is : entry.moment ≡ moment
  few : length entry.sensed ≤ most_events count
  input_is : IsProperInput entry.input
  size : length (input_bytes entry.input) + 3 * length entry.sensed ≡ count - 2

few_fit : (count events : ℕ) → 3 ≤ count → events ≤ most_events count → 3 * events < count - 2
few_fit count events low few = omega arith

counted_second : (moment : ℤ) (count events : ℕ) → 3 ≤ count → count < 2 ^ 32 → events ≤ most_events count → Form listed_bytes (IsKeyed own_count (IsCounted moment count) events) (listed_in moment events (count - 2))
counted_second moment count events low short few =
    let fits = few_fit count events low few in
    reform listed_bytes listed_bytes (IsListed moment events (count - 2)) (IsKeyed own_count (IsCounted moment count) events) (listed_in moment events (count - 2)) (listed_in moment events (count - 2)) (listed_form moment events (count - 2) fits (omega arith))
    (λ entry is. record { whole_is = record { moment_is = is.moment_is; few = omega (arith, is.events_are, few); input_is = is.input_is; size = omega (arith, is.size, is.events_are, fits) }; key_is = is.events_are })
    (λ entry is. record { moment_is = is.whole_is.moment_is; events_are = is.key_is; input_is = is.whole_is.input_is; size = omega (arith, is.whole_is.size, is.key_is) })
    (λ entry is. refl) (λ bytes. refl)

counted_some : (moment : ℤ) (count events : ℕ) → 3 ≤ count → events ≤ most_events count → (entry : Entry) × IsKeyed own_count (IsCounted moment count) events entry
counted_some moment count events low few =
    let fits = few_fit count events low few in
    let s = samples events in
    let t = some_input (count - 2 - 3 * events) in
    (made_entry moment s.0 t.0, record { whole_is = record { moment_is = refl; few = omega (arith, s.1, few); input_is = t.1.input_is; size = omega (arith, t.1.size, s.1, fits) }; key_is = s.1 })

counted_form : (moment : ℤ) (count : ℕ) → 3 ≤ count → count < 2 ^ 32 → Form counted_bytes (IsCounted moment count) (counted_in moment count)
unfolding counted_in
counted_form moment count low short =
    behind 2 (bytes_high_first 2) (IsIn 0 (most_events count)) (number_in 2 0 (most_events count)) own_count listed_bytes (IsCounted moment count) (λ events. listed_in moment events (count - 2))
    (number_form 2 0 (most_events count) (omega arith) (omega arith)) (λ events is. refl) (λ events is. counted_second moment count events low short is.1) (λ entry is. (omega arith, is.few))
    (λ events is. counted_some moment count events low is.1)

-- ---- a body

record IsBodyOf (count : ℕ) (entry : Entry) : Type 0 where
  moment_is : IsMomentMillis entry.moment
  few : length entry.sensed ≤ 65535
  input_is : IsProperInput entry.input
  size : length (body_bytes entry) ≡ count

pub body_size : (entry : Entry) → length (body_bytes entry) ≡ 10 + 3 * length entry.sensed + length (input_bytes entry.input)
body_size entry = omega (arith, length-append (events_bytes entry.sensed) (input_bytes entry.input), events_length entry.sensed)

body_counted : (count : ℕ) (entry : Entry) → 11 ≤ count → IsBodyOf count entry → IsCounted entry.moment (count - 8) entry
body_counted count entry low is = record {
  moment_is = refl;
  few = omega (arith, is.few, is.size, body_size entry);
  input_is = is.input_is;
  size = omega (arith, is.size, body_size entry);
}

counted_body : (moment : ℤ) (count : ℕ) (entry : Entry) → 11 ≤ count → IsMomentMillis moment → IsCounted moment (count - 8) entry → IsBodyOf count entry
counted_body moment count entry low is c = record {
  moment_is = subst IsMomentMillis (sym c.moment_is) is;
  few = omega (arith, c.few);
  input_is = c.input_is;
  size = omega (arith, c.size, body_size entry);
}

counted_at : (count : ℕ) (moment : ℤ) (entry : Entry) → IsKeyed own_moment (IsBodyOf count) moment entry → 11 ≤ count → IsCounted moment (count - 8) entry
counted_at count moment entry is low = subst (λ m. IsCounted m (count - 8) entry) is.key_is (body_counted count entry low is.whole_is)

body_second : (count : ℕ) (moment : ℤ) → 11 ≤ count → count < 2 ^ 32 → IsMomentMillis moment → Form counted_bytes (IsKeyed own_moment (IsBodyOf count) moment) (counted_in moment (count - 8))
body_second count moment low short is =
    reform counted_bytes counted_bytes (IsCounted moment (count - 8)) (IsKeyed own_moment (IsBodyOf count) moment) (counted_in moment (count - 8)) (counted_in moment (count - 8)) (counted_form moment (count - 8) (omega arith) (omega arith))
    (λ entry c. record { whole_is = counted_body moment count entry low is c; key_is = c.moment_is }) (λ entry k. counted_at count moment entry k low) (λ entry c. refl) (λ bytes. refl)

body_some : (count : ℕ) (moment : ℤ) → 11 ≤ count → IsMomentMillis moment → (entry : Entry) × IsKeyed own_moment (IsBodyOf count) moment entry
body_some count moment low is =
    let t = counted_some moment (count - 8) 0 (omega arith) (omega arith) in
    (t.0, record { whole_is = counted_body moment count t.0 low is t.1.whole_is; key_is = t.1.whole_is.moment_is })

body_form : (count : ℕ) → 11 ≤ count → count < 2 ^ 32 → Form body_bytes (IsBodyOf count) (body_in count)
unfolding body_in
body_form count low short =
    behind 8 millis_bytes IsMomentMillis moment_in own_moment counted_bytes (IsBodyOf count) (λ moment. counted_in moment (count - 8))
    moment_form (λ moment is. refl) (λ moment is. body_second count moment low short is) (λ entry is. is.moment_is) (λ moment is. body_some count moment low is)

-- ---- an entry and its size

pub record IsWhole (found : Entry × ℕ) : Type 0 where
  pub entry_is : IsEntry found.0
  pub size_is : found.1 ≡ length (spelling found.0)

abbrev own_length : Entry × ℕ → ℕ
own_length found = length (body_bytes found.0)

abbrev own_body : Entry × ℕ → List ℕ
own_body found = body_bytes found.0

abbrev pub own_spelling : Entry × ℕ → List ℕ
own_spelling found = spelling found.0

spelling_size : (entry : Entry) → length (spelling entry) ≡ length (body_bytes entry) + 4
spelling_size entry = omega arith

body_is_entry : (count : ℕ) (entry : Entry) → count < 2 ^ 32 → IsBodyOf count entry → IsEntry entry
body_is_entry count entry short is = record { moment = is.moment_is; input = is.input_is; events = is.few; short = omega (arith, is.size) }

entry_made : (count : ℕ) (found : Entry × ℕ) → IsKeyed own_length IsWhole count found → IsMade body_bytes (IsBodyOf count) (with_size count) own_body found
entry_made count found is =
    let size : count + 4 ≡ found.1 = omega (arith, is.key_is, is.whole_is.size_is, spelling_size found.0) in
    record {
      from = found.0;
      from_fits = record { moment_is = is.whole_is.entry_is.moment; few = is.whole_is.entry_is.events; input_is = is.whole_is.entry_is.input; size = is.key_is };
      made = λ i. (found.0, size i);
    }

entry_second : (count : ℕ) → 11 ≤ count → count < 2 ^ 32 → Form own_body (IsKeyed own_length IsWhole count) (λ bytes. mapped_ok (with_size count) (body_in count bytes))
entry_second count low short =
    mapped body_bytes (IsBodyOf count) (body_in count) (with_size count) own_body (IsKeyed own_length IsWhole count) (body_form count low short)
    (λ entry is. record { whole_is = record { entry_is = body_is_entry count entry short is; size_is = omega (arith, is.size, spelling_size entry) }; key_is = is.size }) (λ entry is. refl) (entry_made count)

entry_some : (count : ℕ) → 11 ≤ count → count < 2 ^ 32 → (found : Entry × ℕ) × IsKeyed own_length IsWhole count found
entry_some count low short =
    let t = body_some count (pos 0) low (omega (arith, ints), omega (arith, ints)) in
    ((t.0, length (spelling t.0)), record { whole_is = record { entry_is = body_is_entry count t.0 short t.1.whole_is; size_is = refl }; key_is = t.1.whole_is.size })

entry_keeps : (found : Entry × ℕ) → IsWhole found → IsIn 11 (2 ^ 32 - 1) (own_length found)
entry_keeps found is = (omega (arith, body_size found.0), omega (arith, is.entry_is.short))

pub entry_form : Form own_spelling IsWhole entry_in
unfolding entry_in
entry_form =
    behind 4 (bytes_high_first 4) (IsIn 11 (2 ^ 32 - 1)) (number_in 4 11 (2 ^ 32 - 1)) own_length own_body IsWhole (λ count bytes. mapped_ok (with_size count) (body_in count bytes))
    (number_form 4 11 (2 ^ 32 - 1) (omega arith) (omega arith)) (λ count is. refl) (λ count is. entry_second count is.0 (omega (arith, is.1))) entry_keeps
    (λ count is. entry_some count is.0 (omega (arith, is.1)))

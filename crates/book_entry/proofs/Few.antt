-- How many bytes an entry has at most.
use Rattle.std.proofs.Common.{◌≡◌, ℕ, ℤ, ◌+◌, ◌*◌, ◌<◌, ◌≤◌, ◌^◌, List, [], ◌∷◌, ◌++◌, Option, Some, None, length, refl, ap, ◌∙◌, arith, length-append}
use Rattle.std.specs.Int.{to_be_bytes, w16, w32, w64, w128, cast_unsigned}
use Rattle.board_record.proofs.Ids.{to_be_bytes_length}
use Rattle.board_record.specs.declared.sensed.Sensed.{Sensed}
use Rattle.hermes_vertical.specs.declared.message.Question.{Question}
use Rattle.hermes_vertical.specs.declared.message.Question.TheVariants as questions
use Rattle.line_base.specs.declared.states.Quality.{Quality}
use Rattle.book_entry.specs.Spelling.{IsWritable, body_bytes, events_bytes, field_bytes, id_bytes, input_bytes, maybe_text_bytes, millis_bytes, own_bytes, quality_number, question_bytes, sensed_bytes, text_bytes}
use Rattle.book_entry.specs.declared.entry.Entry.{Entry}
use Rattle.book_entry.specs.declared.entry.OwnInput.{OwnInput}
use Rattle.book_entry.specs.declared.entry.OwnInput.TheVariants as own
use Rattle.book_entry.specs.Short.{AreFew, IsFew, IsFewQuestion, IsShort}

short_length : (n : ℕ) → length (to_be_bytes w16 n) ≡ 2
short_length n = refl

word_length : (n : ℕ) → length (to_be_bytes w32 n) ≡ 4
word_length n = refl

long_length : (n : ℕ) → length (to_be_bytes w64 n) ≡ 8
long_length n = refl

text_few : (text : List ℕ) → IsFew text → length (text_bytes text) ≤ 1026
text_few text few = omega (arith, few.few, length-append (to_be_bytes w16 (length text)) text, short_length (length text))

maybe_few : (text : List ℕ) → IsFew text → length (maybe_text_bytes (Some text)) ≤ 1027
maybe_few text few = omega (arith, text_few text few)

id_few : (id : ℕ) (rest : List ℕ) → length (id_bytes id ++ rest) ≡ 16 + length rest
id_few id rest = omega (arith, length-append (id_bytes id) rest, to_be_bytes_length id)

question_few : (question : Question) → IsFewQuestion question → length (question_bytes question) ≤ 2000
question_few (questions.Barcode text) few = omega (arith, text_few text few)
question_few (questions.Order text) few = omega (arith, text_few text few)
question_few (questions.Place magazine slot) few = omega (arith, text_few magazine few, length-append (text_bytes magazine) (to_be_bytes w32 slot), word_length slot)

pub fields_few : (input : OwnInput) → AreFew input → IsShort input → length (field_bytes input) ≤ 2 ^ 31 + 2000
fields_few (own.Bytes side bytes) few short = omega (arith, short, length-append (to_be_bytes w32 (length bytes)) bytes, word_length (length bytes))
fields_few (own.Insert None) few short = omega arith
fields_few (own.Insert (Some barcode)) few short = omega (arith, maybe_few barcode few)
fields_few (own.Remove id) few short = omega (arith, to_be_bytes_length id)
fields_few (own.Replace id) few short = omega (arith, to_be_bytes_length id)
fields_few (own.Mark id quality) few short = omega (arith, id_few id (quality_number quality ∷ []))
fields_few (own.Query barcode) few short = omega (arith, text_few barcode few)
fields_few (own.Ask question) few short = omega (arith, question_few question few)
fields_few (own.Answer query order) few short = omega (arith, text_few order few, length-append (to_be_bytes w64 query) (text_bytes order), long_length query)
fields_few (own.Sub id place None) few short = omega (arith, id_few id (to_be_bytes w32 place ++ maybe_text_bytes None), length-append (to_be_bytes w32 place) (maybe_text_bytes None), word_length place)
fields_few (own.Sub id place (Some barcode)) few short = omega (arith, maybe_few barcode few, id_few id (to_be_bytes w32 place ++ maybe_text_bytes (Some barcode)), length-append (to_be_bytes w32 place) (maybe_text_bytes (Some barcode)), word_length place)
fields_few own.Nothing few short = omega arith
fields_few own.Connect few short = omega arith
fields_few own.Accepted few short = omega arith
fields_few own.Second few short = omega arith
fields_few (own.Notice side) few short = omega arith
fields_few own.Tick few short = omega arith
fields_few own.Shutdown few short = omega arith
fields_few (own.Fault side) few short = omega arith
fields_few (own.Will side on) few short = omega arith
fields_few (own.Level line on) few short = omega arith
fields_few own.Forecast few short = omega arith
fields_few (own.Supervise on) few short = omega arith

events_length : (events : List Sensed) → length (events_bytes events) ≡ 3 * length events
events_length [] = refl
events_length (first ∷ events) = omega (arith, events_length events, length-append (sensed_bytes first) (events_bytes events))

pub entry_short : (entry : Entry) → length entry.sensed ≤ 65535 → IsShort entry.input → AreFew entry.input → IsWritable entry
entry_short entry events short few = record {
  events = events;
  short =
      omega (
        arith,
        events,
        fields_few entry.input few short,
        events_length entry.sensed,
        length-append (millis_bytes entry.moment) (to_be_bytes w16 (length entry.sensed) ++ (events_bytes entry.sensed ++ input_bytes entry.input)),
        length-append (to_be_bytes w16 (length entry.sensed)) (events_bytes entry.sensed ++ input_bytes entry.input),
        length-append (events_bytes entry.sensed) (input_bytes entry.input),
        long_length (cast_unsigned w64 entry.moment),
        short_length (length entry.sensed),
      );
}

-- What the arguments of a line say is of their kinds: a text word says a text, a number one within
-- its bounds.
use Rattle.std.proofs.Common.{◌≡◌, ◌≤◌, ◌&&◌, ℕ, Bool, true, false, List, [], ◌∷◌, arith, length, refl, sym}
use Rattle.std.proofs.lemmas.Bool.Decides.{nat_tests}
use Rattle.std.specs.Prelude.{Option, Some, None, Result, Ok, Err, codes, nat_eq, nat_le, if◌then◌else◌}
use Rattle.std.specs.List.{list_all, list_any}
use Rattle.std.specs.Str.{bytes_eq}
use Rattle.std.proofs.lemmas.Bool.{and_parts, leb-true}
use Rattle.line_base.specs.Number.{is_digits, value_of}
use Rattle.line_base.specs.Text.{IsText}
use Rattle.line_script.specs.Grammar.{Kind, Value, arguments_as, asked_by, asked_by_word, barcode_word, board, coded, event_word, graded, identity, literal, mapped_ok, number, numeral, place_number, placed, quality_word, seen, segment_word, side_word, sided, signalled, spelled, switch_word, switched, then_ok, token, value_as, values_as}
use Rattle.line_script.specs.Words.{asked_by_of, barcode_from, barcode_in, event_of, identity_of, is_text_byte, literal_of, number_in, place_of, quality_of, segment_line_of, side_of, switch_of, token_of}
use Rattle.line_script.specs.declared.line.LineWhy.{LineWhy}
use Rattle.line_script.proofs.Tokens.{IsAllowed-from_text}

abbrev pub Says : Kind → Value → Type 0
Says token (spelled word) = IsText word
Says (number low high) (numeral value) = value ≤ high
Says barcode_word (coded (Some word)) = IsText word
Says kind value = Unit {0}

abbrev pub SayAll : List Kind → List Value → Type 0
SayAll kinds [] = Unit {0}
SayAll [] (value ∷ values) = Unit {0}
SayAll (kind ∷ kinds) (value ∷ values) = Says kind value × SayAll kinds values

-- the same, unless they were refused
abbrev pub SaysOk : Kind → Result Value LineWhy → Type 0
SaysOk kind (Ok value) = Says kind value
SaysOk kind (Err why) = Unit {0}

abbrev pub SayAllOk : List Kind → Result (List Value) LineWhy → Type 0
SayAllOk kinds (Ok values) = SayAll kinds values
SayAllOk kinds (Err why) = Unit {0}

mapped_says : {A : Type 0} (kind : Kind) (f : A → Value) (read : Result A LineWhy)
    → ((value : A) → Says kind (f value)) → SaysOk kind (mapped_ok f read)
mapped_says kind f (Ok value) says = says value
mapped_says kind f (Err why) says = tt

token_says : (word : List ℕ) (short plain : Bool) → short ≡ nat_le (length word) 64
    → plain ≡ list_all is_text_byte word → SaysOk token (mapped_ok spelled (token_of word))
token_says word true true short plain =
    rw (sym short) (rw (sym plain)
    (record { short = grind (arith, nat_tests); allowed = IsAllowed-from_text word (sym plain) }))
token_says word true false short plain = rw (sym short) (rw (sym plain) tt)
token_says word false plain short is = rw (sym short) tt

number_says : (low high value : ℕ) (word : List ℕ) (digits within : Bool) → digits ≡ is_digits 1 15 word → value ≡ value_of word → within ≡ (nat_le low value && nat_le value high)
    → SaysOk (number low high) (mapped_ok numeral (number_in low high word))
number_says low high value word true true digits is within =
    rw (sym digits) (rw (sym is) (rw (sym within) (leb-true value high (and_parts (nat_le low value) (nat_le value high) (sym within)).1)))
number_says low high value word true false digits is within = rw (sym digits) (rw (sym is) (rw (sym within) tt))
number_says low high value word false within digits is same = rw (sym digits) tt

code_says : (word : List ℕ) (none : Bool) → none ≡ bytes_eq word (codes "-") → IsText word → Says barcode_word (coded (barcode_in word))
code_says word true is text = rw (sym is) tt
code_says word false is text = rw (sym is) text

coded_by : (found : Result (List ℕ) LineWhy) → SaysOk token (mapped_ok spelled found) → SaysOk barcode_word (mapped_ok coded (barcode_from found))
coded_by (Ok word) text = code_says word (bytes_eq word (codes "-")) refl text
coded_by (Err why) text = tt

value_says : (kind : Kind) (word : List ℕ) → SaysOk kind (value_as kind word)
value_says (number low high) word =
    number_says low high (value_of word) word (is_digits 1 15 word) (nat_le low (value_of word) && nat_le (value_of word) high) refl refl refl
value_says (place_number most) word =
    mapped_says (place_number most) (λ place. placed place.number place.lane) (place_of most word) (λ value. tt)
value_says identity word = mapped_says identity board (identity_of word) (λ value. tt)
value_says (literal wanted) word = mapped_says (literal wanted) (λ _. spelled wanted) (literal_of wanted word) (λ value. tt)
value_says token word = token_says word (nat_le (length word) 64) (list_all is_text_byte word) refl refl
value_says side_word word = mapped_says side_word sided (side_of word) (λ value. tt)
value_says quality_word word = mapped_says quality_word graded (quality_of word) (λ value. tt)
value_says event_word word = mapped_says event_word seen (event_of word) (λ value. tt)
value_says segment_word word = mapped_says segment_word signalled (segment_line_of word) (λ value. tt)
value_says switch_word word = mapped_says switch_word switched (switch_of word) (λ value. tt)
value_says barcode_word word =
    coded_by (token_of word) (token_says word (nat_le (length word) 64) (list_all is_text_byte word) refl refl)
value_says asked_by_word word = mapped_says asked_by_word asked_by (asked_by_of word) (λ value. tt)

one_more : (kind : Kind) (kinds : List Kind) (first : Result Value LineWhy) (others : Result (List Value) LineWhy)
    → SaysOk kind first → SayAllOk kinds others
    → SayAllOk (kind ∷ kinds) (then_ok first (λ value. mapped_ok (λ values. value ∷ values) others))
one_more kind kinds (Ok value) (Ok values) one all = (one, all)
one_more kind kinds (Ok value) (Err why) one all = tt
one_more kind kinds (Err why) others one all = tt

values_say : (kinds : List Kind) (words : List (List ℕ)) → SayAllOk kinds (values_as kinds words)
values_say kinds [] = tt
values_say [] (word ∷ words) = tt
values_say (kind ∷ kinds) (word ∷ words) =
    one_more kind kinds (value_as kind word) (values_as kinds words) (value_says kind word) (values_say kinds words)

counted_say : (counts : List ℕ) (kinds : List Kind) (words : List (List ℕ)) (may : Bool)
    → may ≡ list_any (nat_eq (length words)) counts → SayAllOk kinds (arguments_as counts kinds words)
counted_say counts kinds words true may = rw (sym may) (values_say kinds words)
counted_say counts kinds words false may = rw (sym may) tt

-- WHAT THE ARGUMENTS OF A FORM SAY, whatever its words
pub arguments_say : (counts : List ℕ) (kinds : List Kind) (words : List (List ℕ))
    → SayAllOk kinds (arguments_as counts kinds words)
arguments_say counts kinds words = counted_say counts kinds words (list_any (nat_eq (length words)) counts) refl

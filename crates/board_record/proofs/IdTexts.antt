-- The text of an id is a text, and it is read as that id.
use Rattle.std.proofs.Common.{◌≡◌, ◌^◌, ◌<◌, ◌==◌, ◌||◌, ◌&&◌, ℕ, zero, suc, Bool, true, false, cond, leb, List, [], ◌∷◌, Ok, length, refl, ap, ◌∙◌, sym, arith, inl}
use Rattle.std.proofs.lemmas.Bool.{and_from, and_parts}
use Rattle.std.proofs.lemmas.Bool.Decides.{nat_tests}
use Rattle.std.proofs.lemmas.List.Folds.{list_all-append}
use Rattle.std.specs.Int.{w128, to_be_bytes}
use Rattle.std.specs.List.{list_all}
use Rattle.line_base.specs.Text.{IsText}
use Rattle.line_base.specs.PlainText.{is_plain_byte}
use Rattle.line_base.proofs.Printable.{IsText-from_printable}
use Rattle.uuid.specs.Text.{by_index, hex_digit, nibble, digit_place, is_hyphen_place, lower}
use Rattle.uuid.proofs.RoundTrips.{parses_hyphenated}
use Rattle.uuid.proofs.TextLemmas.{by_index_length, nibble_small}
use Rattle.uuid.proofs.OrderLemmas.{from_be_bytes-to_be_bytes_16}
use Rattle.board_record.specs.BoardId.{id_of_bytes, id_text, read_id}
use Rattle.board_record.proofs.Ids.{to_be_bytes_small, to_be_bytes_length}

-- a hyphen, or a hexadecimal digit in lower case
abbrev pub is_id_byte : ℕ → Bool
is_id_byte b = (b == 45) || ((leb 48 b && leb b 57) || (leb 97 b && leb b 102))

hex_byte : (d : ℕ) → d < 16 → is_id_byte (hex_digit lower d) ≡ true
hex_byte d small = grind (arith, nat_tests)

all_by_index : (p : ℕ → Bool) (n : ℕ) (f : ℕ → ℕ) → ((k : ℕ) → p (f k) ≡ true) → list_all p (by_index n f) ≡ true
unfolding by_index
all_by_index p zero f h = refl
all_by_index p (suc n) f h = list_all-append p (by_index n f) (f n ∷ []) ∙ and_from (list_all p (by_index n f)) (list_all p (f n ∷ [])) (all_by_index p n f h) (and_from (p (f n)) true (h n) refl)

hyphen_or : (b : Bool) (d : ℕ) → d < 16 → is_id_byte (cond b 45 (hex_digit lower d)) ≡ true
hyphen_or true d small = refl
hyphen_or false d small = hex_byte d small

pub id_bytes : (id : ℕ) → list_all is_id_byte (id_text id) ≡ true
unfolding id_text
id_bytes id =
    let bytes = to_be_bytes w128 id in
    all_by_index is_id_byte 36 (λ k. cond (is_hyphen_place k) 45 (hex_digit lower (nibble bytes (digit_place k)))) (λ k. hyphen_or (is_hyphen_place k) (nibble bytes (digit_place k)) (nibble_small bytes (digit_place k)))

printable_byte : (b : ℕ) → is_id_byte b ≡ true → is_plain_byte b ≡ true
printable_byte b h = grind (arith, nat_tests)

printable_bytes : (bytes : List ℕ) → list_all is_id_byte bytes ≡ true → list_all is_plain_byte bytes ≡ true
printable_bytes [] h = refl
printable_bytes (b ∷ bs) h =
    let parts = and_parts (is_id_byte b) (list_all is_id_byte bs) h in
    and_from (is_plain_byte b) (list_all is_plain_byte bs) (printable_byte b parts.0) (printable_bytes bs parts.1)

-- an id's text has 36 bytes
pub length-id : (id : ℕ) → length (id_text id) ≡ 36
unfolding id_text
length-id id = by_index_length 36 _

pub IsText-id : (id : ℕ) → IsText (id_text id)
unfolding id_text
IsText-id id =
    let bytes = to_be_bytes w128 id in
    let long = by_index_length 36 (λ k. cond (is_hyphen_place k) 45 (hex_digit lower (nibble bytes (digit_place k)))) in
    IsText-from_printable (id_text id) (printable_bytes (id_text id) (id_bytes id)) (omega (arith, long))

-- the id that is read from its text
pub read_id-id_text : (number : ℕ) → number < 2 ^ 128 → read_id (id_text number) ≡ Ok number
unfolding id_text
read_id-id_text number fits =
    let parses = parses_hyphenated lower (to_be_bytes w128 number) (inl refl) (to_be_bytes_length number) (to_be_bytes_small number) in
    ap id_of_bytes (sym parses) ∙ ap Ok (from_be_bytes-to_be_bytes_16 number fits)

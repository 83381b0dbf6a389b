-- Thirty-six characters that have the form of an id are the text of an id.
use Rattle.std.proofs.Common.{◌≡◌, ◌==◌, ℕ, zero, suc, ◌+◌, ◌*◌, ◌/◌, ◌%◌, ◌^◌, ◌<◌, Bool, true, false, cond, List, [], ◌∷◌, ◌++◌, length, take, drop, get_or, slice_index, ◌⊎◌, inl, inr, refl, sym, ap, subst, ◌∙◌, arith}
use Rattle.std.proofs.lemmas.Bool.{eqb-true, cases_eq}
use Rattle.std.proofs.lemmas.Bool.Decides.{nat_tests}
use Rattle.std.proofs.lemmas.List.{get_or_default}
use Rattle.std.proofs.lemmas.Nat.{be_bytes_8}
use Rattle.std.proofs.Math.Nat.{div-div-eq-div-mul, mul-add-div_right}
use Rattle.std.specs.Int.{w64, w128, from_be_bytes, to_be_bytes}
use Rattle.uuid.specs.Text.{by_index, hex_digit, nibble, digit_place, hyphen_place, is_hyphen_place, hyphenated_text, lower, value_of}
use Rattle.uuid.proofs.TextLemmas.{by_index_at, by_index_same, nibble_even, nibble_odd}
use Rattle.board_record.specs.BoardId.{id_text}
use Rattle.canonical_frames.specs.Values.{is_id_digit, fits_place, IsIdText}

-- ---- sixteen bytes are those of a number

-- the halves, high first
abbrev high_half : (ℕ → ℕ) → List ℕ
high_half p = p 0 ∷ p 1 ∷ p 2 ∷ p 3 ∷ p 4 ∷ p 5 ∷ p 6 ∷ p 7 ∷ []

abbrev low_half : (ℕ → ℕ) → List ℕ
low_half p = p 8 ∷ p 9 ∷ p 10 ∷ p 11 ∷ p 12 ∷ p 13 ∷ p 14 ∷ p 15 ∷ []

abbrev number_of_halves : ℕ → ℕ → ℕ
number_of_halves high low = high * 18446744073709551616 + low

-- bytes of a number of sixteen are those of its halves
high_bytes : (high low : ℕ) → low < 18446744073709551616 → number_of_halves high low / 18446744073709551616 ≡ high
high_bytes high low small = omega arith

high_byte : (high low p q : ℕ) → low < 18446744073709551616 → q ≡ 18446744073709551616 * p → number_of_halves high low / q % 256 ≡ high / p % 256
high_byte high low p q small e =
    rw (e, ← div-div-eq-div-mul (number_of_halves high low) 18446744073709551616 p, high_bytes high low small) refl

low_byte_at : (high low p q : ℕ) → 0 < p → 18446744073709551616 ≡ q * 256 * p → number_of_halves high low / p % 256 ≡ low / p % 256
low_byte_at high low p q some e =
    let apart : number_of_halves high low ≡ high * q * 256 * p + low = (rw e (omega arith)) in
    let whole : number_of_halves high low / p ≡ high * q * 256 + low / p = ap (λ (n : ℕ). n / p) apart ∙ mul-add-div_right some (high * q * 256) low in
    ap (λ (n : ℕ). n % 256) whole ∙ (omega arith)

small_half : (b : List ℕ) → length b ≡ 8 → ((i : ℕ) → get_or b i 0 < 256) → from_be_bytes w64 b < 18446744073709551616
small_half b long small =
    let a = small 0 in let c = small 1 in let d = small 2 in let e = small 3 in let f = small 4 in let g = small 5 in let h = small 6 in let i = small 7 in
    omega arith

-- ---- the characters of an id

-- the value of a digit, by its place among the digits
abbrev value_at : List ℕ → ℕ → ℕ
value_at text i = value_of (slice_index text (hyphen_place i))

-- a byte of two such values
abbrev pair : ℕ → ℕ → ℕ
pair v w = v % 16 * 16 + w % 16

abbrev byte_in : List ℕ → ℕ → ℕ
byte_in text j = pair (value_at text (2 * j)) (value_at text (2 * j + 1))

pair_small : (v w : ℕ) → pair v w < 256
pair_small v w = omega arith

pair_high : (v w : ℕ) → v < 16 → pair v w / 16 % 16 ≡ v
pair_high v w small = omega arith

pair_low : (v w : ℕ) → w < 16 → pair v w % 16 ≡ w
pair_low v w small = omega arith

digit_small : (c : ℕ) → is_id_digit c ≡ true → value_of c < 16
digit_small c h = grind (arith, nat_tests)

digit_again : (c : ℕ) → is_id_digit c ≡ true → hex_digit lower (value_of c) ≡ c
digit_again c h = grind (arith, nat_tests)

place_back : (k : ℕ) → k < 36 → is_hyphen_place k ≡ false → hyphen_place (digit_place k) ≡ k
place_back k within h = grind (arith, nat_tests)

place_small : (k : ℕ) → k < 36 → digit_place k < 32
place_small k within = grind (arith, nat_tests)

-- ---- the number of sixteen bytes

half_small : (p : ℕ → ℕ) → ((j : ℕ) → p j < 256) → (a b c d e f g h : ℕ) → (i : ℕ) → get_or (p a ∷ p b ∷ p c ∷ p d ∷ p e ∷ p f ∷ p g ∷ p h ∷ []) i 0 < 256
half_small p small a b c d e f g h zero = small a
half_small p small a b c d e f g h (suc zero) = small b
half_small p small a b c d e f g h (suc (suc zero)) = small c
half_small p small a b c d e f g h (suc (suc (suc zero))) = small d
half_small p small a b c d e f g h (suc (suc (suc (suc zero)))) = small e
half_small p small a b c d e f g h (suc (suc (suc (suc (suc zero))))) = small f
half_small p small a b c d e f g h (suc (suc (suc (suc (suc (suc zero)))))) = small g
half_small p small a b c d e f g h (suc (suc (suc (suc (suc (suc (suc zero))))))) = small h
half_small p small a b c d e f g h (suc (suc (suc (suc (suc (suc (suc (suc i)))))))) = omega arith

high_same : (high low : ℕ) → low < 18446744073709551616 → take 8 (to_be_bytes w128 (number_of_halves high low)) ≡ to_be_bytes w64 high
high_same high low small =
    let at_7 = high_byte high low 72057594037927936 1329227995784915872903807060280344576 small refl in
    let at_6 = high_byte high low 281474976710656 5192296858534827628530496329220096 small refl in
    let at_5 = high_byte high low 1099511627776 20282409603651670423947251286016 small refl in
    let at_4 = high_byte high low 4294967296 79228162514264337593543950336 small refl in
    let at_3 = high_byte high low 16777216 309485009821345068724781056 small refl in
    let at_2 = high_byte high low 65536 1208925819614629174706176 small refl in
    let at_1 = high_byte high low 256 4722366482869645213696 small refl in
    let at_0 : number_of_halves high low / 18446744073709551616 % 256 ≡ high % 256 = ap (λ (n : ℕ). n % 256) (high_bytes high low small) in
    λ i. at_7 i ∷ at_6 i ∷ at_5 i ∷ at_4 i ∷ at_3 i ∷ at_2 i ∷ at_1 i ∷ at_0 i ∷ []

low_same : (high low : ℕ) → drop 8 (to_be_bytes w128 (number_of_halves high low)) ≡ to_be_bytes w64 low
low_same high low =
    let at_7 = low_byte_at high low 72057594037927936 1 (omega arith) refl in
    let at_6 = low_byte_at high low 281474976710656 256 (omega arith) refl in
    let at_5 = low_byte_at high low 1099511627776 65536 (omega arith) refl in
    let at_4 = low_byte_at high low 4294967296 16777216 (omega arith) refl in
    let at_3 = low_byte_at high low 16777216 4294967296 (omega arith) refl in
    let at_2 = low_byte_at high low 65536 1099511627776 (omega arith) refl in
    let at_1 = low_byte_at high low 256 281474976710656 (omega arith) refl in
    let at_0 : number_of_halves high low % 256 ≡ low % 256 = omega arith in
    λ i. at_7 i ∷ at_6 i ∷ at_5 i ∷ at_4 i ∷ at_3 i ∷ at_2 i ∷ at_1 i ∷ at_0 i ∷ []

-- a number whose bytes are these
record HasBytes (p : ℕ → ℕ) : Type 0 where
  number : ℕ
  small : number < 2 ^ 128
  is : to_be_bytes w128 number ≡ by_index 16 p

number_with : (p : ℕ → ℕ) → ((j : ℕ) → p j < 256) → HasBytes p
unfolding by_index
number_with p small =
    let high = from_be_bytes w64 (high_half p) in
    let low = from_be_bytes w64 (low_half p) in
    let high_small = small_half (high_half p) refl (half_small p small 0 1 2 3 4 5 6 7) in
    let low_small = small_half (low_half p) refl (half_small p small 8 9 10 11 12 13 14 15) in
    let front = high_same high low low_small ∙ be_bytes_8 (high_half p) high refl (half_small p small 0 1 2 3 4 5 6 7) refl in
    let back = low_same high low ∙ be_bytes_8 (low_half p) low refl (half_small p small 8 9 10 11 12 13 14 15) refl in
    record {
      number = number_of_halves high low;
      small = omega (arith, high_small, low_small);
      is = λ i. front i ++ back i;
    }

-- ---- an id from its characters

abbrev bytes_of : List ℕ → List ℕ
bytes_of text = by_index 16 (byte_in text)

all_small : (text : List ℕ) (j : ℕ) → byte_in text j < 256
all_small text j = pair_small (value_at text (2 * j)) (value_at text (2 * j + 1))

even_half : (text : List ℕ) (j : ℕ) → j < 16 → value_at text (2 * j) < 16 → nibble (bytes_of text) (2 * j) ≡ value_at text (2 * j)
even_half text j within small =
    nibble_even (bytes_of text) j ∙ ap (λ (n : ℕ). n / 16 % 16) (by_index_at 16 (byte_in text) j 0 within) ∙ pair_high (value_at text (2 * j)) (value_at text (2 * j + 1)) small

odd_half : (text : List ℕ) (j : ℕ) → j < 16 → value_at text (2 * j + 1) < 16 → nibble (bytes_of text) (2 * j + 1) ≡ value_at text (2 * j + 1)
odd_half text j within small =
    nibble_odd (bytes_of text) j ∙ ap (λ (n : ℕ). n % 16) (by_index_at 16 (byte_in text) j 0 within) ∙ pair_low (value_at text (2 * j)) (value_at text (2 * j + 1)) small

half_back : (text : List ℕ) (i j : ℕ) → i < 32 → (i ≡ 2 * j) ⊎ (i ≡ 2 * j + 1) → value_at text i < 16 → nibble (bytes_of text) i ≡ value_at text i
half_back text i j within (inl even) small =
    let P : ℕ → Type 0 = λ k. value_at text k < 16 in
    ap (nibble (bytes_of text)) even ∙ even_half text j (omega arith) (subst P even small) ∙ ap (value_at text) (sym even)
half_back text i j within (inr odd) small =
    let P : ℕ → Type 0 = λ k. value_at text k < 16 in
    ap (nibble (bytes_of text)) odd ∙ odd_half text j (omega arith) (subst P odd small) ∙ ap (value_at text) (sym odd)

halved : (i : ℕ) → (i ≡ 2 * (i / 2)) ⊎ (i ≡ 2 * (i / 2) + 1)
halved i = elim (cases_eq (i % 2) 0) [ inl even ↦ inl (omega arith) | inr odd ↦ inr (omega arith) ]

digit_back : (text : List ℕ) (k : ℕ) → k < 36 → is_hyphen_place k ≡ false → is_id_digit (get_or text k 0) ≡ true → get_or text k 0 ≡ hex_digit lower (nibble (bytes_of text) (digit_place k))
digit_back text k within place digit =
    let i : ℕ = digit_place k in
    let here : value_at text (digit_place k) ≡ value_of (get_or text k 0) = ap (λ (p : ℕ). value_of (get_or text p 0)) (place_back k within place) in
    let small : value_at text (digit_place k) < 16 = (let below = digit_small (get_or text k 0) digit in let P : ℕ → Type 0 = λ n. n < 16 in subst P (sym here) below) in
    sym (ap (hex_digit lower) (half_back text (digit_place k) (digit_place k / 2) (place_small k within) (halved (digit_place k)) small ∙ here) ∙ digit_again (get_or text k 0) digit)

char_back : (text : List ℕ) (k : ℕ) (b : Bool) → k < 36 → is_hyphen_place k ≡ b → cond b (get_or text k 0 == 45) (is_id_digit (get_or text k 0)) ≡ true → get_or text k 0 ≡ cond b 45 (hex_digit lower (nibble (bytes_of text) (digit_place k)))
char_back text k true within place fits = eqb-true (get_or text k 0) 45 fits
char_back text k false within place fits = digit_back text k within place fits

pub id_back : (text : List ℕ) → length text ≡ 36 → ((k : ℕ) → k < 36 → fits_place k (get_or text k 0) ≡ true) → IsIdText text
unfolding id_text
id_back text long fits =
    let made = number_with (byte_in text) (all_small text) in
    let same = by_index_same text 36 (λ k. cond (is_hyphen_place k) 45 (hex_digit lower (nibble (bytes_of text) (digit_place k)))) long
    (λ k d within. get_or_default text k d 0 (rw long within) ∙ char_back text k (is_hyphen_place k) within refl (fits k within)) in
    record {
      id = made.number;
      small = made.small;
      is = same ∙ ap (hyphenated_text lower) (sym made.is);
    }

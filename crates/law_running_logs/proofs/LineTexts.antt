-- The words of a merged log's line: its machine, its turn, its text, and the words of that.
use Rattle.std.proofs.Common.{◌≡◌, ◌∙◌, refl, sym, ap, subst, ℕ, ◌+◌, ◌<◌, ◌≤◌, ◌^◌, ◌==◌, ◌&&◌, ◌||◌, Bool, true, false, List, [], ◌∷◌, ◌++◌, Option, Some, None, append_assoc, arith, codes, decimal, drop, length, take, if◌then◌else◌}
use Rattle.std.specs.Prelude.{nat_le, nat_lt}
use Rattle.std.specs.Char.{is_ascii_digit}
use Rattle.std.specs.List.{list_all}
use Rattle.std.proofs.Math.Seq.{drop-append-add, take-append_seam}
use Rattle.std.proofs.lemmas.Bool.{and_from, and_parts, le-leb, lt-ltb, ltb-false, ltb-true}
use Rattle.std.proofs.lemmas.Bool.Decides.{nat_tests}
use Rattle.std.proofs.lemmas.Fmt.{decimal_nonempty, digits_decimal, digits_value-decimal, length-decimal-le}
use Rattle.line_base.specs.Number.{is_digits, value_of}
use Rattle.line_base.proofs.Digits.{is_digits-true}
use Rattle.line_base.proofs.Printable.{decimal_digits}
use Rattle.line_base.proofs.Written.{own_numerals}
use Rattle.board_record.proofs.IdTexts.{is_id_byte}
use Rattle.line_check.specs.declared.group.Group.{Group}
use Rattle.line_check.specs.LogLine.{group_in, group_of, group_with, is_machine, is_number, is_turn, read_group, text_of}
use Rattle.line_check.specs.Words.{behind, cut_at_space, parts_at, space_from}
use Rattle.law_running_logs.specs.Merged.{CanBeNamed, merged_line}

-- ---- a word, and a blank behind it

-- the bytes of numbers and of ids are none
no_blank : (b : ℕ) → is_id_byte b ≡ true → (b == 32) ≡ false
no_blank b solid = grind (arith, nat_tests)

digit_byte : (b : ℕ) → is_ascii_digit b ≡ true → is_id_byte b ≡ true
digit_byte b is = grind (arith, nat_tests)

digit_bytes : (word : List ℕ) → list_all is_ascii_digit word ≡ true → list_all is_id_byte word ≡ true
digit_bytes [] all = refl
digit_bytes (b ∷ word) all =
    let parts = and_parts (is_ascii_digit b) (list_all is_ascii_digit word) all in
    and_from (is_id_byte b) (list_all is_id_byte word) (digit_byte b parts.0) (digit_bytes word parts.1)

pub number_bytes : (n : ℕ) → n < 2 ^ 64 → list_all is_id_byte (decimal n) ≡ true
number_bytes n fits = digit_bytes (decimal n) (decimal_digits n fits)

step_on : (test : Bool) (place at : ℕ) (later : Option ℕ) → test ≡ false → later ≡ Some at → (if test then Some place else later) ≡ Some at
step_on true place at later off is = absurd (let h : true ≡ false = off in cc)
step_on false place at later off is = is

first_blank : (place : ℕ) (word rest : List ℕ) → list_all is_id_byte word ≡ true → space_from place (word ++ (32 ∷ rest)) ≡ Some (place + length word)
first_blank place [] rest solid = ap (λ (n : ℕ). Some n) (omega arith)
first_blank place (b ∷ word) rest solid =
    let parts = and_parts (is_id_byte b) (list_all is_id_byte word) solid in
    let far : place + 1 + length word ≡ place + length (b ∷ word) = omega arith in
    step_on (b == 32) place (place + length (b ∷ word)) (space_from (place + 1) (word ++ (32 ∷ rest))) (no_blank b parts.0)
    (first_blank (place + 1) word rest parts.1 ∙ ap (λ (n : ℕ). Some n) far)

pub cut_word : (word rest : List ℕ) → list_all is_id_byte word ≡ true → cut_at_space (word ++ (32 ∷ rest)) ≡ Some (word, rest)
cut_word word rest solid =
    let whole : List ℕ = word ++ (32 ∷ rest) in
    let front : take (length word) whole ≡ word = take-append_seam word (32 ∷ rest) in
    let back : drop (length word + 1) whole ≡ rest = drop-append-add word (32 ∷ rest) 1 in
    ap (λ (o : Option ℕ). parts_at o whole) (first_blank 0 word rest solid ∙ ap (λ (n : ℕ). Some n) (omega arith))
    ∙ ap (λ (l : List ℕ). Some (l, drop (length word + 1) whole)) front
    ∙ ap (λ (l : List ℕ). Some (word, l)) back

-- the same, with the blank at the end of the word's text
pub cut_spaced : (word rest : List ℕ) → list_all is_id_byte word ≡ true → cut_at_space ((word ++ codes " ") ++ rest) ≡ Some (word, rest)
cut_spaced word rest solid = ap cut_at_space (append_assoc word (codes " ") rest) ∙ cut_word word rest solid

-- ---- numbers

digits_of : (least most n : ℕ) → least ≤ 1 → 0 < most → n < 10 ^ most → n < 2 ^ 64 → is_digits least most (decimal n) ≡ true
digits_of least most n low some small fits =
    let one = decimal_nonempty n fits in
    is_digits-true least most (decimal n) (record { digits = digits_decimal own_numerals n fits; enough = omega (arith, low, one); few = length-decimal-le most n some small fits })

pub value_is : (n : ℕ) → n < 2 ^ 64 → value_of (decimal n) ≡ n
value_is n fits = digits_value-decimal own_numerals n fits

pub number_is : (n : ℕ) → n < 2 ^ 32 → is_number (decimal n) ≡ true
number_is n small = digits_of 1 10 n (omega arith) (omega arith) (omega (arith, small)) (omega (arith, small))

turn_is : (n : ℕ) → n < 10 ^ 15 → is_turn (decimal n) ≡ true
turn_is n small = digits_of 1 15 n (omega arith) (omega arith) small (omega (arith, small))

-- a machine's number has no zero before it
no_zero : (n : ℕ) → n < 2 ^ 64 → (one : Bool) → (length (decimal n) == 1) ≡ one → (one || nat_le 10 n) ≡ true
no_zero n fits true is = refl
no_zero n fits false is = by (nat_lt n 10) refl where
  by : (b : Bool) → nat_lt n 10 ≡ b → nat_le 10 n ≡ true
  by true less =
      let small : n < 10 = ltb-true n 10 less in
      let some = decimal_nonempty n fits in
      let few : length (decimal n) ≤ 1 = length-decimal-le 1 n (omega arith) (omega (arith, small)) fits in
      let one : length (decimal n) ≡ 1 = omega (arith, some, few) in
      let h : (length (decimal n) == 1) ≡ true = ap (λ (k : ℕ). k == 1) one in
      absurd (let g : true ≡ false = sym h ∙ is in cc)
  by false more = le-leb 10 n (ltb-false n 10 more)

machine_is : (n : ℕ) → 1 ≤ n → n ≤ 64 → is_machine (decimal n) ≡ true
machine_is n least most =
    let fits : n < 2 ^ 64 = omega (arith, most) in
    let value : value_of (decimal n) ≡ n = value_is n fits in
    let rest : (nat_lt 0 n && (nat_le n 64 && (length (decimal n) == 1 || nat_le 10 n))) ≡ true =
    and_from (nat_lt 0 n) (nat_le n 64 && (length (decimal n) == 1 || nat_le 10 n)) (lt-ltb 0 n least)
    (and_from (nat_le n 64) (length (decimal n) == 1 || nat_le 10 n) (le-leb n 64 most) (no_zero n fits (length (decimal n) == 1) refl)) in
    and_from (is_digits 1 2 (decimal n)) _ (digits_of 1 2 n (omega arith) (omega arith) (omega (arith, most)) fits)
    (subst (λ (v : ℕ). (nat_lt 0 v && (nat_le v 64 && (length (decimal n) == 1 || nat_le 10 v))) ≡ true) (sym value) rest)

-- ---- the line

abbrev rest_of : ℕ → List ℕ → List ℕ
rest_of turn text = (decimal turn ++ codes " ") ++ text

cut_line : (machine turn : ℕ) (text : List ℕ) → machine < 2 ^ 64 → cut_at_space (merged_line machine turn text) ≡ Some (decimal machine, rest_of turn text)
cut_line machine turn text fits = cut_spaced (decimal machine) (rest_of turn text) (number_bytes machine fits)

cut_turn : (turn : ℕ) (text : List ℕ) → turn < 2 ^ 64 → cut_at_space (rest_of turn text) ≡ Some (decimal turn, text)
cut_turn turn text fits = cut_spaced (decimal turn) text (number_bytes turn fits)

-- what is read of the first two words
read_is : (machine turn : ℕ) → is_machine (decimal machine) ≡ true → is_turn (decimal turn) ≡ true → machine < 2 ^ 64 → turn < 2 ^ 64 → read_group (decimal machine) (decimal turn) ≡ Some (record { machine = machine; turn = turn })
read_is machine turn one two small fits =
    let both : Option Group = Some (record { machine = value_of (decimal machine); turn = value_of (decimal turn) }) in
    ap (λ (b : Bool). if b then (if is_turn (decimal turn) then both else None) else None) one
    ∙ ap (λ (b : Bool). if b then both else None) two
    ∙ ap (λ (v : ℕ). Some (record { machine = v; turn = value_of (decimal turn) })) (value_is machine small)
    ∙ ap (λ (v : ℕ). Some (record { machine = machine; turn = v })) (value_is turn fits)

pub group_is : (machine number turn : ℕ) (text : List ℕ) → CanBeNamed machine number turn → group_of (merged_line machine turn text) ≡ Some (record { machine = machine; turn = turn })
group_is machine number turn text named =
    let small : machine < 2 ^ 64 = (let most = named.most in omega (arith, most)) in
    let fits : turn < 2 ^ 64 = (let early = named.early in omega (arith, early)) in
    ap group_in (cut_line machine turn text small)
    ∙ ap (group_with (decimal machine)) (cut_turn turn text fits)
    ∙ read_is machine turn (machine_is machine named.least named.most) (turn_is turn named.early) small fits

pub text_is : (machine number turn : ℕ) (text : List ℕ) → CanBeNamed machine number turn → text_of (merged_line machine turn text) ≡ text
text_is machine number turn text named =
    let small : machine < 2 ^ 64 = (let most = named.most in omega (arith, most)) in
    let fits : turn < 2 ^ 64 = (let early = named.early in omega (arith, early)) in
    ap (λ (o : Option (List ℕ × List ℕ)). behind (cut_at_space (behind o))) (cut_line machine turn text small)
    ∙ ap behind (cut_turn turn text fits)

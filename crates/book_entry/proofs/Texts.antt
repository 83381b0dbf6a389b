-- Texts, and bytes that go on to one: by no more, or by what the least allowed character has behind
-- its bytes that are there.
use Rattle.std.proofs.Common.{◌≡◌, ℕ, zero, suc, ◌+◌, ◌-◌, ◌*◌, ◌/◌, ◌%◌, ◌<◌, ◌≤◌, Bool, true, false, cond, ◌&&◌, ◌||◌, nat_le, nat_lt, List, [], ◌∷◌, ◌++◌, Result, Ok, Err, length, take, drop, refl, sym, ap, ◌∙◌, subst, arith, append_assoc, append-nil, length-append, take-append-drop, ◌⊎◌, inl, inr, leb-true, leb-false, le-leb, lt-ltb, ltb, leb, IsUtf8, encode_utf8, chars}
use lib.Utf8.{scalar, scalars, encode, encodes}
use Rattle.std.specs.List.{list_all}
use Rattle.std.specs.Str.{is_utf8}
use Rattle.std.proofs.lemmas.Bool.{and_from, and_parts, or_cases, or_left, or_right, cases_lt, false_from_ne_true}
use Rattle.std.proofs.lemmas.Bool.Decides.{nat_tests}
use Rattle.std.proofs.lemmas.List.{take_at, drop_at, take_all, append_cancel_left, length-take-le, take-append-le, drop-append-le}
use Rattle.std.proofs.lemmas.Str.{IsUtf8-append, IsUtf8-from_is_utf8, is_utf8-from_IsUtf8, chars-append, chars-encodes, encodes-append, encodes-chars, scalars-chars, length-encode, len_utf8_bounds, encode_ascii}
use Rattle.line_base.specs.Text.{IsAllowed, IsText, is_allowed_char}
use Rattle.hermes_element.proofs.Wide.{encode_2, encode_3, encode_4}
use Rattle.book_entry.specs.declared.fault.Fail.{Fail}
use Rattle.book_entry.specs.declared.fault.Fail.TheVariants as fails
use Rattle.book_entry.specs.Reading.{chars_in, ends_by, ends_late, ends_soon, goes_on, is_text}
use Rattle.book_entry.specs.Spelling.{AreBytes}
use Rattle.book_entry.proofs.Forms.{Form, GoesOn, IsRead}

-- ---- the test

pub text_is : (bytes : List ℕ) → is_text bytes ≡ true → IsAllowed bytes
unfolding is_text
text_is bytes e =
    let d = and_parts (is_utf8 bytes) (list_all is_allowed_char (chars bytes)) e in
    record { utf8 = IsUtf8-from_is_utf8 bytes d.0; allowed = d.1 }

pub is_text_of : (bytes : List ℕ) → IsAllowed bytes → is_text bytes ≡ true
unfolding is_text
is_text_of bytes is = and_from (is_utf8 bytes) (list_all is_allowed_char (chars bytes)) (is_utf8-from_IsUtf8 bytes is.utf8) is.allowed

all_append : (p : ℕ → Bool) (xs ys : List ℕ) → list_all p xs ≡ true → list_all p ys ≡ true → list_all p (xs ++ ys) ≡ true
all_append p [] ys a b = b
all_append p (x ∷ xs) ys a b =
    let d = and_parts (p x) (list_all p xs) a in
    and_from (p x) (list_all p (xs ++ ys)) d.0 (all_append p xs ys d.1 b)

pub allowed_append : (xs ys : List ℕ) → IsAllowed xs → IsAllowed ys → IsAllowed (xs ++ ys)
allowed_append xs ys a b = record {
  utf8 = IsUtf8-append xs ys a.utf8 b.utf8;
  allowed = ap (list_all is_allowed_char) (chars-append xs ys a.utf8) ∙ all_append is_allowed_char (chars xs) (chars ys) a.allowed b.allowed;
}

-- texts of characters
all_chars : (cs : List ℕ) → scalars cs ≡ true → list_all is_allowed_char cs ≡ true → IsAllowed (encodes cs)
all_chars cs s a = record { utf8 = (cs, (s, refl)); allowed = ap (list_all is_allowed_char) (chars-encodes cs s) ∙ a }

pub nothing_allowed : IsAllowed []
nothing_allowed = all_chars [] refl refl

-- ---- as many letters as are wanted

abbrev letters : ℕ → List ℕ
letters zero = []
letters (suc n) = 97 ∷ letters n

letters_length : (n : ℕ) → length (letters n) ≡ n
letters_length zero = refl
letters_length (suc n) = omega (arith, letters_length n)

letters_scalars : (n : ℕ) → scalars (letters n) ≡ true
letters_scalars zero = refl
letters_scalars (suc n) = letters_scalars n

letters_encode : (n : ℕ) → encodes (letters n) ≡ letters n
letters_encode zero = refl
letters_encode (suc n) = ap (λ (x : List ℕ). x ++ encodes (letters n)) (encode_ascii 97 (omega arith)) ∙ ap (λ (x : List ℕ). 97 ∷ x) (letters_encode n)

letters_pass : (n : ℕ) → list_all is_allowed_char (letters n) ≡ true
letters_pass zero = refl
letters_pass (suc n) = letters_pass n

pub letters_allowed : (n : ℕ) → IsAllowed (letters n)
letters_allowed n = subst IsAllowed (letters_encode n) (all_chars (letters n) (letters_scalars n) (letters_pass n))

-- ---- an end that makes a text of the bytes

data IsEnd : List ℕ → Type 0 where
  none : IsEnd []
  one : IsEnd (128 ∷ [])
  two : IsEnd (128 ∷ 128 ∷ [])
  two_over : IsEnd (160 ∷ 128 ∷ [])
  three : IsEnd (128 ∷ 128 ∷ 128 ∷ [])
  three_over : IsEnd (144 ∷ 128 ∷ 128 ∷ [])

record Ends (count : ℕ) (bytes : List ℕ) : Type 0 where
  end : List ℕ
  end_is : IsEnd end
  fits : length bytes + length end ≤ count
  allowed : IsAllowed (bytes ++ end)

ended : (count : ℕ) (bytes end : List ℕ) → length bytes + length end ≤ count → IsAllowed (bytes ++ end) → ends_by count bytes end ≡ true
ended count bytes end fits allowed = and_from (nat_le (length bytes + length end) count) (is_text (bytes ++ end)) (le-leb (length bytes + length end) count fits) (is_text_of (bytes ++ end) allowed)

by_end : (count : ℕ) (bytes end : List ℕ) → IsEnd end → ends_by count bytes end ≡ true → goes_on count bytes ≡ true
unfolding goes_on
by_end count bytes end none e = or_left (ends_soon count bytes) (ends_late count bytes) (or_left (ends_by count bytes []) (ends_by count bytes (128 ∷ []) || ends_by count bytes (128 ∷ 128 ∷ [])) e)
by_end count bytes end one e = or_left (ends_soon count bytes) (ends_late count bytes) (or_right (ends_by count bytes []) (ends_by count bytes (128 ∷ []) || ends_by count bytes (128 ∷ 128 ∷ [])) (or_left (ends_by count bytes (128 ∷ [])) (ends_by count bytes (128 ∷ 128 ∷ [])) e))
by_end count bytes end two e = or_left (ends_soon count bytes) (ends_late count bytes) (or_right (ends_by count bytes []) (ends_by count bytes (128 ∷ []) || ends_by count bytes (128 ∷ 128 ∷ [])) (or_right (ends_by count bytes (128 ∷ [])) (ends_by count bytes (128 ∷ 128 ∷ [])) e))
by_end count bytes end two_over e = or_right (ends_soon count bytes) (ends_late count bytes) (or_left (ends_by count bytes (160 ∷ 128 ∷ [])) (ends_by count bytes (128 ∷ 128 ∷ 128 ∷ []) || ends_by count bytes (144 ∷ 128 ∷ 128 ∷ [])) e)
by_end count bytes end three e = or_right (ends_soon count bytes) (ends_late count bytes) (or_right (ends_by count bytes (160 ∷ 128 ∷ [])) (ends_by count bytes (128 ∷ 128 ∷ 128 ∷ []) || ends_by count bytes (144 ∷ 128 ∷ 128 ∷ [])) (or_left (ends_by count bytes (128 ∷ 128 ∷ 128 ∷ [])) (ends_by count bytes (144 ∷ 128 ∷ 128 ∷ [])) e))
by_end count bytes end three_over e = or_right (ends_soon count bytes) (ends_late count bytes) (or_right (ends_by count bytes (160 ∷ 128 ∷ [])) (ends_by count bytes (128 ∷ 128 ∷ 128 ∷ []) || ends_by count bytes (144 ∷ 128 ∷ 128 ∷ [])) (or_right (ends_by count bytes (128 ∷ 128 ∷ 128 ∷ [])) (ends_by count bytes (144 ∷ 128 ∷ 128 ∷ [])) e))

with_end : (count : ℕ) (bytes : List ℕ) → Ends count bytes → goes_on count bytes ≡ true
with_end count bytes e = by_end count bytes e.end e.end_is (ended count bytes e.end e.fits e.allowed)

-- ---- and then it goes on to a text of that many bytes

pub record IsTextOf (count : ℕ) (text : List ℕ) : Type 0 where
  pub text_is : IsText text
  pub size : length text ≡ count

abbrev pub as_is : List ℕ → List ℕ
as_is text = text

filled : (count : ℕ) (bytes end : List ℕ) → count ≤ 1024 → ends_by count bytes end ≡ true → GoesOn as_is (IsTextOf count) bytes
filled count bytes end most e =
    let d = and_parts (nat_le (length bytes + length end) count) (is_text (bytes ++ end)) e in
    let fits = leb-true (length bytes + length end) count d.0 in
    let wanted = count - (length bytes + length end) in
    let size : length ((bytes ++ end) ++ letters wanted) ≡ count = omega (arith, length-append (bytes ++ end) (letters wanted), length-append bytes end, letters_length wanted) in
    record {
      value = (bytes ++ end) ++ letters wanted;
      value_fits = record {
        text_is = record { short = omega (arith, size); allowed = allowed_append (bytes ++ end) (letters wanted) (text_is (bytes ++ end) d.1) (letters_allowed wanted) };
        size = size;
      };
      more = end ++ letters wanted;
      spelled = sym (append_assoc bytes end (letters wanted));
    }

soon_filled : (count : ℕ) (bytes : List ℕ) → count ≤ 1024 → ends_soon count bytes ≡ true → GoesOn as_is (IsTextOf count) bytes
soon_filled count bytes most e = elim (or_cases (ends_by count bytes []) (ends_by count bytes (128 ∷ []) || ends_by count bytes (128 ∷ 128 ∷ [])) e) [
  | inl a ↦ filled count bytes [] most a
  | inr a ↦ elim (or_cases (ends_by count bytes (128 ∷ [])) (ends_by count bytes (128 ∷ 128 ∷ [])) a) [
    | inl b ↦ filled count bytes (128 ∷ []) most b
    | inr b ↦ filled count bytes (128 ∷ 128 ∷ []) most b
  ]
]

late_filled : (count : ℕ) (bytes : List ℕ) → count ≤ 1024 → ends_late count bytes ≡ true → GoesOn as_is (IsTextOf count) bytes
late_filled count bytes most e = elim (or_cases (ends_by count bytes (160 ∷ 128 ∷ [])) (ends_by count bytes (128 ∷ 128 ∷ 128 ∷ []) || ends_by count bytes (144 ∷ 128 ∷ 128 ∷ [])) e) [
  | inl a ↦ filled count bytes (160 ∷ 128 ∷ []) most a
  | inr a ↦ elim (or_cases (ends_by count bytes (128 ∷ 128 ∷ 128 ∷ [])) (ends_by count bytes (144 ∷ 128 ∷ 128 ∷ [])) a) [
    | inl b ↦ filled count bytes (128 ∷ 128 ∷ 128 ∷ []) most b
    | inr b ↦ filled count bytes (144 ∷ 128 ∷ 128 ∷ []) most b
  ]
]

goes_filled : (count : ℕ) (bytes : List ℕ) → count ≤ 1024 → goes_on count bytes ≡ true → GoesOn as_is (IsTextOf count) bytes
unfolding goes_on
goes_filled count bytes most e = elim (or_cases (ends_soon count bytes) (ends_late count bytes) e) [
  | inl a ↦ soon_filled count bytes most a
  | inr a ↦ late_filled count bytes most a
]

-- ---- a proper front of a character has such an end

high_ranges : (c : ℕ) → is_allowed_char c ≡ true → 128 ≤ c → (c ≤ 55295) ⊎ (((57344 ≤ c) × (c ≤ 65533)) ⊎ ((65536 ≤ c) × (c ≤ 1114111)))
high_ranges c h low = elim (cases_lt c 55296) [
  | inl a ↦ inl (omega arith)
  | inr a ↦ elim (cases_lt c 65536) [
    | inl b ↦ inr (inl (grind (arith, nat_tests), grind (arith, nat_tests)))
    | inr b ↦ inr (inr (b, grind (arith, nat_tests)))
  ]
]

low_allowed : (m : ℕ) → 128 ≤ m → m ≤ 55295 → is_allowed_char m ≡ true
low_allowed m a b = grind (arith, nat_tests)

mid_allowed : (m : ℕ) → 57344 ≤ m → m ≤ 65533 → is_allowed_char m ≡ true
mid_allowed m a b = grind (arith, nat_tests)

top_allowed : (m : ℕ) → 65536 ≤ m → m ≤ 1114111 → is_allowed_char m ≡ true
top_allowed m a b = grind (arith, nat_tests)

abbrev IsHigh : ℕ → Type 0
IsHigh c = (c ≤ 55295) ⊎ (((57344 ≤ c) × (c ≤ 65533)) ⊎ ((65536 ≤ c) × (c ≤ 1114111)))

high_allowed : (c : ℕ) → 128 ≤ c → IsHigh c → is_allowed_char c ≡ true
high_allowed c low (inl a) = low_allowed c low a
high_allowed c low (inr (inl a)) = mid_allowed c a.0 a.1
high_allowed c low (inr (inr a)) = top_allowed c a.0 a.1

high_scalar : (c : ℕ) → IsHigh c → scalar c ≡ true
high_scalar c (inl a) = grind (arith, nat_tests)
high_scalar c (inr (inl a)) = grind (arith, nat_tests)
high_scalar c (inr (inr a)) = grind (arith, nat_tests)

char_allowed : (c : ℕ) → 128 ≤ c → IsHigh c → IsAllowed (encode c)
char_allowed c low is = subst IsAllowed (append-nil (encode c)) (all_chars (c ∷ []) (and_from (scalar c) true (high_scalar c is) refl) (and_from (is_allowed_char c) true (high_allowed c low is) refl))

-- the least character of a block of 64, 4096 or 262144 is allowed where any of it is
block_64 : (c : ℕ) → 128 ≤ c → IsHigh c → IsHigh (c / 64 * 64)
block_64 c low (inl a) = inl (omega arith)
block_64 c low (inr (inl a)) = inr (inl (omega (arith, a.0, a.1), omega (arith, a.0, a.1)))
block_64 c low (inr (inr a)) = inr (inr (omega (arith, a.0, a.1), omega (arith, a.0, a.1)))

block_4096 : (c : ℕ) → 4096 ≤ c → IsHigh c → IsHigh (c / 4096 * 4096)
block_4096 c low (inl a) = inl (omega arith)
block_4096 c low (inr (inl a)) = inr (inl (omega (arith, a.0, a.1), omega (arith, a.0, a.1)))
block_4096 c low (inr (inr a)) = inr (inr (omega (arith, a.0, a.1), omega (arith, a.0, a.1)))

block_262144 : (c : ℕ) → 262144 ≤ c → IsHigh c → IsHigh (c / 262144 * 262144)
block_262144 c low (inl a) = absurd (omega arith)
block_262144 c low (inr (inl a)) = absurd (omega (arith, a.1))
block_262144 c low (inr (inr a)) = inr (inr (omega (arith, a.0, a.1), omega (arith, a.0, a.1)))

-- the end that this character gives
ends_with : (count c : ℕ) (bytes end : List ℕ) → IsEnd end → length bytes + length end ≤ count → 128 ≤ c → IsHigh c → encode c ≡ bytes ++ end → Ends count bytes
ends_with count c bytes end is fits low high e = record { end = end; end_is = is; fits = fits; allowed = subst IsAllowed e (char_allowed c low high) }

list_1 : (a b : ℕ) → a ≡ b → a ∷ [] ≡ b ∷ []
list_1 a b e = λ i. e i ∷ []

list_2 : (a b c d : ℕ) → a ≡ c → b ≡ d → a ∷ b ∷ [] ≡ c ∷ d ∷ []
list_2 a b c d e f = λ i. e i ∷ f i ∷ []

list_3 : (a b c x y z : ℕ) → a ≡ x → b ≡ y → c ≡ z → a ∷ b ∷ c ∷ [] ≡ x ∷ y ∷ z ∷ []
list_3 a b c x y z e f g = λ i. e i ∷ f i ∷ g i ∷ []

list_4 : (a b c d x y z u : ℕ) → a ≡ x → b ≡ y → c ≡ z → d ≡ u → a ∷ b ∷ c ∷ d ∷ [] ≡ x ∷ y ∷ z ∷ u ∷ []
list_4 a b c d x y z u e f g h = λ i. e i ∷ f i ∷ g i ∷ h i ∷ []

end_2 : (c b : ℕ) (count : ℕ) → 2 ≤ count → 128 ≤ c → c < 2048 → IsHigh c → b ≡ 192 + c / 64 → Ends count (b ∷ [])
end_2 c b count fits low up high e =
    let m = c / 64 * 64 in
    ends_with count m (b ∷ []) (128 ∷ []) one fits (omega arith) (block_64 c low high)
    (encode_2 m (omega arith) (omega arith) ∙ list_2 (192 + m / 64) (128 + m % 64) b 128 (omega arith) (omega arith))

end_3_2 : (c b d : ℕ) (count : ℕ) → 3 ≤ count → 2048 ≤ c → c < 65536 → IsHigh c → b ≡ 224 + c / 4096 → d ≡ 128 + c / 64 % 64 → Ends count (b ∷ d ∷ [])
end_3_2 c b d count fits low up high e f =
    let m = c / 64 * 64 in
    let whole : m / 64 ≡ c / 64 = omega arith in
    let top : m / 4096 ≡ c / 4096 = omega arith in
    ends_with count m (b ∷ d ∷ []) (128 ∷ []) one fits (omega arith) (block_64 c (omega arith) high)
    (encode_3 m (omega arith) (omega arith) ∙ list_3 (224 + m / 4096) (128 + m / 64 % 64) (128 + m % 64) b d 128 (omega (arith, top)) (ap (λ x. 128 + x % 64) whole ∙ sym f) (omega arith))

end_3_1 : (c b : ℕ) (count : ℕ) → 3 ≤ count → 2048 ≤ c → c < 65536 → IsHigh c → b ≡ 224 + c / 4096 → Ends count (b ∷ [])
end_3_1 c b count fits low up high e = elim (cases_lt c 4096) [
  | inl small ↦ ends_with count 2048 (b ∷ []) (160 ∷ 128 ∷ []) two_over fits (omega arith) (inl (omega arith)) (encode_3 2048 (omega arith) (omega arith) ∙ list_3 224 160 128 b 160 128 (omega arith) refl refl)
  | inr large ↦
      let m = c / 4096 * 4096 in
      let top : m / 4096 ≡ c / 4096 = omega arith in
      let mid : m / 64 % 64 ≡ 0 = omega arith in
      ends_with count m (b ∷ []) (128 ∷ 128 ∷ []) two fits (omega arith) (block_4096 c large high)
      (encode_3 m (omega arith) (omega arith) ∙ list_3 (224 + m / 4096) (128 + m / 64 % 64) (128 + m % 64) b 128 128 (omega (arith, top)) (omega (arith, mid)) (omega arith))
]

end_4_3 : (c b d f : ℕ) (count : ℕ) → 4 ≤ count → 65536 ≤ c → IsHigh c → b ≡ 240 + c / 262144 → d ≡ 128 + c / 4096 % 64 → f ≡ 128 + c / 64 % 64 → Ends count (b ∷ d ∷ f ∷ [])
end_4_3 c b d f count fits low high e g h =
    let m = c / 64 * 64 in
    let whole : m / 64 ≡ c / 64 = omega arith in
    let mid : m / 4096 ≡ c / 4096 = omega arith in
    let top : m / 262144 ≡ c / 262144 = omega arith in
    ends_with count m (b ∷ d ∷ f ∷ []) (128 ∷ []) one fits (omega arith) (block_64 c (omega arith) high)
    (encode_4 m (omega arith) ∙ list_4 (240 + m / 262144) (128 + m / 4096 % 64) (128 + m / 64 % 64) (128 + m % 64) b d f 128 (omega (arith, top)) (ap (λ x. 128 + x % 64) mid ∙ sym g) (ap (λ x. 128 + x % 64) whole ∙ sym h) (omega arith))

end_4_2 : (c b d : ℕ) (count : ℕ) → 4 ≤ count → 65536 ≤ c → IsHigh c → b ≡ 240 + c / 262144 → d ≡ 128 + c / 4096 % 64 → Ends count (b ∷ d ∷ [])
end_4_2 c b d count fits low high e g =
    let m = c / 4096 * 4096 in
    let mid : m / 4096 ≡ c / 4096 = omega arith in
    let top : m / 262144 ≡ c / 262144 = omega arith in
    let small : m / 64 % 64 ≡ 0 = omega arith in
    ends_with count m (b ∷ d ∷ []) (128 ∷ 128 ∷ []) two fits (omega arith) (block_4096 c (omega arith) high)
    (encode_4 m (omega arith) ∙ list_4 (240 + m / 262144) (128 + m / 4096 % 64) (128 + m / 64 % 64) (128 + m % 64) b d 128 128 (omega (arith, top)) (ap (λ x. 128 + x % 64) mid ∙ sym g) (omega (arith, small)) (omega arith))

end_4_1 : (c b : ℕ) (count : ℕ) → 4 ≤ count → 65536 ≤ c → IsHigh c → b ≡ 240 + c / 262144 → Ends count (b ∷ [])
end_4_1 c b count fits low high e = elim (cases_lt c 262144) [
  | inl small ↦ ends_with count 65536 (b ∷ []) (144 ∷ 128 ∷ 128 ∷ []) three_over fits (omega arith) (inr (inr (omega arith, omega arith))) (encode_4 65536 (omega arith) ∙ list_4 240 144 128 128 b 144 128 128 (omega arith) refl refl refl)
  | inr large ↦
      let m = c / 262144 * 262144 in
      let top : m / 262144 ≡ c / 262144 = omega arith in
      let mid : m / 4096 % 64 ≡ 0 = omega arith in
      let small : m / 64 % 64 ≡ 0 = omega arith in
      ends_with count m (b ∷ []) (128 ∷ 128 ∷ 128 ∷ []) three fits (omega arith) (block_262144 c large high)
      (encode_4 m (omega arith) ∙ list_4 (240 + m / 262144) (128 + m / 4096 % 64) (128 + m / 64 % 64) (128 + m % 64) b 128 128 128 (omega (arith, top)) (omega (arith, mid)) (omega (arith, small)) (omega arith))
]

-- ---- the fronts of a character, by its number of bytes

front_1 : (count p : ℕ) (bytes more : List ℕ) → bytes ++ more ≡ p ∷ [] → 0 < length bytes → 0 < length more → Ends count bytes
front_1 count p bytes more e some left = absurd (omega (arith, length-append bytes more, ap length e))

front_2 : (count c : ℕ) (bytes more : List ℕ) → 2 ≤ count → 128 ≤ c → c < 2048 → IsHigh c → bytes ++ more ≡ (192 + c / 64) ∷ (128 + c % 64) ∷ [] → 0 < length bytes → 0 < length more → Ends count bytes
front_2 count c [] more fits low up high e some left = absurd (omega arith)
front_2 count c (b ∷ []) more fits low up high e some left = end_2 c b count fits low up high (cc)
front_2 count c (b ∷ d ∷ bytes) more fits low up high e some left = absurd (omega (arith, length-append (b ∷ d ∷ bytes) more, ap length e))

front_3 : (count c : ℕ) (bytes more : List ℕ) → 3 ≤ count → 2048 ≤ c → c < 65536 → IsHigh c → bytes ++ more ≡ (224 + c / 4096) ∷ (128 + c / 64 % 64) ∷ (128 + c % 64) ∷ [] → 0 < length bytes → 0 < length more → Ends count bytes
front_3 count c [] more fits low up high e some left = absurd (omega arith)
front_3 count c (b ∷ []) more fits low up high e some left = end_3_1 c b count fits low up high (cc)
front_3 count c (b ∷ d ∷ []) more fits low up high e some left = end_3_2 c b d count fits low up high (cc) (cc)
front_3 count c (b ∷ d ∷ f ∷ bytes) more fits low up high e some left = absurd (omega (arith, length-append (b ∷ d ∷ f ∷ bytes) more, ap length e))

front_4 : (count c : ℕ) (bytes more : List ℕ) → 4 ≤ count → 65536 ≤ c → IsHigh c → bytes ++ more ≡ (240 + c / 262144) ∷ (128 + c / 4096 % 64) ∷ (128 + c / 64 % 64) ∷ (128 + c % 64) ∷ [] → 0 < length bytes → 0 < length more → Ends count bytes
front_4 count c [] more fits low high e some left = absurd (omega arith)
front_4 count c (b ∷ []) more fits low high e some left = end_4_1 c b count fits low high (cc)
front_4 count c (b ∷ d ∷ []) more fits low high e some left = end_4_2 c b d count fits low high (cc) (cc)
front_4 count c (b ∷ d ∷ f ∷ []) more fits low high e some left = end_4_3 c b d f count fits low high (cc) (cc) (cc)
front_4 count c (b ∷ d ∷ f ∷ g ∷ bytes) more fits low high e some left = absurd (omega (arith, length-append (b ∷ d ∷ f ∷ g ∷ bytes) more, ap length e))

char_front : (count c : ℕ) (bytes more : List ℕ) → is_allowed_char c ≡ true → length (encode c) ≤ count → bytes ++ more ≡ encode c → 0 < length bytes → 0 < length more → Ends count bytes
char_front count c bytes more allowed fits e some left = elim (cases_lt c 128) [
  | inl a ↦ front_1 count c bytes more (e ∙ encode_ascii c a) some left
  | inr a ↦ elim (cases_lt c 2048) [
    | inl b ↦ let s = encode_2 c a b in front_2 count c bytes more (omega (arith, fits, ap length s)) a b (high_ranges c allowed a) (e ∙ s) some left
    | inr b ↦ elim (cases_lt c 65536) [
      | inl d ↦ let s = encode_3 c b d in front_3 count c bytes more (omega (arith, fits, ap length s)) b d (high_ranges c allowed a) (e ∙ s) some left
      | inr d ↦ let s = encode_4 c d in front_4 count c bytes more (omega (arith, fits, ap length s)) d (high_ranges c allowed a) (e ∙ s) some left
    ]
  ]
]

-- ---- a front of a text has such an end

behind_char : (count c : ℕ) (bytes rest : List ℕ) → bytes ≡ encode c ++ rest → scalar c ≡ true → is_allowed_char c ≡ true → Ends (count - length (encode c)) rest → length (encode c) ≤ count → Ends count bytes
behind_char count c bytes rest e is allowed ends fits =
    let one : IsAllowed (encode c) = subst IsAllowed (append-nil (encode c)) (all_chars (c ∷ []) (and_from (scalar c) true is refl) (and_from (is_allowed_char c) true allowed refl)) in
    record {
      end = ends.end;
      end_is = ends.end_is;
      fits = omega (arith, ends.fits, ap length e, length-append (encode c) rest);
      allowed = subst IsAllowed (sym (append_assoc (encode c) rest ends.end) ∙ ap (λ (x : List ℕ). x ++ ends.end) (sym e)) (allowed_append (encode c) (rest ++ ends.end) one ends.allowed);
    }

at_end : (count : ℕ) (bytes more : List ℕ) → [] ≡ bytes ++ more → Ends count bytes
at_end count [] more e = record { end = []; end_is = none; fits = omega arith; allowed = nothing_allowed }
at_end count (b ∷ bytes) more e = absurd (cc)

fronts : (cs bytes more : List ℕ) (count : ℕ) → scalars cs ≡ true → list_all is_allowed_char cs ≡ true → encodes cs ≡ bytes ++ more → length (encodes cs) ≤ count → Ends count bytes
fronts [] bytes more count s a e fits = at_end count bytes more e
fronts (c ∷ cs) [] more count s a e fits = record { end = []; end_is = none; fits = omega arith; allowed = nothing_allowed }
fronts (c ∷ cs) (b ∷ bytes) more count s a e fits =
    let ds = and_parts (scalar c) (scalars cs) s in
    let da = and_parts (is_allowed_char c) (list_all is_allowed_char cs) a in
    let own = length (encode c) in
    let sum = length-append (encode c) (encodes cs) in
    elim (cases_lt (length (b ∷ bytes)) own) [
      | inl part ↦
          let front : (b ∷ bytes) ++ drop (length (b ∷ bytes)) (encode c) ≡ encode c =
          ap (λ (x : List ℕ). x ++ drop (length (b ∷ bytes)) (encode c)) (sym (take_at (b ∷ bytes) more (length (b ∷ bytes)) refl) ∙ ap (take (length (b ∷ bytes))) (sym e) ∙ take-append-le (length (b ∷ bytes)) (encode c) (encodes cs) (omega arith))
          ∙ take-append-drop (length (b ∷ bytes)) (encode c) in
          char_front count c (b ∷ bytes) (drop (length (b ∷ bytes)) (encode c)) da.0 (omega (arith, fits, sum)) front (omega arith)
          (omega (arith, ap length front, length-append (b ∷ bytes) (drop (length (b ∷ bytes)) (encode c))))
      | inr whole ↦
          let rest = drop own (b ∷ bytes) in
          let front : encode c ≡ take own (b ∷ bytes) = sym (take_at (encode c) (encodes cs) own refl) ∙ ap (take own) e ∙ take-append-le own (b ∷ bytes) more whole in
          let split : b ∷ bytes ≡ encode c ++ rest = sym (take-append-drop own (b ∷ bytes)) ∙ ap (λ (x : List ℕ). x ++ rest) (sym front) in
          let others : encodes cs ≡ rest ++ more = append_cancel_left (encode c) (encodes cs) (rest ++ more) (e ∙ ap (λ (x : List ℕ). x ++ more) split ∙ append_assoc (encode c) rest more) in
          behind_char count c (b ∷ bytes) rest split ds.0 da.0 (fronts cs rest more (count - own) ds.1 da.1 others (omega (arith, fits, sum))) (omega (arith, fits, sum))
    ]

pub front_goes : (count : ℕ) (bytes more text : List ℕ) → IsTextOf count text → bytes ++ more ≡ text → goes_on count bytes ≡ true
front_goes count bytes more text is e =
    let u = is.text_is.allowed.utf8 in
    let cs = chars text in
    let same = encodes-chars text u in
    with_end count bytes (fronts cs bytes more count (scalars-chars text u) is.text_is.allowed.allowed (same ∙ sym e) (omega (arith, ap length same, is.size)))

-- ---- a text of so many bytes

abbrev decided : Bool → Bool → Bool → List ℕ → Result (List ℕ) Fail
decided whole good goes text = cond whole (cond good (Ok text) (Err fails.Bad)) (cond goes (Err fails.Short) (Err fails.Bad))

ok_decided : (whole good goes : Bool) (text found : List ℕ) → decided whole good goes text ≡ Ok found → (whole ≡ true) × (good ≡ true) × (text ≡ found)
ok_decided true true goes text found e = (refl, refl, cc)
ok_decided true false goes text found e = absurd (cc)
ok_decided false good true text found e = absurd (cc)
ok_decided false good false text found e = absurd (cc)

short_decided : (whole good goes : Bool) (text : List ℕ) → decided whole good goes text ≡ Err fails.Short → goes ≡ true
short_decided true true goes text e = absurd (cc)
short_decided true false goes text e = absurd (cc)
short_decided false good true text e = refl
short_decided false good false text e = absurd (cc)

bad_decided : (whole good goes : Bool) (text : List ℕ) → decided whole good goes text ≡ Err fails.Bad → ((whole ≡ true) × (good ≡ false)) ⊎ ((whole ≡ false) × (goes ≡ false))
bad_decided true true goes text e = absurd (cc)
bad_decided true false goes text e = inl (refl, refl)
bad_decided false good true text e = absurd (cc)
bad_decided false good false text e = inr (refl, refl)

chars_back : (count : ℕ) (text rest : List ℕ) → IsTextOf count text → chars_in count (text ++ rest) ≡ Ok text
unfolding chars_in
chars_back count text rest is =
    let bytes = text ++ rest in
    let front = take_at text rest count is.size in
    let whole = le-leb count (length bytes) (omega (arith, is.size, length-append text rest)) in
    let good = ap is_text front ∙ is_text_of text is.text_is.allowed in
    ap (λ t. decided t (is_text (take count bytes)) (goes_on count bytes) (take count bytes)) whole
    ∙ ap (λ t. decided true t (goes_on count bytes) (take count bytes)) good ∙ ap Ok front

chars_only : (count : ℕ) (bytes text : List ℕ) → count ≤ 1024 → chars_in count bytes ≡ Ok text → IsRead as_is (IsTextOf count) bytes text
unfolding chars_in
chars_only count bytes text most e =
    let d = ok_decided (nat_le count (length bytes)) (is_text (take count bytes)) (goes_on count bytes) (take count bytes) text e in
    let size : length text ≡ count = ap length (sym d.2) ∙ length-take-le count bytes (leb-true count (length bytes) d.0) in
    record {
      value_fits = record { text_is = record { short = omega (arith, size); allowed = subst IsAllowed d.2 (text_is (take count bytes) d.1) }; size = size };
      rest = drop count bytes;
      spelled = sym (take-append-drop count bytes) ∙ ap (λ (x : List ℕ). x ++ drop count bytes) d.2;
    }

chars_short : (count : ℕ) (bytes : List ℕ) → count ≤ 1024 → chars_in count bytes ≡ Err fails.Short → GoesOn as_is (IsTextOf count) bytes
unfolding chars_in
chars_short count bytes most e =
    goes_filled count bytes most (short_decided (nat_le count (length bytes)) (is_text (take count bytes)) (goes_on count bytes) (take count bytes) e)

chars_bad : (count : ℕ) (bytes more rest text : List ℕ) → chars_in count bytes ≡ Err fails.Bad → IsTextOf count text → bytes ++ more ≡ text ++ rest → ⊥
unfolding chars_in
chars_bad count bytes more rest text e is p =
    elim (bad_decided (nat_le count (length bytes)) (is_text (take count bytes)) (goes_on count bytes) (take count bytes) e) [
      | inl d ↦
          let same : take count bytes ≡ text = sym (take-append-le count bytes more (leb-true count (length bytes) d.0)) ∙ ap (take count) p ∙ take_at text rest count is.size in
          let good : is_text (take count bytes) ≡ true = ap is_text same ∙ is_text_of text is.text_is.allowed in
          absurd (cc (good, d.1))
      | inr d ↦
          let less = leb-false count (length bytes) d.0 in
          let n = length bytes in
          let front : bytes ≡ take n text = sym (take_at bytes more n refl) ∙ ap (take n) p ∙ take-append-le n text rest (omega (arith, is.size, less)) in
          let goes = front_goes count bytes (drop n text) text is (ap (λ (x : List ℕ). x ++ drop n text) front ∙ take-append-drop n text) in
          absurd (cc (goes, d.1))
    ]

pub chars_form : (count : ℕ) → count ≤ 1024 → Form as_is (IsTextOf count) (chars_in count)
chars_form count most = record {
  back = chars_back count;
  only = λ bytes text are. chars_only count bytes text most;
  short = λ bytes are. chars_short count bytes most;
  bad = λ bytes more rest text are. chars_bad count bytes more rest text;
}

pub some_text : (count : ℕ) → count ≤ 1024 → (text : List ℕ) × IsTextOf count text
some_text count most = (letters count, record { text_is = record { short = omega (arith, letters_length count); allowed = letters_allowed count }; size = letters_length count })

-- ---- what reading a text answers

pub text_read : (bytes text : List ℕ) → (text ≡ bytes) × IsText bytes → cond {A = Result (List ℕ) Fail} (is_text bytes) (Ok bytes) (Err fails.Bad) ≡ Ok text
text_read bytes text is = ap (λ t. cond {A = Result (List ℕ) Fail} t (Ok bytes) (Err fails.Bad)) (is_text_of bytes is.1.allowed) ∙ ap Ok (sym is.0)

pub not_text : (bytes : List ℕ) → (IsAllowed bytes → ⊥) → is_text bytes ≡ false
not_text bytes never = false_from_ne_true (is_text bytes) (λ e. never (text_is bytes e))

pub text_refused : (bytes : List ℕ) → (IsAllowed bytes → ⊥) → cond {A = Result (List ℕ) Fail} (is_text bytes) (Ok bytes) (Err fails.Bad) ≡ Err fails.Bad
text_refused bytes never = ap (λ t. cond {A = Result (List ℕ) Fail} t (Ok bytes) (Err fails.Bad)) (not_text bytes never)

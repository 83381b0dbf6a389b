-- Bytes that are UTF-8 of allowed characters, one after another.
use Rattle.std.proofs.Common.{◌≡◌, ℕ, zero, suc, ◌+◌, ◌-◌, ◌<◌, ◌≤◌, true, List, [], ◌∷◌, ◌++◌, length, take, drop, get_or, refl, ap, sym, ◌∙◌, append-nil, arith, subst}
use Rattle.std.specs.Prelude.{slice_range}
use Rattle.std.specs.Char.{encode_utf8, IsScalar}
use Rattle.std.specs.Str.{chars}
use Rattle.std.specs.List.{list_all}
use Rattle.std.proofs.lemmas.Str.{IsUtf8-append, IsUtf8-nil, IsUtf8-encode, chars-append, chars-encodes, chars-nil, encode_ascii}
use Rattle.std.proofs.lemmas.List.Folds.{list_all-append}
use Rattle.std.proofs.lemmas.Bool.Decides.{nat_tests}
use Rattle.std.proofs.lemmas.Bool.{and_from}
use Rattle.line_base.specs.Text.{is_allowed_char, IsAllowed}
use Rattle.hermes_element.specs.Machine.{is_plain}
use Rattle.hermes_element.specs.Steps.{IsOne, IsSpan}
use Rattle.hermes_element.proofs.Running.{over}
use Rattle.hermes_element.proofs.Values.{plain_facts, allowed_ascii}

pub allowed_scalar : (c : ℕ) → is_allowed_char c ≡ true → IsScalar c
allowed_scalar c h = grind (arith, nat_tests)

pub allowed_nil : IsAllowed []
allowed_nil = record { utf8 = IsUtf8-nil; allowed = ap (list_all is_allowed_char) chars-nil }

pub allowed_append : (xs ys : List ℕ) → IsAllowed xs → IsAllowed ys → IsAllowed (xs ++ ys)
allowed_append xs ys a b = record {
  utf8 = IsUtf8-append xs ys a.utf8 b.utf8;
  allowed = ap (list_all is_allowed_char) (chars-append xs ys a.utf8) ∙ list_all-append is_allowed_char (chars xs) (chars ys)
      ∙ and_from (list_all is_allowed_char (chars xs)) (list_all is_allowed_char (chars ys)) a.allowed b.allowed;
}

pub chars_one : (c : ℕ) → IsScalar c → chars (encode_utf8 c) ≡ c ∷ []
chars_one c h = ap chars (sym (append-nil (encode_utf8 c))) ∙ chars-encodes (c ∷ []) (and_from _ true h refl)

pub allowed_char : (c : ℕ) → is_allowed_char c ≡ true → IsAllowed (encode_utf8 c)
allowed_char c h =
    let s = allowed_scalar c h in
    record { utf8 = IsUtf8-encode c s; allowed = ap (list_all is_allowed_char) (chars_one c s) ∙ and_from (is_allowed_char c) true h refl }

pub allowed_one : (bytes : List ℕ) → IsOne bytes → IsAllowed bytes
allowed_one bytes one = subst IsAllowed one.text (allowed_char one.char one.allowed)

pub allowed_byte : (b : ℕ) → 32 ≤ b → b < 128 → IsAllowed (b ∷ [])
allowed_byte b low high = subst IsAllowed (encode_ascii b high) (allowed_char b (allowed_ascii b low high))

pub allowed_plain : (quote b : ℕ) → is_plain quote b ≡ true → IsAllowed (b ∷ [])
allowed_plain quote b h = let f = plain_facts quote b h in allowed_byte b f.low f.high

allowed_run : (quote : ℕ) (bytes : List ℕ) (n at : ℕ) → at + n ≤ length bytes → ((k : ℕ) → at ≤ k → k < at + n → is_plain quote (get_or bytes k 0) ≡ true) → IsAllowed (take n (drop at bytes))
allowed_run quote bytes zero at high each = allowed_nil
allowed_run quote bytes (suc n) at high each =
    let here : at < length bytes = omega arith in
    let b = get_or bytes at 0 in
    subst IsAllowed (ap (take (suc n)) (sym (over bytes at here)))
    (allowed_append (b ∷ []) (take n (drop (at + 1) bytes)) (allowed_plain quote b (each at (omega arith) (omega arith)))
    (allowed_run quote bytes n (at + 1) (omega arith) (λ k low below. each k (omega arith) (omega arith))))

pub allowed_span : (quote : ℕ) (bytes : List ℕ) (at to : ℕ) → IsSpan (is_plain quote) bytes at to → IsAllowed (slice_range bytes at to)
allowed_span quote bytes at to span =
    allowed_run quote bytes (to - at) at (omega (arith, span.low, span.high)) (λ k low below. span.each k low (omega (arith, span.low)))

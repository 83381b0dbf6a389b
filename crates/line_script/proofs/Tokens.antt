-- A text word is a text.
use Rattle.std.proofs.Common.{◌≡◌, ℕ, true, List, [], ◌∷◌, refl, ap, ◌∙◌, sym, arith}
use Rattle.std.proofs.lemmas.Bool.Decides.{nat_tests}
use Rattle.std.proofs.lemmas.Str.{chars-encodes, encode_ascii}
use Rattle.std.specs.List.{list_all}
use Rattle.std.specs.Str.{chars}
use Rattle.std.proofs.lemmas.Bool.{and_parts}
use Rattle.line_base.specs.Text.{is_allowed_char, IsAllowed}
use Rattle.line_script.specs.Words.{is_text_byte}
use lib.Utf8.{scalar, scalars, encodes, encode}

-- printable ASCII and the tab are characters of one byte, and allowed
pub record IsPlainByte (b : ℕ) : Type 0 where
  pub scalar_value : scalar b ≡ true
  pub one_byte : encode b ≡ b ∷ []
  pub allowed : is_allowed_char b ≡ true

plain_byte : (b : ℕ) → is_text_byte b ≡ true → IsPlainByte b
plain_byte b text = record {
  scalar_value = grind (arith, nat_tests);
  one_byte = encode_ascii b (grind (arith, nat_tests));
  allowed = grind (arith, nat_tests);
}

pub record IsPlain (bytes : List ℕ) : Type 0 where
  pub scalar_values : scalars bytes ≡ true
  pub encoded : encodes bytes ≡ bytes
  pub allowed : list_all is_allowed_char bytes ≡ true

plain_bytes : (bytes : List ℕ) → list_all is_text_byte bytes ≡ true → IsPlain bytes
plain_bytes [] text = record { scalar_values = refl; encoded = refl; allowed = refl }
plain_bytes (b ∷ bs) text =
    let parts = and_parts (is_text_byte b) (list_all is_text_byte bs) text in
    let first = plain_byte b parts.0 in
    let others = plain_bytes bs parts.1 in
    record {
      scalar_values = rw first.scalar_value others.scalar_values;
      encoded = rw first.one_byte (ap (λ t. b ∷ t) others.encoded);
      allowed = rw first.allowed others.allowed;
    }

pub IsAllowed-from_text : (bytes : List ℕ) → list_all is_text_byte bytes ≡ true → IsAllowed bytes
IsAllowed-from_text bytes text =
    let plain = plain_bytes bytes text in
    let same : chars bytes ≡ bytes = ap chars (sym plain.encoded) ∙ chars-encodes bytes plain.scalar_values in
    record { utf8 = (bytes, (plain.scalar_values, plain.encoded)); allowed = ap (list_all is_allowed_char) same ∙ plain.allowed }

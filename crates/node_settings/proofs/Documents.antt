-- What a file says, and texts that may be an id.
use Rattle.std.proofs.Common.{◌≡◌, ◌≤◌, ℕ, Bool, true, false, ◌&&◌, List, length, None, Some, Err, refl, arith, le-leb, nat_lt, nat_le}
use Rattle.std.specs.List.{list_all}
use Rattle.std.specs.Str.{IsUtf8, is_utf8, chars}
use Rattle.std.proofs.lemmas.Str.{IsUtf8-from_is_utf8, is_utf8-from_IsUtf8}
use Rattle.std.proofs.lemmas.Bool.Decides.{nat_tests}
use mathlib.Core.Bool.{and-false}
use Rattle.line_base.specs.Text.{IsAllowed, is_allowed_char}
use Rattle.toml.specs.Data.{Members}
use Rattle.toml.specs.Parse.{parse_document}
use Rattle.node_settings.specs.Value.{is_id_text}
use Rattle.node_settings.specs.Settings.{document_of, settings_of, read_of, refusal}
use Rattle.node_settings.specs.declared.key.ConfigKey.TheVariants as keys
use Rattle.node_settings.specs.declared.key.ConfigWhy.TheVariants as whys

short_enough : (n : ℕ) → n ≤ 65536 → nat_lt 65536 n ≡ false
short_enough n short = grind (arith, nat_tests)

-- a file that is a document says what the document says
pub read_of-document : (bytes : List ℕ) (ms : Members) → length bytes ≤ 65536 → IsUtf8 bytes → parse_document bytes ≡ Some ms → read_of bytes ≡ settings_of ms
read_of-document bytes ms short utf8 parsed = rw (short_enough (length bytes) short, is_utf8-from_IsUtf8 bytes utf8, parsed) refl

no_document : (bytes : List ℕ) (test : Bool) → is_utf8 bytes ≡ test → (IsUtf8 bytes → parse_document bytes ≡ None) → document_of bytes ≡ None
no_document bytes true utf8 none = rw (utf8, none (IsUtf8-from_is_utf8 bytes utf8)) refl
no_document bytes false other none = rw other refl

-- and one that is none is refused
pub read_of-none : (bytes : List ℕ) → length bytes ≤ 65536 → (IsUtf8 bytes → parse_document bytes ≡ None) → read_of bytes ≡ Err (refusal keys.Document whys.NotToml)
read_of-none bytes short none = rw (short_enough (length bytes) short, no_document bytes (is_utf8 bytes) refl none) refl

pub is_id_text-good : (bytes : List ℕ) → 1 ≤ length bytes → length bytes ≤ 64 → IsAllowed bytes → is_id_text bytes ≡ true
is_id_text-good bytes some few good = rw (le-leb 1 (length bytes) some, le-leb (length bytes) 64 few, is_utf8-from_IsUtf8 bytes good.utf8, good.allowed) refl

not_both : (a b : Bool) → (a ≡ true → b ≡ true → ⊥) → (a && b) ≡ false
not_both true true never = absurd (never refl refl)
not_both true false never = refl
not_both false b never = refl

pub is_id_text-bad : (bytes : List ℕ) → (IsAllowed bytes → ⊥) → is_id_text bytes ≡ false
is_id_text-bad bytes bad =
    rw (not_both (is_utf8 bytes) (list_all is_allowed_char (chars bytes)) (λ utf8 allowed. bad (record { utf8 = IsUtf8-from_is_utf8 bytes utf8; allowed = allowed })))
    (and-false (nat_le 1 (length bytes) && nat_le (length bytes) 64))

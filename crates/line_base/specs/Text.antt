use Rattle.std.specs.Prelude.{◌≡◌, ◌==◌, ◌||◌, ◌&&◌, ◌<◌, ◌≤◌, ℕ, Bool, true, List, Result, Ok, Err, length, nat_le}
use Rattle.std.specs.List.{list_all}
use Rattle.std.specs.Str.{chars, IsUtf8}
use Rattle.line_base.specs.declared.text.TextError.{TextError}
use Rattle.line_base.specs.declared.text.TextError.TheVariants as errors

-- an allowed character: tab, line feed, carriage return, and all of Unicode's others but the
-- control characters below space, the surrogates, U+FFFE and U+FFFF
abbrev pub is_allowed_char : ℕ → Bool
is_allowed_char c =
    c == 9 || c == 10 || c == 13 || (nat_le 0x20 c && nat_le c 0xD7FF)
    || (nat_le 0xE000 c && nat_le c 0xFFFD) || (nat_le 0x10000 c && nat_le c 0x10FFFF)

-- the bytes are UTF-8 of allowed characters
pub record IsAllowed (bytes : List ℕ) : Type 0 where
  pub utf8 : IsUtf8 bytes
  pub allowed : list_all is_allowed_char (chars bytes) ≡ true

-- a text: at most 1,024 bytes of allowed characters
pub record IsText (bytes : List ℕ) : Type 0 where
  pub short : length bytes ≤ 1024
  pub allowed : IsAllowed bytes

-- what reading bytes as a text answers: the text, or the first refusal that holds
abbrev pub ReadsText : List ℕ → Result (List ℕ) TextError → Type 0
ReadsText bytes (Ok text) = (text ≡ bytes) × IsText bytes
ReadsText bytes (Err errors.TooLong) = 1024 < length bytes
ReadsText bytes (Err errors.BadChar) = (length bytes ≤ 1024) × ¬ (IsAllowed bytes)
ReadsText bytes (Err errors.Memory) = IsText bytes

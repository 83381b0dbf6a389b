-- The kinds of values, how bytes are read as each, and how each is written.
use Rattle.std.specs.Prelude.{ℕ, ℤ, ◌&&◌, if◌then◌else◌, List, Option, Some, None, Result, Ok, Err, nat_le, option_map}
use Rattle.std.specs.Fmt.{decimal as digits}
use Rattle.line_base.specs.Number.{is_digits, number_of, value_of}
use Rattle.line_base.specs.Decimal.{decimal_of, decimal_text}
use Rattle.line_base.specs.Moment.{moment_of, moment_text}
use Rattle.board_record.specs.BoardId.{read_id, id_text}

-- a text, a number, a number of up to 64 bits, a number between two bounds that stands for one of
-- several words, a board's id, a decimal, a moment
pub data ValueKind : Type 0 where
  text : ValueKind
  number : ValueKind
  long_number : ValueKind
  choice : ℕ → ℕ → ValueKind
  identity : ValueKind
  decimal : ValueKind
  moment : ValueKind

-- what an attribute says
pub data Value : Type 0 where
  worded : List ℕ → Value
  numbered : ℕ → Value
  identified : ℕ → Value
  measured : ℕ → Value
  timed : ℤ → Value

-- a long number is 1 to 20 digits, of a value that 64 bits hold
abbrev pub long_number_of : List ℕ → Option ℕ
long_number_of bytes =
    if is_digits 1 20 bytes then
    (if nat_le (value_of bytes) 18446744073709551615 then Some (value_of bytes) else None) else
    None

abbrev pub value_in : {A E : Type 0} → (A → Value) → Result A E → Option Value
value_in value (Ok read) = Some (value read)
value_in value (Err bad) = None

-- a number between two bounds
abbrev pub chosen : ℕ → ℕ → Option ℕ → Option Value
chosen low high None = None
chosen low high (Some n) = if nat_le low n && nat_le n high then Some (numbered n) else None

-- what bytes say as a value of a kind, where they are one
abbrev pub read_as : ValueKind → List ℕ → Option Value
read_as text bytes = Some (worded bytes)
read_as number bytes = option_map numbered (number_of bytes)
read_as long_number bytes = option_map numbered (long_number_of bytes)
read_as (choice low high) bytes = chosen low high (number_of bytes)
read_as identity bytes = value_in identified (read_id bytes)
read_as decimal bytes = value_in measured (decimal_of bytes)
read_as moment bytes = value_in timed (moment_of bytes)

-- the one text of a value that is written
abbrev pub value_text : Value → List ℕ
value_text (worded bytes) = bytes
value_text (numbered n) = digits n
value_text (identified id) = id_text id
value_text (measured millionths) = decimal_text millionths
value_text (timed millis) = moment_text millis

-- The texts of values as they are written.
use Rattle.std.specs.Prelude.{◌≡◌, ◌≢◌, ℕ, ◌-◌, ◌<◌, ◌≤◌, ◌^◌, ◌==◌, ◌&&◌, ◌||◌, Bool, true, if◌then◌else◌, nat_le, List, ◌∷◌, ◌++◌, length, slice_index, pos}
use Rattle.std.specs.Int.{IsInRange}
use Rattle.uuid.specs.Text.{is_hyphen_place}
use Rattle.jiff_core.specs.Calendar.{days_in_month}
use Rattle.line_base.specs.Moment.{two_digits, three_digits, four_digits}
use Rattle.line_base.specs.PlainText.{is_plain_byte}
use Rattle.board_record.specs.BoardId.{id_text}
use Rattle.hermes_element.specs.Canonical.{is_unescaped}

-- ---- texts

-- a byte of printable ASCII that is written as itself
pub record IsClean (byte : ℕ) : Type 0 where
  pub plain : is_plain_byte byte ≡ true
  pub unescaped : is_unescaped byte ≡ true

-- ---- numbers

-- a digit between two
pub record IsChoice (low high digit : ℕ) : Type 0 where
  pub from : 48 ≤ digit
  pub upto : digit ≤ 57
  pub above : low ≤ digit - 48
  pub below : digit - 48 ≤ high

-- digits of a whole number without leading zeros, at most `most` of them
pub record IsWhole (most : ℕ) (digits : List ℕ) : Type 0 where
  pub some : 0 < length digits
  pub few : length digits ≤ most
  pub leads : slice_index digits 0 ≡ 48 → length digits ≡ 1

-- the digits behind the point of a decimal: at most six, and the last is no zero
pub record IsFraction (digits : List ℕ) : Type 0 where
  pub some : 0 < length digits
  pub few : length digits ≤ 6
  pub ends : slice_index digits (length digits - 1) ≢ 48

-- ---- ids

-- a digit of an id, in lower case
abbrev pub is_id_digit : ℕ → Bool
is_id_digit byte = (nat_le 48 byte && nat_le byte 57) || (nat_le 97 byte && nat_le byte 102)

-- the byte may stand at this place of an id
abbrev pub fits_place : ℕ → ℕ → Bool
fits_place place byte = if is_hyphen_place place then byte == 45 else is_id_digit byte

-- the text of an id of 128 bits
pub record IsIdText (bytes : List ℕ) : Type 0 where
  pub id : ℕ
  pub small : id < 2 ^ 128
  pub is : bytes ≡ id_text id

-- ---- moments

-- a number of two digits
pub record IsTwo (bytes : List ℕ) (number : ℕ) (rest : List ℕ) : Type 0 where
  pub below : number < 100
  pub spelled : bytes ≡ two_digits number ++ rest

-- three digits
pub record IsMilli (bytes rest : List ℕ) : Type 0 where
  pub milli : ℕ
  pub below : milli < 1000
  pub spelled : bytes ≡ three_digits milli ++ rest

-- the calendar has the date in the years 1 to 9999
pub record IsDay (year month day : ℕ) : Type 0 where
  pub year_in : IsInRange 1 9999 year
  pub month_in : IsInRange 1 12 month
  pub day_in : IsInRange 1 (days_in_month (pos year) month) day

-- a date, and the `T` behind it
pub record IsDate (bytes rest : List ℕ) : Type 0 where
  pub year : ℕ
  pub month : ℕ
  pub day : ℕ
  pub fits : IsDay year month day
  pub spelled : bytes ≡ four_digits year
      ++ (45 ∷ (two_digits month ++ (45 ∷ (two_digits day ++ (84 ∷ rest)))))

-- a time of day in milliseconds, and the quote behind it
pub record IsTime (bytes rest : List ℕ) : Type 0 where
  pub hour : ℕ
  pub minute : ℕ
  pub second : ℕ
  pub milli : ℕ
  pub hour_in : hour < 24
  pub minute_in : minute < 60
  pub second_in : second < 60
  pub milli_in : milli < 1000
  pub spelled : bytes ≡ two_digits hour
      ++ (58 ∷ (two_digits minute ++ (58 ∷ (two_digits second ++ (46 ∷ (three_digits milli ++ (34 ∷ rest)))))))

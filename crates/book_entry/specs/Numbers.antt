-- Numbers of so many bytes, the highest first, and bytes that are the front of one.
use Rattle.std.specs.Prelude.{ℕ, zero, suc, ◌+◌, ◌-◌, ◌*◌, ◌^◌, ◌&&◌, ◌||◌, Bool, ℤ, List, [], ◌∷◌, Result, Ok, Err, length, nat_le, nat_lt, if◌then◌else◌}
use Rattle.std.specs.Int.{cast_signed, w64}
use Rattle.book_entry.specs.declared.fault.Fail.{Fail}
use Rattle.book_entry.specs.declared.fault.Fail.TheVariants as fails

-- the number of `width` bytes that the bytes begin; where they end first, each byte that is missing
-- is the filler: 0 for the least such number, 255 for the greatest
unfoldable pub front_value : ℕ → ℕ → ℕ → List ℕ → ℕ
front_value filler zero high bytes = high
front_value filler (suc width) high [] = front_value filler width (high * 256 + filler) []
front_value filler (suc width) high (byte ∷ bytes) = front_value filler width (high * 256 + byte) bytes

abbrev pub least_of : ℕ → List ℕ → ℕ
least_of width bytes = front_value 0 width 0 bytes

abbrev pub greatest_of : ℕ → List ℕ → ℕ
greatest_of width bytes = front_value 255 width 0 bytes

-- the number of `width` bytes in front, where it passes the test. The test is on the least and the
-- greatest number that the bytes can go on to: whether one of those between is allowed
abbrev pub judged : Bool → Bool → ℕ → Result ℕ Fail
judged passes ends number =
    if passes then (if ends then Err fails.Short else Ok number) else Err fails.Bad

abbrev pub number_by : (ℕ → ℕ → Bool) → ℕ → List ℕ → Result ℕ Fail
number_by test width bytes =
    judged (test (least_of width bytes) (greatest_of width bytes)) (nat_lt (length bytes) width)
    (least_of width bytes)

-- a number between two others
abbrev pub meets : ℕ → ℕ → ℕ → ℕ → Bool
meets lowest highest least greatest = nat_le lowest greatest && nat_le least highest

unfoldable pub number_in : ℕ → ℕ → ℕ → List ℕ → Result ℕ Fail
number_in width lowest highest bytes = number_by (meets lowest highest) width bytes

-- the two's complement of a moment is at most the last millisecond of year 9999, or at least that
-- of the first of year 1
abbrev pub last_millis : ℕ
last_millis = 253_402_300_799_999

abbrev pub first_millis : ℕ
first_millis = 18_446_681_938_112_751_616

abbrev pub meets_moments : ℕ → ℕ → Bool
meets_moments least greatest = nat_le least last_millis || nat_le first_millis greatest

unfoldable pub millis_in : List ℕ → Result ℕ Fail
millis_in bytes = number_by meets_moments 8 bytes

-- one byte that passes a test
abbrev pub byte_in : (ℕ → Bool) → List ℕ → Result ℕ Fail
byte_in test [] = Err fails.Short
byte_in test (byte ∷ bytes) = if test byte then Ok byte else Err fails.Bad

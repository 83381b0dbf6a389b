use Rattle.std.specs.Prelude.{◌≡◌, ℕ, zero, suc, ◌+◌, ◌*◌, ◌/◌, ◌%◌, ◌<◌, Bool, ◌&&◌, ◌||◌, ◌==◌, IsTrue, nat_lt, int_le, if◌then◌else◌, List, [], ◌∷◌, ◌++◌, length, take, drop, Option, Some, None, Result, codes, bytes_eq, zip, ok_or, ℤ, pos, neg_ℤ, ◌+ℤ◌, ◌-ℤ◌, ◌*ℤ◌, unsigned_abs}
use Rattle.std.specs.Int.{IsInRange, is_in_range, int_div_euclid, int_rem_euclid}
use Rattle.std.specs.Char.{is_ascii_digit}
use Rattle.std.specs.List.{list_all}
use Rattle.jiff_core.specs.Calendar.{days_from_civil, days_in_month, IsBetween}
use Rattle.line_base.specs.Number.{IsDigits, value_of, digit, fraction_text, fraction_of}
use Rattle.line_base.specs.declared.civil.Fields.{Fields}
use Rattle.line_base.specs.declared.moment.BadMoment.{BadMoment}

-- ---- moments, as the fields of a civil clock: year, month, day, hour, minute, second, milli

-- a date of the years 1 to 9999, and a time of day
pub record IsCivil (fields : Fields) : Type 0 where
  pub year : IsInRange 1 9999 fields.year
  pub month : IsInRange 1 12 fields.month
  pub day : IsInRange 1 (days_in_month (pos fields.year) fields.month) fields.day
  pub hour : fields.hour < 24
  pub minute : fields.minute < 60
  pub second : fields.second < 60
  pub milli : fields.milli < 1000

-- numbers that four, three and two digits show
pub record IsShown (fields : Fields) : Type 0 where
  pub year : fields.year < 10_000
  pub month : fields.month < 100
  pub day : fields.day < 100
  pub hour : fields.hour < 100
  pub minute : fields.minute < 100
  pub second : fields.second < 100
  pub milli : fields.milli < 1_000

-- the milliseconds of a time of day
abbrev pub time_millis : Fields → ℕ
time_millis fields =
    ((fields.hour * 60 + fields.minute) * 60 + fields.second) * 1000 + fields.milli

-- the milliseconds since 1970-01-01T00:00:00.000 on the same civil clock
abbrev pub millis_at : Fields → ℤ
millis_at fields =
    days_from_civil (pos fields.year) fields.month fields.day *ℤ pos 86_400_000 +ℤ pos
    (time_millis fields)

-- the milliseconds of the civil years 1 to 9999
abbrev pub IsMomentMillis : ℤ → Type 0
IsMomentMillis millis = IsBetween (neg_ℤ (pos 62_135_596_800_000)) (pos 253_402_300_799_999) millis

-- ---- the texts of moments

-- `d` in a form stands for a digit, and any other byte for itself
abbrev pub fits : ℕ → ℕ → Bool
fits form c = if form == 100 then is_ascii_digit c else form == c

-- the bytes have the form: they are as many, and each fits
abbrev pub has_form : List ℕ → List ℕ → Bool
has_form form bytes =
    length form == length bytes && list_all (λ pair. fits pair.0 pair.1) (zip form bytes)

-- the number that stands at a place of a text
abbrev pub number_at : ℕ → ℕ → List ℕ → ℕ
number_at place count bytes = value_of (take count (drop place bytes))

-- the form of a date and a time of day in seconds
abbrev pub seconds_form : List ℕ
seconds_form = codes "dddd-dd-ddTdd:dd:dd"

-- the first three digits behind the point, zeros where there are fewer
abbrev pub milli_of : List ℕ → ℕ
milli_of fraction = value_of (take 3 (fraction ++ codes "000"))

-- the fields that a text in this form shows, with the digits behind its point
abbrev pub fields_of_text : List ℕ → List ℕ → Fields
fields_of_text seconds fraction = record {
  year = number_at 0 4 seconds;
  month = number_at 5 2 seconds;
  day = number_at 8 2 seconds;
  hour = number_at 11 2 seconds;
  minute = number_at 14 2 seconds;
  second = number_at 17 2 seconds;
  milli = milli_of fraction;
}

-- an offset is absent, `Z`, or a sign, hours below 24 and minutes below 60
abbrev pub is_offset : List ℕ → Bool
is_offset bytes =
    bytes_eq bytes [] || bytes_eq bytes (codes "Z")
    || ((has_form (codes "+dd:dd") bytes || has_form (codes "-dd:dd") bytes)
    && nat_lt (number_at 1 2 bytes) 24 && nat_lt (number_at 4 2 bytes) 60)

-- the bytes are a text of the moment at these milliseconds; the offset is passed over
pub record IsMomentText (bytes : List ℕ) (millis : ℤ) : Type 0 where
  pub seconds : List ℕ
  pub fraction : List ℕ
  pub offset : List ℕ
  pub spelling : bytes ≡ seconds ++ (fraction_text fraction ++ offset)
  pub form : IsTrue (has_form seconds_form seconds)
  pub digits : IsDigits 0 9 fraction
  pub zone : IsTrue (is_offset offset)
  pub civil : IsCivil (fields_of_text seconds fraction)
  pub value : millis ≡ millis_at (fields_of_text seconds fraction)

-- ---- what reading answers, as a function of the bytes

abbrev pub is_civil : Fields → Bool
is_civil fields =
    is_in_range 1 9999 fields.year
    && (is_in_range 1 12 fields.month
    && (is_in_range 1 (days_in_month (pos fields.year) fields.month) fields.day
    && (nat_lt fields.hour 24 && (nat_lt fields.minute 60 && nat_lt fields.second 60))))

-- the milliseconds of fields that a calendar and a clock have
abbrev pub counted : Fields → Option ℤ
counted fields = if is_civil fields then Some (millis_at fields) else None

abbrev pub behind_seconds : List ℕ → Option (List ℕ × List ℕ) → Option ℤ
behind_seconds seconds None = None
behind_seconds seconds (Some parts) =
    if is_offset parts.1 then counted (fields_of_text seconds parts.0) else None

abbrev pub millis_of : List ℕ → Option ℤ
millis_of bytes =
    if has_form seconds_form (take 19 bytes) then behind_seconds (take 19 bytes)
    (fraction_of 9 (drop 19 bytes))
    else None

-- what reading bytes as a moment answers
unfoldable pub moment_of : List ℕ → Result ℤ BadMoment
moment_of bytes = ok_or (millis_of bytes) (record {})

-- ---- how moments are written

-- the last of the years 1 to n that begins on or before a day
unfoldable pub year_to : ℕ → ℤ → ℕ
year_to zero day = 0
year_to (suc n) day =
    if int_le (days_from_civil (pos (suc n)) 1 1) day then suc n else year_to n day

-- the last of the months 1 to n of a year that begins on or before a day
unfoldable pub month_to : ℕ → ℕ → ℤ → ℕ
month_to zero year day = 0
month_to (suc n) year day =
    if int_le (days_from_civil (pos year) (suc n) 1) day then suc n else month_to n year day

-- the date of a day, counted from 1970-01-01
unfoldable pub year_of : ℤ → ℕ
year_of day = year_to 9999 day

unfoldable pub month_of : ℤ → ℕ
month_of day = month_to 12 (year_of day) day

unfoldable pub day_of : ℤ → ℕ
day_of day = unsigned_abs (day -ℤ days_from_civil (pos (year_of day)) (month_of day) 1) + 1

-- the fields of the day and of the milliseconds since its midnight
abbrev pub fields_on : ℤ → ℕ → Fields
fields_on day time = record {
  year = year_of day;
  month = month_of day;
  day = day_of day;
  hour = time / 1_000 / 60 / 60;
  minute = time / 1_000 / 60 % 60;
  second = time / 1_000 % 60;
  milli = time % 1_000;
}

-- the fields of a moment
abbrev pub fields_of : ℤ → Fields
fields_of millis =
    fields_on (int_div_euclid millis (pos 86_400_000))
    (unsigned_abs (int_rem_euclid millis (pos 86_400_000)))

-- the last digits of a number
abbrev pub two_digits : ℕ → List ℕ
two_digits n = digit (n / 10) ∷ digit n ∷ []

abbrev pub three_digits : ℕ → List ℕ
three_digits n = digit (n / 100) ∷ two_digits n

abbrev pub four_digits : ℕ → List ℕ
four_digits n = digit (n / 1_000) ∷ three_digits n

-- the fields as `YYYY-MM-DDThh:mm:ss.mmm`
abbrev pub fields_text : Fields → List ℕ
fields_text fields =
    four_digits fields.year ++ (45 ∷ (two_digits fields.month ++ (45 ∷ (two_digits fields.day
    ++ (84 ∷ (two_digits fields.hour
    ++ (58 ∷ (two_digits fields.minute ++ (58 ∷ (two_digits fields.second
    ++ (46 ∷ three_digits fields.milli)))))))))))

-- the text of a moment
unfoldable pub moment_text : ℤ → List ℕ
moment_text millis = fields_text (fields_of millis)

use Rattle.std.specs.Prelude.{◌≡◌, ℕ, ◌+◌, ◌*◌, ◌/◌, ◌%◌, ◌^◌, ◌<◌, ◌≤◌, ◌⊎◌, ◌==◌, ◌||◌, nat_lt, if◌then◌else◌, List, [], ◌∷◌, ◌++◌, length, Option, Some, None, Result, IfSome, ok_or, decimal}
use Rattle.line_base.specs.Number.{IsDigits, is_digits, value_of, digit, front_digits, behind_digits, fraction_text, fraction_of}
use Rattle.line_base.specs.declared.decimal.BadDecimal.{BadDecimal}

-- ---- the texts of decimals, with their value

-- the sign of an exponent
pub data Sign : Type 0 where
  bare : Sign
  plus : Sign
  minus : Sign

abbrev pub sign_text : Sign → List ℕ
sign_text bare = []
sign_text plus = 43 ∷ []
sign_text minus = 45 ∷ []

-- an exponent: `e` or `E`, perhaps a sign, and 1 or 2 digits
pub record Exponent : Type 0 where
  pub mark : ℕ
  pub sign : Sign
  pub digits : List ℕ

pub record IsExponent (exponent : Exponent) : Type 0 where
  pub mark : (exponent.mark ≡ 101) ⊎ (exponent.mark ≡ 69)
  pub digits : IsDigits 1 2 exponent.digits

abbrev pub exponent_text : Option Exponent → List ℕ
exponent_text None = []
exponent_text (Some exponent) = exponent.mark ∷ (sign_text exponent.sign ++ exponent.digits)

-- by how many powers of ten an exponent raises the value
abbrev pub signed_raise : Sign → ℕ → ℕ
signed_raise bare power = power
signed_raise plus power = power
signed_raise minus power = 0

abbrev pub raise_of : Option Exponent → ℕ
raise_of None = 0
raise_of (Some exponent) = signed_raise exponent.sign (value_of exponent.digits)

-- and by how many it lowers it
abbrev pub signed_drop : Sign → ℕ → ℕ
signed_drop bare power = 0
signed_drop plus power = 0
signed_drop minus power = power

abbrev pub drop_of : Option Exponent → ℕ
drop_of None = 0
drop_of (Some exponent) = signed_drop exponent.sign (value_of exponent.digits)

-- the parts of a decimal's text
pub record Numeral : Type 0 where
  pub whole : List ℕ
  pub fraction : List ℕ
  pub exponent : Option Exponent

-- 1 to 18 digits, perhaps a point and 1 to 20 digits, perhaps an exponent
pub record IsNumeral (numeral : Numeral) : Type 0 where
  pub whole : IsDigits 1 18 numeral.whole
  pub fraction : IsDigits 0 20 numeral.fraction
  pub exponent : IfSome numeral.exponent IsExponent

abbrev pub numeral_text : Numeral → List ℕ
numeral_text numeral =
    numeral.whole ++ (fraction_text numeral.fraction ++ exponent_text numeral.exponent)

-- the value, as a fraction of whole numbers
abbrev pub numerator_of : Numeral → ℕ
numerator_of numeral =
    value_of (numeral.whole ++ numeral.fraction) * 10 ^ raise_of numeral.exponent

abbrev pub denominator_of : Numeral → ℕ
denominator_of numeral = 10 ^ (length numeral.fraction + drop_of numeral.exponent)

-- n is the whole number nearest to numerator / denominator, a half going up
pub record IsNearest (numerator denominator n : ℕ) : Type 0 where
  pub reached : 2 * denominator * n ≤ 2 * numerator + denominator
  pub not_passed : 2 * numerator + denominator < 2 * denominator * (n + 1)

-- the bytes are a text of the decimal that has so many millionths
pub record IsDecimalText (bytes : List ℕ) (millionths : ℕ) : Type 0 where
  pub numeral : Numeral
  pub form : IsNumeral numeral
  pub spelling : bytes ≡ numeral_text numeral
  pub value : IsNearest (numerator_of numeral * 1_000_000) (denominator_of numeral) millionths
  pub limit : millionths < 1_000_000_000_000

-- ---- what reading answers, as a function of the bytes

-- the digits of an exponent as a number
abbrev pub power_of : List ℕ → Option ℕ
power_of bytes = if is_digits 1 2 bytes then Some (value_of bytes) else None

-- an exponent that raises by so many powers of ten, or lowers by so many
abbrev pub raising : Option ℕ → Option (ℕ × ℕ)
raising None = None
raising (Some power) = Some (power, 0)

abbrev pub lowering : Option ℕ → Option (ℕ × ℕ)
lowering None = None
lowering (Some power) = Some (0, power)

-- the powers behind the mark of an exponent
abbrev pub signed_power_of : List ℕ → Option (ℕ × ℕ)
signed_power_of [] = None
signed_power_of (c ∷ cs) =
    if c == 45 then lowering (power_of cs)
    else (if c == 43 then raising (power_of cs) else raising (power_of (c ∷ cs)))

-- by how many powers of ten what follows the fraction raises and lowers the value
abbrev pub exponent_of : List ℕ → Option (ℕ × ℕ)
exponent_of [] = Some (0, 0)
exponent_of (c ∷ cs) = if (c == 101) || (c == 69) then signed_power_of cs else None

-- the whole number nearest to numerator / denominator
abbrev pub nearest : ℕ → ℕ → ℕ
nearest numerator denominator = (2 * numerator + denominator) / (2 * denominator)

-- below 10^12 millionths
abbrev pub limited : ℕ → Option ℕ
limited millionths = if nat_lt millionths 1_000_000_000_000 then Some millionths else None

abbrev pub scaled : List ℕ → List ℕ → Option (ℕ × ℕ) → Option ℕ
scaled whole fraction None = None
scaled whole fraction (Some powers) =
    limited (nearest (value_of (whole ++ fraction) * 10 ^ powers.0 * 1_000_000)
    (10 ^ (length fraction + powers.1)))

abbrev pub behind_whole : List ℕ → Option (List ℕ × List ℕ) → Option ℕ
behind_whole whole None = None
behind_whole whole (Some parts) = scaled whole parts.0 (exponent_of parts.1)

abbrev pub millionths_of : List ℕ → Option ℕ
millionths_of bytes =
    if is_digits 1 18 (front_digits bytes) then behind_whole (front_digits bytes)
    (fraction_of 20 (behind_digits bytes))
    else None

-- what reading bytes as a decimal answers
unfoldable pub decimal_of : List ℕ → Result ℕ BadDecimal
decimal_of bytes = ok_or (millionths_of bytes) (record {})

-- ---- how decimals are written

-- the six digits of a number below a million
abbrev pub six_digits : ℕ → List ℕ
six_digits n =
    digit (n / 100_000) ∷ digit (n / 10_000) ∷ digit (n / 1_000) ∷ digit (n / 100) ∷ digit
    (n / 10) ∷ digit n ∷ []

-- a digit before others, unless it is a trailing zero
abbrev pub before : ℕ → List ℕ → List ℕ
before c [] = if c == 48 then [] else c ∷ []
before c (d ∷ ds) = c ∷ d ∷ ds

abbrev pub without_trailing_zeros : List ℕ → List ℕ
without_trailing_zeros [] = []
without_trailing_zeros (c ∷ cs) = before c (without_trailing_zeros cs)

-- the text of a decimal: the whole part, and where the rest isn't zero a point and its digits
unfoldable pub decimal_text : ℕ → List ℕ
decimal_text millionths =
    decimal (millionths / 1_000_000)
    ++ fraction_text (without_trailing_zeros (six_digits (millionths % 1_000_000)))

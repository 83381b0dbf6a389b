use Rattle.std.specs.Prelude.{ℕ, ◌+◌, ◌-◌, ◌*◌, ◌%◌, ◌^◌, ◌≤◌, Bool, ◌&&◌, ◌==◌, IsTrue, nat_le, if◌then◌else◌, List, [], ◌∷◌, length, Option, Some, None}
use Rattle.std.specs.List.{list_all}
use Rattle.std.specs.Char.{is_ascii_digit}

-- the bytes are decimal digits
abbrev pub are_digits : List ℕ → Bool
are_digits bytes = list_all is_ascii_digit bytes

-- the value of decimal digits: each has the weight of its place
abbrev pub value_of : List ℕ → ℕ
value_of [] = 0
value_of (c ∷ cs) = (c - 48) * 10 ^ length cs + value_of cs

-- from `low` to `high` decimal digits
pub record IsDigits (low high : ℕ) (bytes : List ℕ) : Type 0 where
  pub digits : IsTrue (are_digits bytes)
  pub enough : low ≤ length bytes
  pub few : length bytes ≤ high

-- the same as a test
abbrev pub is_digits : ℕ → ℕ → List ℕ → Bool
is_digits low high bytes =
    are_digits bytes && (nat_le low (length bytes) && nat_le (length bytes) high)

-- what reading bytes as a number answers: a number is 1 to 9 digits
abbrev pub number_of : List ℕ → Option ℕ
number_of bytes = if is_digits 1 9 bytes then Some (value_of bytes) else None

-- the digits at the front of a text
abbrev pub front_digits : List ℕ → List ℕ
front_digits [] = []
front_digits (c ∷ cs) = if is_ascii_digit c then c ∷ front_digits cs else []

-- and what follows them
abbrev pub behind_digits : List ℕ → List ℕ
behind_digits [] = []
behind_digits (c ∷ cs) = if is_ascii_digit c then behind_digits cs else c ∷ cs

-- the spelling of the digits of a fraction: a point before them where there are any
abbrev pub fraction_text : List ℕ → List ℕ
fraction_text [] = []
fraction_text (c ∷ cs) = 46 ∷ (c ∷ cs)

-- the digits of the fraction at the front of a text, at most `most` of them, and what follows
abbrev pub fraction_of : ℕ → List ℕ → Option (List ℕ × List ℕ)
fraction_of most [] = Some ([], [])
fraction_of most (c ∷ cs) =
    if c == 46 then
    (if is_digits 1 most (front_digits cs) then Some (front_digits cs, behind_digits cs) else None)
    else Some ([], c ∷ cs)

-- the last digit of a number, as a byte
abbrev pub digit : ℕ → ℕ
digit n = 48 + n % 10

use Rattle.std.specs.Prelude.{◌≡◌, IsTrue, ◌==◌, ◌||◌, ◌&&◌, ℕ, Bool, false, List, [], ◌∷◌, Result, Ok, Err, nat_le}
use Rattle.std.specs.List.{list_all}
use Rattle.line_base.specs.declared.name.NameError.{NameError}
use Rattle.line_base.specs.declared.name.NameError.TheVariants as errors

-- a name starts with an ASCII letter or `_`
abbrev pub is_name_start : ℕ → Bool
is_name_start b = (nat_le 65 b && nat_le b 90) || (nat_le 97 b && nat_le b 122) || b == 95

-- and goes on with ASCII letters, digits, `_`, `-`, `.` and `:`
abbrev pub is_name_byte : ℕ → Bool
is_name_byte b = is_name_start b || (nat_le 48 b && nat_le b 57) || b == 45 || b == 46 || b == 58

abbrev pub is_name : List ℕ → Bool
is_name [] = false
is_name (first ∷ rest) = is_name_start first && list_all is_name_byte rest

-- the bytes are a name
abbrev pub IsName : List ℕ → Type 0
IsName bytes = IsTrue (is_name bytes)

-- what reading bytes as a name answers
abbrev pub ReadsName : List ℕ → Result (List ℕ) NameError → Type 0
ReadsName bytes (Ok name) = (name ≡ bytes) × IsName bytes
ReadsName bytes (Err errors.BadName) = ¬ (IsName bytes)
ReadsName bytes (Err errors.Memory) = IsName bytes

-- Texts one behind the other.
use Rattle.std.specs.Prelude.{ℕ, Bool, true, false, List, [], ◌∷◌, ◌++◌, drop, take}

-- all bytes of texts
abbrev pub bytes_of : List (List ℕ) → List ℕ
bytes_of [] = []
bytes_of (text ∷ texts) = text ++ bytes_of texts

-- a text is not empty
abbrev pub is_filled : List ℕ → Bool
is_filled [] = false
is_filled (_ ∷ _) = true

-- a text with one more byte at a place
abbrev pub with_byte_at : ℕ → ℕ → List ℕ → List ℕ
with_byte_at at byte text = take at text ++ byte ∷ drop at text

-- texts with one more byte in the first
abbrev pub with_byte_in_first : ℕ → ℕ → List (List ℕ) → List (List ℕ)
with_byte_in_first at byte [] = []
with_byte_in_first at byte (text ∷ texts) = with_byte_at at byte text ∷ texts

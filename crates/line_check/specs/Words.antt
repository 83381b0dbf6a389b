-- The words of a log's line: one space stands between two.
use Rattle.std.specs.Prelude.{ℕ, ◌+◌, ◌==◌, List, [], ◌∷◌, Option, None, Some, drop, take, if◌then◌else◌}

-- the place of the first space, counted from a number on
abbrev pub space_from : ℕ → List ℕ → Option ℕ
space_from place [] = None
space_from place (byte ∷ bytes) = if byte == 32 then Some place else space_from (place + 1) bytes

abbrev pub parts_at : Option ℕ → List ℕ → Option (List ℕ × List ℕ)
parts_at None bytes = None
parts_at (Some at) bytes = Some (take at bytes, drop (at + 1) bytes)

-- what stands before the first space, and what follows it
abbrev pub cut_at_space : List ℕ → Option (List ℕ × List ℕ)
cut_at_space bytes = parts_at (space_from 0 bytes) bytes

-- the first word of a text: all of it where it has no space
abbrev pub first_of : Option (List ℕ × List ℕ) → List ℕ → List ℕ
first_of None text = text
first_of (Some (word, rest)) text = word

abbrev pub first_word : List ℕ → List ℕ
first_word text = first_of (cut_at_space text) text

-- what follows the first space
abbrev pub behind : Option (List ℕ × List ℕ) → List ℕ
behind None = []
behind (Some (word, rest)) = rest

-- How texts stand in a block of bytes.
use Rattle.std.specs.Prelude.{◌≡◌, ℕ, ◌+◌, true, List, [], ◌∷◌, drop, length, nat_lt, take}
use Rattle.std.specs.List.{list_all}

-- the parts of bytes, by their lengths
abbrev pub parts : List ℕ → List ℕ → List (List ℕ)
parts [] bytes = []
parts (count ∷ lengths) bytes = take count bytes ∷ parts lengths (drop count bytes)

-- all lengths together
abbrev pub total : List ℕ → ℕ
total [] = 0
total (count ∷ lengths) = count + total lengths

-- the lengths are those of the bytes from a place on, and none is 0
pub record IsCutUp (start : ℕ) (lengths bytes : List ℕ) : Type 0 where
  pub whole : start + total lengths ≡ length bytes
  pub filled : list_all (nat_lt 0) lengths ≡ true

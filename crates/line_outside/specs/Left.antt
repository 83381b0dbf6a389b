use Rattle.std.specs.Prelude.{ℕ, Bool, true, false, List, [], ◌∷◌, drop}
use Rattle.line_outside.specs.declared.answer.GotBytes.{GotBytes}
use Rattle.line_outside.specs.declared.answer.GotBytes.TheVariants as founds

-- answers of whose first so many bytes were given already
abbrev pub left_of : ℕ → List GotBytes → List GotBytes
left_of used [] = []
left_of used (founds.Bytes bytes ∷ others) = founds.Bytes (drop used bytes) ∷ others
left_of used (found ∷ others) = found ∷ others

abbrev pub is_none : List ℕ → Bool
is_none [] = true
is_none (byte ∷ bytes) = false

-- the first of some answers is no bytes at all
abbrev pub starts_empty : List GotBytes → Bool
starts_empty [] = false
starts_empty (founds.Bytes bytes ∷ others) = is_none bytes
starts_empty (found ∷ others) = false

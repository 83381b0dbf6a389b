-- THE FOLD of a text: one number for all of its bytes.
use Rattle.std.specs.Prelude.{ℕ, ◌+◌, ◌*◌, ◌%◌, List}
use Rattle.std.specs.List.{fold}

-- each byte in turn
abbrev pub fold_byte : ℕ → ℕ → ℕ
fold_byte folded byte = (31 * folded + byte) % 4294967296

-- the fold of a text behind another whose fold this is
abbrev pub fold_from : ℕ → List ℕ → ℕ
fold_from folded text = fold fold_byte folded text

abbrev pub fold_of : List ℕ → ℕ
fold_of text = fold_from 0 text

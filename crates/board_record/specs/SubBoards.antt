use Rattle.std.specs.Prelude.{◌==◌, ◌||◌, ◌+◌, ◌≤◌, ℕ, Bool, cond, decimal, Option, Some, None, List, [], ◌∷◌, ◌++◌, length, nat_le, nat_lt}
use Rattle.line_base.specs.Bytes.{tab, line_feed, carriage_return, double_quote, ampersand, less_than, greater_than}
use Rattle.line_base.specs.declared.states.Quality.TheVariants as qualities
use Rattle.board_record.specs.declared.sub_board.SubBoard.{SubBoard}

-- how many bytes spell one byte of a text: those of its escape, where it has one
abbrev pub spelled_byte : ℕ → ℕ
spelled_byte b =
    cond (b == ampersand) 5
    (cond (b == less_than) 4
    (cond (b == greater_than) 4
    (cond (b == double_quote) 6
    (cond (b == line_feed) 5 (cond (b == carriage_return) 5 (cond (b == tab) 4 1))))))

-- how many bytes spell a text
abbrev pub spelled_size : List ℕ → ℕ
spelled_size [] = 0
spelled_size (b ∷ text) = spelled_byte b + spelled_size text

-- how many bytes the attribute Bc takes: none where there is no barcode
abbrev pub barcode_size : Option (List ℕ) → ℕ
barcode_size None = 0
barcode_size (Some text) = 6 + spelled_size text

-- how many bytes the element of one sub board takes, `<SB Pos=".." Bc=".." St=".."/>`
abbrev pub sub_size : SubBoard → ℕ
sub_size sub = 19 + length (decimal sub.pos) + barcode_size sub.barcode

abbrev pub sub_sizes : List SubBoard → ℕ
sub_sizes [] = 0
sub_sizes (sub ∷ subs) = sub_size sub + sub_sizes subs

-- THE SIZE OF A LIST: how many bytes it takes in a message, where an empty list isn't written
abbrev pub size_of : List SubBoard → ℕ
size_of [] = 0
size_of (sub ∷ subs) = 23 + sub_sizes (sub ∷ subs)

-- a list has no room for one sub board more: it has 256, or would take more than 24,576 bytes
abbrev pub is_full : List SubBoard → SubBoard → Bool
is_full subs sub = nat_le 256 (length subs) || nat_lt 24576 (size_of (subs ++ sub ∷ []))

-- more than 256, or more than 24,576 bytes
abbrev pub are_too_many : List SubBoard → Bool
are_too_many subs = nat_lt 256 (length subs) || nat_lt 24576 (size_of subs)

-- what every list of sub boards is that exists
pub record AreSubBoards (subs : List SubBoard) : Type 0 where
  pub few : length subs ≤ 256
  pub small : size_of subs ≤ 24576

-- a sub board of which it isn't known whether it is good
abbrev pub unknown_sub : ℕ → Option (List ℕ) → SubBoard
unknown_sub place barcode =
    record { pos = place; barcode = barcode; state = qualities.Unknown }

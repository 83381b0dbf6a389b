-- Texts that a test tells without looking into UTF-8: those of printable ASCII.
use Rattle.std.specs.Prelude.{ℕ, Bool, ◌&&◌, List, length, nat_le}
use Rattle.std.specs.List.{list_all}

-- printable ASCII, space among it
abbrev pub is_plain_byte : ℕ → Bool
is_plain_byte b = nat_le 32 b && nat_le b 126

-- at most 1,024 bytes of it
abbrev pub is_plain_text : List ℕ → Bool
is_plain_text bytes = list_all is_plain_byte bytes && nat_le (length bytes) 1024

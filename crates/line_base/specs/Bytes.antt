-- The bytes that mean something, by their names.
use Rattle.std.specs.Prelude.{ℕ, Bool, ◌==◌, ◌||◌}

abbrev pub tab : ℕ
tab = 9

abbrev pub line_feed : ℕ
line_feed = 10

abbrev pub carriage_return : ℕ
carriage_return = 13

abbrev pub space : ℕ
space = 32

abbrev pub double_quote : ℕ
double_quote = 34

abbrev pub ampersand : ℕ
ampersand = 38

abbrev pub less_than : ℕ
less_than = 60

abbrev pub greater_than : ℕ
greater_than = 62

-- a byte between the parts of an element, and between messages
abbrev pub is_blank : ℕ → Bool
is_blank b = b == space || b == tab || b == carriage_return || b == line_feed

-- one of the seven bytes that a written value spells by an escape
abbrev pub is_escaped : ℕ → Bool
is_escaped b =
    b == ampersand || b == less_than || b == greater_than || b == double_quote
    || b == line_feed || b == carriage_return || b == tab

-- THE LINES OF A REPORT, read off its bytes: the number of the script's line, and what was told.
use Rattle.std.specs.Prelude.{◌≡◌, ℕ, ◌==◌, ◌++◌, List, [], ◌∷◌, Option, None, Some, if◌then◌else◌}
use Rattle.line_base.specs.Number.{is_digits, value_of}
use Rattle.line_check.specs.Words.{behind, cut_at_space, first_word}

-- a line: its number, which the last line of a report lacks, and the text behind the first space
pub record ReportLine : Type 0 where
  pub number : Option ℕ
  pub text : List ℕ

abbrev pub number_in : List ℕ → Option ℕ
number_in word = if is_digits 1 10 word then Some (value_of word) else None

abbrev pub line_of : List ℕ → ReportLine
line_of bytes =
    record { number = number_in (first_word bytes); text = behind (cut_at_space bytes) }

-- the lines that end with a line feed; a front of the first one was read before
abbrev pub lines_behind : List ℕ → List ℕ → List ReportLine
lines_behind front [] = []
lines_behind front (byte ∷ bytes) =
    if byte == 10 then line_of front ∷ lines_behind [] bytes
    else lines_behind (front ++ byte ∷ []) bytes

abbrev pub lines_in : List ℕ → List ReportLine
lines_in bytes = lines_behind [] bytes

-- none of these lines has a number: the last line of a report
abbrev pub AreUnnumbered : List ReportLine → Type 0
AreUnnumbered [] = Unit {0}
AreUnnumbered (line ∷ lines) = (line.number ≡ None) × AreUnnumbered lines

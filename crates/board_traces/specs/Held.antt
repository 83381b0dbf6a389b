-- The lines of a log before the one that is refused, or all.
use Rattle.std.specs.Prelude.{ℕ, ◌-◌, Bool, false, List, Option, None, Some, nat_le, take}
use Rattle.line_check.specs.Log.{Against}

-- the number of the line that something is against
abbrev pub refused_line : Option Against → Option ℕ
refused_line None = None
refused_line (Some reason) = Some reason.line

-- of lines after so many others, those before a line, where there is one
abbrev pub lines_before : Option ℕ → ℕ → List (List ℕ) → List (List ℕ)
lines_before None before lines = lines
lines_before (Some line) before lines = take (line - 1 - before) lines

-- a log is read up to a line, and these many lines of it were
abbrev pub is_reached : Option ℕ → ℕ → Bool
is_reached None before = false
is_reached (Some line) before = nat_le (line - 1) before

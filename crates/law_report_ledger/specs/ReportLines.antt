-- WHAT IS READ OFF THE LINES OF A REPORT: which of them are vouched for, and the deed that words tell.
use Rattle.std.specs.Prelude.{ℕ, ◌==◌, ◌&&◌, ◌||◌, Bool, false, List, [], ◌∷◌, Option, None, Some, codes, option_map, if◌then◌else◌}
use Rattle.std.specs.Str.{bytes_eq}
use Rattle.standings.specs.declared.deed.Deed.{Deed}
use Rattle.standings.specs.declared.deed.Deed.TheVariants.{Inserts, Removes}
use Rattle.line_check.specs.declared.kind.Kind.{Kind}
use Rattle.line_check.specs.declared.kind.Kind.TheVariants as kinds
use Rattle.line_check.specs.LogLine.{entry_deed, exit_deed, id_of, replaced}
use Rattle.law_report_lines.specs.Lines.{ReportLine}
use Rattle.line_check.specs.Words.{cut_at_space, first_word}

-- ---- what is vouched for

-- a sensor told what was not so, or a board came or went that no sensor saw
abbrev pub tells_lie : List ℕ → Bool
tells_lie text =
    bytes_eq (first_word text) (codes "lie") || bytes_eq (first_word text) (codes "unseen")

abbrev pub has_number : ℕ → Option ℕ → Bool
has_number number None = false
has_number number (Some other) = other == number

-- the script's line of this number tells that
abbrev pub is_lie_of : ℕ → ReportLine → Bool
is_lie_of number line = has_number number line.number && tells_lie line.text

abbrev pub lies_at : Option ℕ → List ReportLine → Bool
lies_at None lines = false
lies_at (Some number) [] = false
lies_at (Some number) (line ∷ lines) = is_lie_of number line || lies_at (Some number) lines

-- the lines before those of the first line of the script that tells it
abbrev pub vouched : List ReportLine → List ReportLine
vouched [] = []
vouched (line ∷ lines) = if lies_at line.number (line ∷ lines) then [] else line ∷ vouched lines

-- ---- deeds

abbrev pub replaced_by : ℕ → Option (List ℕ × List ℕ) → Option Deed
replaced_by machine None = None
replaced_by machine (Some (old, new)) = replaced machine (id_of old) (id_of new)

-- the deed of a kind: the number of a machine or a gap stands before the id, of a replacement
-- before both ids
abbrev pub deed_at : Kind → ℕ → List ℕ → Option Deed
deed_at kinds.Inserts machine rest = option_map (Inserts machine) (id_of rest)
deed_at kinds.Removes machine rest = option_map (Removes machine) (id_of rest)
deed_at kinds.Replaces machine rest = replaced_by machine (cut_at_space rest)
deed_at (kinds.AtEntry kind) gap rest = option_map (entry_deed kind gap) (id_of rest)
deed_at (kinds.AtExit kind) gap rest = option_map (exit_deed kind gap) (id_of rest)

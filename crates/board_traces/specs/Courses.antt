-- The courses of all boards, in the order of their coming: a fold over the deeds of a log's lines.
use Rattle.std.specs.Prelude.{ℕ, ◌+◌, List, [], ◌∷◌, Option, None, Some, nat_eq, if◌then◌else◌}
use Rattle.std.specs.Map.{lookup}
use Rattle.indexmap.specs.IndexMap.{insert_entry}
use Rattle.standings.specs.declared.mark.Mark.{Mark}
use Rattle.standings.specs.declared.deed.Deed.{Deed}
use Rattle.standings.specs.Deeds.{named, named_beside}
use Rattle.line_check.specs.LogLine.{said_by}
use Rattle.board_traces.specs.Reading.{deed_said}
use Rattle.board_traces.specs.Course.{Course, course_after}

-- each board that a deed named, once, with its course
abbrev pub Courses : Type 0
Courses = List (ℕ × Course)

abbrev pub course_of : Courses → ℕ → Option Course
course_of courses id = lookup (nat_eq id) courses

-- the boards
abbrev pub ids_of : Courses → List ℕ
ids_of [] = []
ids_of (board ∷ boards) = board.0 ∷ ids_of boards

-- the marks of a board, none where no deed named it
abbrev pub marks_known : Option Course → List Mark
marks_known None = []
marks_known (Some course) = course.marks

-- a deed at a line names a board: a new one comes last
abbrev pub with_named : ℕ → Deed → ℕ → Courses → Courses
with_named line deed id courses =
    insert_entry nat_eq courses id (course_after line deed id (course_of courses id))

-- the old board that a replacement names beside the new one
abbrev pub with_beside : ℕ → Deed → Option ℕ → Courses → Courses
with_beside line deed None courses = courses
with_beside line deed (Some old) courses =
    if nat_eq old (named deed) then courses else with_named line deed old courses

abbrev pub after_deed : ℕ → Deed → Courses → Courses
after_deed line deed courses =
    with_named line deed (named deed) (with_beside line deed (named_beside deed) courses)

-- a line that says a deed, or none
abbrev pub after_said : ℕ → Option Deed → Courses → Courses
after_said line None courses = courses
after_said line (Some deed) courses = after_deed line deed courses

abbrev pub after_line : ℕ → List ℕ → Courses → Courses
after_line number line courses = after_said number (deed_said (said_by line)) courses

-- after lines of which so many stand before
abbrev pub after_lines : ℕ → List (List ℕ) → Courses → Courses
after_lines before [] courses = courses
after_lines before (line ∷ lines) courses =
    after_lines (before + 1) lines (after_line (before + 1) line courses)

-- THE COURSES of the boards that lines tell of
abbrev pub courses_of : List (List ℕ) → Courses
courses_of lines = after_lines 0 lines []

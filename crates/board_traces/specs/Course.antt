-- A board's course: where its deeds so far have brought it.
use Rattle.std.specs.Prelude.{ℕ, Bool, false, List, [], Option, None, Some, if◌then◌else◌}
use Rattle.standings.specs.declared.mark.Mark.{Mark}
use Rattle.standings.specs.declared.deed.Deed.{Deed}
use Rattle.standings.specs.Standing.{Place, standing_of}
use Rattle.standings.specs.Told.{is_same_standing}
use Rattle.line_check.specs.Marks.{changed_by}

-- its marks, the number of the line since which it is so, and the last deed that named it
pub record Course : Type 0 where
  pub marks : List Mark
  pub since : ℕ
  pub last : Deed

-- the standing is what it was
abbrev pub stays : Option Place → Option Place → Bool
stays None now = false
stays (Some was) now = is_same_standing (Some was) now

-- after a deed at a line that names it, where these were its marks, and so since that line
abbrev pub course_by : ℕ → Deed → ℕ → List Mark → ℕ → Course
course_by line deed id marks since =
    record {
      marks = changed_by deed id marks;
      since = if stays (standing_of marks)
          (standing_of (changed_by deed id marks)) then since else line;
      last = deed;
    }

-- a board that no deed named before comes without a mark
abbrev pub course_after : ℕ → Deed → ℕ → Option Course → Course
course_after line deed id None = course_by line deed id [] line
course_after line deed id (Some course) = course_by line deed id course.marks course.since

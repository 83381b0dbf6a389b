-- What a line tells of itself between two steps.
use Rattle.std.specs.Prelude.{ℕ, Option, length}
use Rattle.line_world.specs.Boards.{boards_on}
use Rattle.standings.specs.Standing.{standing_of}
use Rattle.standings.specs.declared.standing.Standing.{Standing}
use Rattle.line_step.specs.State.{LineState, marks_in}
use Rattle.line_report.specs.declared.summary.Summary.{Summary}

-- the standing of an id: what its marks along the line give it
abbrev pub standing_in : LineState → ℕ → Option Standing
standing_in s id = standing_of (marks_in s id)

-- the numbers of the report's last line
abbrev pub summary_of : LineState → Summary
summary_of s =
    record {
      lines = s.lines;
      boards = length (boards_on s.world.floor);
      opened = s.world.opened;
      settled = s.world.settled;
      unvouched = s.unvouched;
    }

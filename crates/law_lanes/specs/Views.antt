-- What a line of several lanes tells of itself between two lines, and its report.
use Rattle.std.specs.Prelude.{◌+◌, ◌||◌, ◌++◌, ℕ, Bool, false, List, [], ◌∷◌, length}
use Rattle.line_world.specs.Boards.{boards_on}
use Rattle.line_report.specs.Lanes.{entries_on}
use Rattle.line_report.specs.declared.happening.LaneHappening.{LaneHappening}
use Rattle.line_report.specs.declared.summary.Summary.{Summary}
use Rattle.line_step.specs.Lies.{is_lie}
use Rattle.line_step.specs.State.{LineState}
use Rattle.law_lanes.specs.Lanes.{Lanes, lines_of, unvouched_of}
use Rattle.law_lanes.specs.Parts.{LanePoint}

-- over all tracks
abbrev pub sum_of : (LineState → ℕ) → List LineState → ℕ
sum_of count [] = 0
sum_of count (t ∷ ts) = count t + sum_of count ts

-- the numbers of the report's last line
abbrev pub summary_on : Lanes → Summary
summary_on s =
    record {
      lines = lines_of s;
      boards = sum_of (λ (t : LineState). length (boards_on t.world.floor)) s.tracks;
      opened = sum_of (λ (t : LineState). t.world.opened) s.tracks;
      settled = sum_of (λ (t : LineState). t.world.settled) s.tracks;
      unvouched = unvouched_of s;
    }

-- a line told what was not so, or let a board come or go unseen
abbrev pub tells_lie_on : List LaneHappening → Bool
tells_lie_on [] = false
tells_lie_on (happening ∷ told) = is_lie happening.what || tells_lie_on told

abbrev pub has_lie_on : List LanePoint → Bool
has_lie_on [] = false
has_lie_on (point ∷ points) = tells_lie_on point.told || has_lie_on points

-- what the report tells of points, each happening with the number of its script line
abbrev pub lanes_text : ℕ → List LanePoint → List ℕ
lanes_text number [] = []
lanes_text number (point ∷ points) =
    entries_on number point.told ++ lanes_text (lines_of point.after + 1) points

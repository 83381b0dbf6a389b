-- NO FALSE BLAME, a line at a time.
use Rattle.std.specs.Prelude.{List, [], ◌≡◌}
use Rattle.std.specs.List.{AllByRecursion}
use Rattle.line_report.specs.declared.happening.Happening.{Happening}
use Rattle.line_step.specs.Homes.{AreNewcomers, IsNewcomer}
use Rattle.line_step.specs.Requests.{Request}
use Rattle.line_step.specs.Runs.{IsRun, Point, state_behind, all_told}
use Rattle.line_step.specs.State.{LineState, no_line}
use Rattle.line_step.specs.Tracks.{TrackLine, own_line}
use Rattle.law_one_standing.specs.Blame.{IsBlameTrue}
use Rattle.law_one_standing.specs.Standing.{IsFitTrack}

-- what a line tells, behind what was told in any run that led to the state before it, of lines
-- whose barcodes are texts, in which boards came only to where they weren't at home, and so now: a
-- breach at a side of a machine is told only where what flows to that side was spoiled before
pub record BlamesNext (request : Request) (before : LineState) (told : List Happening) : Type 0 where
  pub behind : (asked : List TrackLine) (points : List Point)
      → AllByRecursion IsFitTrack asked → IsRun no_line asked points
      → state_behind no_line points ≡ before → AreNewcomers [] asked points
      → IsNewcomer (all_told points) (own_line request) → IsBlameTrue (all_told points) told

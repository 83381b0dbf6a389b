-- OPENINGS EXACTLY WHEN ANNOUNCED, a line at a time.
use Rattle.std.specs.Prelude.{List, ℕ, ◌++◌, ◌≡◌}
use Rattle.line_report.specs.declared.happening.Happening.{Happening}
use Rattle.line_step.specs.Runs.{IsRun, Point, state_behind, all_told}
use Rattle.line_step.specs.State.{LineState, no_line}
use Rattle.line_step.specs.Tracks.{TrackLine}
use Rattle.law_sentences.specs.Announced.{OpensAsAnnounced}

-- what a line tells, behind what was told in any run that led to the state before it: over all of
-- it each machine opens as announced
pub record OpensNext (before : LineState) (told : List Happening) : Type 0 where
  pub behind : (asked : List TrackLine) (points : List Point) (machine : ℕ)
      → IsRun no_line asked points → state_behind no_line points ≡ before
      → OpensAsAnnounced machine (all_told points ++ told)

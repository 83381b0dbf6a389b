-- A STANDING NAMES WHAT IS THERE: a machine of the line, or a gap that has a machine on both sides.
use Rattle.std.specs.Prelude.{List, length, take, ℕ, ◌+◌, ◌≡◌, ◌≤◌}
use Rattle.std.specs.List.{AllByRecursion}
use Rattle.standings.specs.Standing.{HasStanding, Place}
use Rattle.standings.specs.declared.standing.Standing.TheVariants.{Between, With}
use Rattle.line_step.specs.Homes.{IsHonest}
use Rattle.line_step.specs.Tracks.{TrackLine}
use Rattle.line_step.specs.Runs.{IsRun, Point, IsShort}
use Rattle.line_step.specs.State.{LineState, marks_in, no_line}
use Rattle.law_one_standing.specs.Standing.{IsFitTrack}

-- the machines of a line are numbered from 1, and gap k lies between the machines k and k + 1
abbrev pub IsThere : LineState → Place → Type 0
IsThere s (With machine) = (1 ≤ machine) × (machine ≤ length s.machines)
IsThere s (Between gap) = (1 ≤ gap) × (gap + 1 ≤ length s.machines)

-- each standing that an id has
abbrev pub NamesWhatIsThere : LineState → Type 0
NamesWhatIsThere s =
    (id : ℕ) (standing : Place) → HasStanding (marks_in s id) standing → IsThere s standing

-- THE LAW: after each line of every script, up to the first one that told what was not so
abbrev pub StandingsNameWhatIsThere : Type 0
StandingsNameWhatIsThere =
    (asked : List TrackLine) (points : List Point) (n : ℕ) → AllByRecursion IsFitTrack asked
    → IsShort no_line points → IsRun no_line asked points → IsHonest asked points n
    → AllByRecursion (λ (point : Point). NamesWhatIsThere point.after) (take n points)

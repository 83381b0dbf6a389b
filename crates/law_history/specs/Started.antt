-- WHAT AN INTAKE HOLDS WAS STARTED LAST: the record that the intake below a gap holds is of the
-- board that the report's last start at that gap names, and since that start no board has settled
-- or been dropped there.
--
-- So while both halves of a gap hold a record, which is one then (one of the custody facts), the
-- opening that the outlet's record is of answers that start.
use Rattle.std.specs.Prelude.{Bool, List, Some, [], false, length, take, true, ℕ, ◌++◌, ◌+◌, ◌∷◌, ◌≡◌, ◌≤◌}
use Rattle.std.specs.List.{AllByRecursion, list_any}
use Rattle.board_record.specs.declared.record.Record.{Record}
use Rattle.node_core.specs.declared.act.Act.{Act}
use Rattle.node_core.specs.declared.act.Act.TheVariants as acts
use Rattle.node_core.specs.declared.act.Deed.TheVariants as deeds
use Rattle.line_report.specs.declared.happening.Happening.{Happening}
use Rattle.line_step.specs.Homes.{IsHonest}
use Rattle.line_step.specs.Tracks.{TrackLine}
use Rattle.line_step.specs.Runs.{IsRun, Point, IsShort}
use Rattle.line_step.specs.State.{no_line}
use Rattle.law_one_standing.specs.Standing.{IsFitTrack}
use Rattle.law_history.specs.LetGo.{taken_below}
use Rattle.law_history.specs.Settled.{entry_acts, is_start, starts}

-- a board settles, or is dropped
abbrev pub is_over : Act → Bool
is_over (acts.Deed (deeds.Settles id)) = true
is_over (acts.Deed (deeds.Drops id)) = true
is_over _ = false

-- of the acts of an entry the last start is of this board, and nothing settled or was dropped
-- since
pub record IsStartedLast (id : ℕ) (told : List Act) : Type 0 where
  pub before : List Act
  pub since : List Act
  pub told_is : told ≡ before ++ starts id ∷ since
  pub last : list_any is_start since ≡ false
  pub open_still : list_any is_over since ≡ false

-- so it is after each line: `past` is what was told before
abbrev pub HoldsWhatStarted : ℕ → List Happening → List Point → Type 0
HoldsWhatStarted gap past [] = Unit {0}
HoldsWhatStarted gap past (point ∷ points) =
    ((board : Record) → taken_below point.after gap ≡ Some board
    → IsStartedLast board.id (entry_acts (gap + 1) (past ++ point.told)))
    × HoldsWhatStarted gap (past ++ point.told) points

-- THE LAW: it holds at each gap over every script, up to the first line that told what was not so,
-- or let a board come or go unseen
abbrev pub WhatIsHeldStarted : Type 0
WhatIsHeldStarted =
    (asked : List TrackLine) (points : List Point) (n gap : ℕ) → AllByRecursion IsFitTrack asked
    → IsShort no_line points → IsRun no_line asked points → IsHonest asked points n
    → HoldsWhatStarted gap [] (take n points)

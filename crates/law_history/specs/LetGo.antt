-- WHAT SETTLES IS WHAT LEFT: the record that a machine comes to keep of a handover is the one that
-- the outlet above let go last.
--
-- A record is not told: of an act the report tells the id. So this looks at the states between the
-- lines, which the report is of: what an outlet lets go in a line it held before it, and what
-- settles in a line the intake held before it, since a machine makes one step in a line, and a
-- start is the last thing in a step.
use Rattle.std.specs.Prelude.{Bool, List, None, Option, false, if◌then◌else◌, length, take, ℕ, [], ◌++◌, ◌+◌, ◌==◌, ◌∷◌, ◌≡◌, ◌≤◌, Some}
use Rattle.std.specs.List.{AllByRecursion, list_any}
use Rattle.board_record.specs.declared.record.Record.{Record}
use Rattle.node_core.specs.declared.act.Act.TheVariants as acts
use Rattle.node_core.specs.declared.act.Deed.TheVariants as deeds
use Rattle.handover_out.specs.State.{board_of_phase as held_out}
use Rattle.handover_in.specs.State.{board_of_phase as held_in}
use Rattle.line_report.specs.declared.happening.Happening.{Happening}
use Rattle.line_report.specs.declared.happening.Happening.TheVariants as happenings
use Rattle.line_step.specs.Homes.{IsHonest}
use Rattle.line_step.specs.Numbered.{node_at}
use Rattle.line_step.specs.Tracks.{TrackLine}
use Rattle.line_step.specs.Runs.{IsRun, Point, IsShort}
use Rattle.line_step.specs.State.{LineState, no_line}
use Rattle.law_one_standing.specs.Standing.{IsFitTrack}

-- what the outlet above a gap holds, and what the intake below it holds
abbrev pub held_above : LineState → ℕ → Option Record
held_above s gap = held_out (node_at s gap).lane.body.outlet.phase

abbrev pub taken_below : LineState → ℕ → Option Record
taken_below s gap = held_in (node_at s (gap + 1)).lane.body.intake.phase

-- the machine above a gap tells that its board has left
abbrev pub is_leaving : ℕ → Happening → Bool
is_leaving gap (happenings.Done machine (acts.Deed (deeds.Leaves id))) = machine == gap
is_leaving gap _ = false

-- the record that was let go last at a gap, behind a line: where the line tells that a board has
-- left there, the one that the outlet held before it; otherwise the one before
abbrev pub let_go : ℕ → Option Record → LineState → List Happening → Option Record
let_go gap last before told =
    if list_any (is_leaving gap) told then held_above before gap else last

-- the machine below a gap tells that the board of its handover is its own
abbrev pub settles_at : ℕ → ℕ → Happening
settles_at gap id = happenings.Done (gap + 1) (acts.Deed (deeds.Settles id))

-- the record of a board that settles in a line: the intake held it before the line, and it is the
-- one that was let go last
pub record IsWhatLeft (gap id : ℕ) (last : Option Record) (before : LineState) : Type 0 where
  pub board : Record
  pub named : board.id ≡ id
  pub taken : taken_below before gap ≡ Some board
  pub left : last ≡ Some board

-- so it is wherever a board settles at a gap, line after line
abbrev pub KeepsWhatLeft : ℕ → Option Record → LineState → List Point → Type 0
KeepsWhatLeft gap last s [] = Unit {0}
KeepsWhatLeft gap last s (point ∷ points) =
    ((earlier later : List Happening) (id : ℕ) → point.told ≡ earlier ++ settles_at gap id ∷ later
    → IsWhatLeft gap id last s)
    × KeepsWhatLeft gap (let_go gap last s point.told) point.after points

-- THE LAW: it holds at each gap over every script, up to the first line that told what was not so,
-- or let a board come or go unseen
abbrev pub WhatSettlesLeft : Type 0
WhatSettlesLeft =
    (asked : List TrackLine) (points : List Point) (n gap : ℕ) → AllByRecursion IsFitTrack asked
    → IsShort no_line points → IsRun no_line asked points → IsHonest asked points n
    → KeepsWhatLeft gap None no_line (take n points)

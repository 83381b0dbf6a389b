-- CONTENTS ARE KEPT: the records that a machine keeps change by a mark, or by a circuit more of a
-- panel, alone.
use Rattle.std.specs.Prelude.{List, [], length, take, ℕ, ◌∷◌, ◌≡◌, ◌≤◌, ◌⊎◌}
use Rattle.std.specs.List.{AllByRecursion}
use Rattle.line_base.specs.declared.states.Quality.{Quality}
use Rattle.board_record.specs.declared.record.Record.{Record}
use Rattle.line_report.specs.declared.happening.Happening.{Happening}
use Rattle.line_report.specs.declared.happening.Happening.TheVariants as happenings
use Rattle.node_core.specs.declared.act.Act.TheVariants as acts
use Rattle.line_step.specs.Homes.{IsHonest}
use Rattle.line_step.specs.Numbered.{node_at}
use Rattle.line_step.specs.Tracks.{TrackLine}
use Rattle.line_step.specs.Runs.{IsRun, Point, IsShort}
use Rattle.line_step.specs.State.{LineState, no_line}
use Rattle.law_one_standing.specs.Standing.{IsFitTrack}
use Rattle.law_one_standing.specs.Told.{IsTold}

-- a record is one of these
pub data In (q : Record) : List Record → Type 0 where
  in_first : {r : Record} {others : List Record} → q ≡ r → In q (r ∷ others)
  in_later : {r : Record} {others : List Record} → In q others → In q (r ∷ others)

-- a machine keeps this record
abbrev pub KeepsRecord : LineState → ℕ → Record → Type 0
KeepsRecord s machine q = In q (node_at s machine).lane.body.kept

-- it is told that the machine marked the board of this id, or that the board has a circuit more
pub data IsChanged (told : List Happening) (machine id : ℕ) : Type 0 where
  by_mark : (quality : Quality) → IsTold (happenings.Done machine (acts.Marks id quality)) told
      → IsChanged told machine id
  by_sub : (place : ℕ) → IsTold (happenings.Done machine (acts.Subs id place)) told
      → IsChanged told machine id

-- a record that a machine keeps before a line and behind it is the same, unless the line changed
-- its board at that machine
abbrev pub KeepsContents : (ℕ → ℕ → Type 0) → LineState → LineState → Type 0
KeepsContents Changes before after =
    (machine : ℕ) (was now : Record) → KeepsRecord before machine was
    → KeepsRecord after machine now → was.id ≡ now.id → (now ≡ was) ⊎ Changes machine now.id

-- along the points of a run, from a state on
abbrev pub AreContentsKept : LineState → List Point → Type 0
AreContentsKept s [] = Unit {0}
AreContentsKept s (point ∷ points) =
    KeepsContents (IsChanged point.told) s point.after × AreContentsKept point.after points

-- THE LAW: over each line of every script, up to the first one that told what was not so
abbrev pub ContentsAreKept : Type 0
ContentsAreKept =
    (asked : List TrackLine) (points : List Point) (n : ℕ) → AllByRecursion IsFitTrack asked
    → IsShort no_line points → IsRun no_line asked points → IsHonest asked points n
    → AreContentsKept no_line (take n points)

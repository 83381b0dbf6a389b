-- CONTENTS ARE KEPT, WITH ALL PARTS: over a line, what a machine has of a board changes in its
-- quality alone, by a mark alone, or has one circuit of a panel more, by that alone, whatever else
-- the line does to the machine.
use Rattle.std.specs.Prelude.{List, [], Option, Some, length, slice_get, take, ℕ, ◌++◌, ◌∷◌, ◌≡◌, ◌≤◌, ◌⊎◌}
use Rattle.std.specs.List.{AllByRecursion}
use Rattle.line_base.specs.declared.states.Quality.{Quality}
use Rattle.line_base.specs.declared.states.Quality.TheVariants.{Failed}
use Rattle.board_record.specs.declared.record.Record.{Record}
use Rattle.board_record.specs.SubBoards.{unknown_sub}
use Rattle.handover_out.specs.State.{board_of_phase as held_out}
use Rattle.handover_out.specs.declared.phase.Phase.TheVariants.{Idle}
use Rattle.handover_in.specs.State.{board_of_phase as held_in}
use Rattle.line_report.specs.declared.happening.Happening.{Happening}
use Rattle.line_report.specs.declared.happening.Happening.TheVariants as happenings
use Rattle.node_core.specs.declared.act.Act.TheVariants as acts
use Rattle.node_core.specs.declared.input.Input.TheVariants as inputs
use Rattle.line_step.specs.Homes.{IsHonest}
use Rattle.line_step.specs.Numbered.{node_at}
use Rattle.line_step.specs.Requests.{Request, gives}
use Rattle.line_step.specs.Tracks.{TrackLine, asked_on}
use Rattle.line_step.specs.Runs.{IsRun, Point, IsShort}
use Rattle.line_step.specs.State.{LineState, no_line}
use Rattle.law_sentences.specs.Records.{KeepsRecord}
use Rattle.law_one_standing.specs.Standing.{IsFitTrack}
use Rattle.law_one_standing.specs.Told.{IsTold}

-- the outlet of a machine holds this record: it was opened, and has not left or come back
abbrev pub HoldsRecord : LineState → ℕ → Record → Type 0
HoldsRecord s machine q = held_out (node_at s machine).lane.body.outlet.phase ≡ Some q

-- the intake of a machine holds it
abbrev pub TakesRecord : LineState → ℕ → Record → Type 0
TakesRecord s machine q = held_in (node_at s machine).lane.body.intake.phase ≡ Some q

-- a machine has it in one of these three places
abbrev pub HasRecord : LineState → ℕ → Record → Type 0
HasRecord s machine q =
    KeepsRecord s machine q ⊎ (HoldsRecord s machine q ⊎ TakesRecord s machine q)

-- the machine told that it marked the board, and the record is as it was but for the quality of
-- that mark
pub record IsMarkOf (told : List Happening) (machine : ℕ) (was now : Record) : Type 0 where
  pub quality : Quality
  pub marks : IsTold (happenings.Done machine (acts.Marks now.id quality)) told
  pub is : now ≡ record was { quality = quality }

-- the machine told that the board has a circuit more, at this place of the panel, and the record is
-- as it was but for this circuit, behind those that it had. Whether it is good isn't known
pub record IsSubOf (told : List Happening) (machine : ℕ) (was now : Record) : Type 0 where
  pub place : ℕ
  pub barcode : Option (List ℕ)
  pub tells : IsTold (happenings.Done machine (acts.Subs now.id place)) told
  pub is : now ≡ record was { subs = was.subs ++ unknown_sub place barcode ∷ [] }

abbrev pub IsChangeOf : List Happening → ℕ → Record → Record → Type 0
IsChangeOf told machine was now = IsMarkOf told machine was now ⊎ IsSubOf told machine was now

-- what a machine has of a board before a line, and what it has of it behind: a record that it
-- keeps, also one that came back or settled, is the same, or marked, or has a circuit more; one
-- that its outlet holds, also one that was opened in this line, is the same
pub record StaysWhole (told : List Happening) (before after : LineState) : Type 0 where
  pub kept : (machine : ℕ) (was now : Record) → HasRecord before machine was
      → KeepsRecord after machine now → was.id ≡ now.id
      → (now ≡ was) ⊎ IsChangeOf told machine was now
  pub held : (machine : ℕ) (was now : Record) → HasRecord before machine was
      → HoldsRecord after machine now → was.id ≡ now.id → now ≡ was

-- the outlet of a machine is at rest, and the machine has offered this board since it was not
pub record IsOfferedAtRest (s : LineState) (machine : ℕ) (id : ℕ) : Type 0 where
  pub rest : (node_at s machine).lane.body.outlet.phase ≡ Idle
  pub touched : (node_at s machine).lane.body.outlet.touched ≡ Some id

-- it is the first that the machine keeps, and the one from before, failed; and it isn't known
-- downstream: not one that the machine had offered before the line, its outlet at rest
pub record IsFailedFront (before after : LineState) (machine : ℕ) (was now : Record) : Type 0 where
  pub first : slice_get (node_at after machine).lane.body.kept 0 ≡ Some now
  pub is : now ≡ record was { quality = Failed }
  pub untouched : ¬ (IsOfferedAtRest before machine was.id)

-- a line that sets a level of a bridge's segment changes no record but the front one, to failed
abbrev pub ChangesFrontAlone : Request → LineState → LineState → Type 0
ChangesFrontAlone (gives machine (inputs.Level line on)) before after =
    (was now : Record) → HasRecord before machine was → KeepsRecord after machine now
    → was.id ≡ now.id → (now ≡ was) ⊎ IsFailedFront before after machine was now
ChangesFrontAlone _ before after = Unit {0}

-- along the points of a run, from a state on
abbrev pub AreContentsWhole : LineState → List TrackLine → List Point → Type 0
AreContentsWhole s (line ∷ asked) (point ∷ points) =
    StaysWhole point.told s point.after × ChangesFrontAlone (asked_on line) s point.after
    × AreContentsWhole point.after asked points
AreContentsWhole s _ _ = Unit {0}

-- THE LAW: over each line of every script, up to the first one that told what was not so
abbrev pub ContentsStayWhole : Type 0
ContentsStayWhole =
    (asked : List TrackLine) (points : List Point) (n : ℕ) → AllByRecursion IsFitTrack asked
    → IsShort no_line points → IsRun no_line asked points → IsHonest asked points n
    → AreContentsWhole no_line asked (take n points)

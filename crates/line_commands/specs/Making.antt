-- What `make` does with a number.
use Rattle.std.specs.Prelude.{◌≡◌, ℕ, ◌++◌, List, [], ◌∷◌, Option, None, Some, Result, Ok, Err, codes, length, if◌then◌else◌}
use Rattle.std.specs.Fmt.{decimal}
use Rattle.std.specs.Str.{bytes_eq}
use Rattle.line_outside.specs.Sink.{Grows, GrowsInPart}
use Rattle.line_script.specs.Words.{number_in}
use Rattle.line_script.specs.declared.line.LineWhy.{LineWhy}
use Rattle.line_script.specs.declared.line.ScriptLine.{ScriptLine}
use Rattle.line_report.specs.Texts.{summary_text}
use Rattle.law_lanes.specs.Alone.{on_firsts}
use Rattle.law_lanes.specs.Lanes.{Lanes, lines_of, no_lanes}
use Rattle.law_lanes.specs.Parts.{IsLaneRun, LanePoint, all_points, state_behind}
use Rattle.law_lanes.specs.Views.{lanes_text, summary_on}
use Rattle.made_script.specs.Fold.{fold_from, fold_of}
use Rattle.made_script.specs.Script.{made_script}
use Rattle.line_commands.specs.Report.{report_text}
use Rattle.line_status.specs.declared.status.Status.{Status}
use Rattle.line_status.specs.declared.status.Status.TheVariants as statuses

-- a number that can be read
abbrev pub readable : Result ℕ LineWhy → Option ℕ
readable (Ok number) = Some number
readable (Err why) = None

-- the number behind the word `make`: 1 to 50,000, spelled by 1 to 15 digits
abbrev pub number_behind : List ℕ → List ℕ → Option ℕ
number_behind word number =
    if bytes_eq word (codes "make") then readable (number_in 1 50000 number) else None

-- where the words are these two
abbrev pub made_number : List (List ℕ) → Option ℕ
made_number [] = None
made_number (word ∷ []) = None
made_number (word ∷ number ∷ []) = number_behind word number
made_number (word ∷ number ∷ other ∷ others) = None

-- while the script runs: these lines were done, all on the first lane, and what was folded and what
-- waits is what they are told of
pub record IsFolding (asked : List ScriptLine) (state : Lanes) (folded : ℕ)
    (text : List ℕ) : Type 0 where
  pub done : List (List LanePoint)
  pub run : IsLaneRun no_lanes (on_firsts asked) done
  pub after : state_behind no_lanes (all_points done) ≡ state
  pub counted : lines_of state ≡ length asked
  pub told : fold_from folded text ≡ fold_of (lanes_text 1 (all_points done))

-- the last line of a report, and behind it in the same line the fold of the whole, of which the
-- other lines have this one
pub record IsLastLine (end : Lanes) (fold : ℕ) (text : List ℕ) : Type 0 where
  pub last : List ℕ
  pub ends : summary_text (summary_on end) ≡ last ++ codes "\n"
  pub written : text ≡ last
      ++ (codes " fold=" ++ decimal (fold_from fold (summary_text (summary_on end))) ++ codes "\n")

-- THE MAKE TEXT of a number: the last line of the report of its made script, whose lines are of the
-- first lane, and behind it in the same line the fold of that whole report
pub record IsMakeText (number : ℕ) (text : List ℕ) : Type 0 where
  pub done : List (List LanePoint)
  pub run : IsLaneRun no_lanes (on_firsts (made_script number)) done
  pub last : List ℕ
  pub ends : summary_text (summary_on (state_behind no_lanes (all_points done))) ≡ last ++ codes "\n"
  pub written : text ≡ last
      ++ (codes " fold=" ++ decimal (fold_of (report_text (all_points done) None)) ++ codes "\n")

-- a number has a make text, and no other text is one
pub record HasOneMakeText (number : ℕ) : Type 0 where
  pub text : List ℕ
  pub is : IsMakeText number text
  pub only : (other : List ℕ) → IsMakeText number other → other ≡ text

-- THE LAW: of each number
abbrev pub EachNumberHasOneMakeText : Type 0
EachNumberHasOneMakeText = (number : ℕ) → HasOneMakeText number

-- it was written
pub record WritesMakeText (number : ℕ) (old new : Option (List ℕ)) : Type 0 where
  pub text : List ℕ
  pub is : IsMakeText number text
  pub grows : Grows old new text

-- a front of it was written
pub record WritesMakeFront (number : ℕ) (old new : Option (List ℕ)) : Type 0 where
  pub text : List ℕ
  pub is : IsMakeText number text
  pub grows : GrowsInPart old new text

-- WHAT `make` DID: how the sink's contents grew. Where memory was wanting nothing was written
abbrev pub Makes : ℕ → Option (List ℕ) → Option (List ℕ) → Status → Type 0
Makes number old new statuses.Done = WritesMakeText number old new
Makes number old new statuses.WriteFault = WritesMakeFront number old new
Makes number old new statuses.Memory = new ≡ old
Makes number old new _ = ⊥

-- and what it may answer
abbrev pub IsMakeStatus : Status → Type 0
IsMakeStatus statuses.Done = Unit {0}
IsMakeStatus statuses.WriteFault = Unit {0}
IsMakeStatus statuses.Memory = Unit {0}
IsMakeStatus _ = ⊥

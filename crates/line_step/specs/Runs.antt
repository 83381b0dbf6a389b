-- THE RUN of a track: the lines of a script, one after another, from a line without a machine on. A
-- line of one lane has its own lines alone.
use Rattle.std.specs.Prelude.{ℕ, ◌+◌, ◌≤◌, ◌++◌, List, [], ◌∷◌}
use Rattle.std.specs.List.{flat_map}
use Rattle.line_step.specs.State.{LineState}
use Rattle.line_step.specs.Tracks.{TrackLine, TrackSteps}
use Rattle.line_report.specs.Texts.{entry}
use Rattle.line_report.specs.declared.happening.Happening.{Happening}

-- what a line of the script did, and the state after it
pub record Point : Type 0 where
  pub told : List Happening
  pub after : LineState

-- these are the points of a run: each line is a step, with the number that is due. The count
-- goes on behind it, or stays where it is a part of a script's line and more of that follows
abbrev pub IsRun : LineState → List TrackLine → List Point → Type 0
IsRun s [] [] = Unit {0}
IsRun s [] (_ ∷ _) = ⊥
IsRun s (_ ∷ _) [] = ⊥
IsRun s (line ∷ lines) (point ∷ points) =
    TrackSteps (s.lines + 1) line s point.after point.told × IsRun point.after lines points

-- the state behind them
abbrev pub state_behind : LineState → List Point → LineState
state_behind s [] = s
state_behind s (point ∷ points) = state_behind point.after points

-- all that happens in a run, in its order
abbrev pub all_told : List Point → List Happening
all_told [] = []
all_told (point ∷ points) = point.told ++ all_told points

-- no line of it has a number above 1,000,000
abbrev pub IsShort : LineState → List Point → Type 0
IsShort s [] = Unit {0}
IsShort s (point ∷ points) = (s.lines + 1 ≤ 1000000) × IsShort point.after points

-- what the report tells of them, each happening with the number of its script line
abbrev pub told_text : ℕ → List Point → List ℕ
told_text number [] = []
told_text number (point ∷ points) =
    flat_map (λ happening. entry number happening) point.told ++ told_text (point.after.lines + 1) points

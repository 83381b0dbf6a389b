-- THE MERGED LOG IS RIGHT: nothing is against the log of running machines.
use Rattle.std.specs.Prelude.{ℕ, List, None, length, ◌≡◌, ◌≤◌}
use Rattle.std.specs.List.{AllByRecursion}
use Rattle.node_core.specs.declared.act.Act.{Act}
use Rattle.line_check.specs.Log.{IsRight, against}
use Rattle.law_running_line.specs.New.{IsNew, NumbersDiffer}
use Rattle.law_running_line.specs.Reading.{Reading}
use Rattle.law_running_line.specs.Running.{Running}
use Rattle.law_running_line.specs.RunSteps.{RunsTo}
use Rattle.law_running_logs.specs.Told.{points_of}
use Rattle.law_running_logs.specs.Merged.{IsLogOf, no_turns}

-- a log that machines made in a run under a reading, from new ones whose numbers differ
pub record IsOfRunning (reading : Reading) (log : List (List ℕ)) : Type 0 where
  pub begins : Running
  pub ends : Running
  pub acts : List Act
  pub new : IsNew begins
  pub differ : NumbersDiffer begins
  pub run : RunsTo reading begins acts ends
  pub is : IsLogOf no_turns (points_of run) log

-- a log is no longer than one that is judged: 1,000,000 lines, each of 4,096 bytes
abbrev pub IsShort : List ℕ → Type 0
IsShort line = length line ≤ 4096

pub record IsWithin (log : List (List ℕ)) : Type 0 where
  pub few : length log ≤ 1000000
  pub short : AllByRecursion IsShort log

-- THE LAW: its deeds in order are legal, behind each group of lines each id with a mark has one
-- standing, and no other reason is against it
abbrev pub LogIsRight : Reading → Type 0
LogIsRight reading =
    (log : List (List ℕ)) → IsOfRunning reading log → IsWithin log
    → (against log ≡ None) × IsRight log

-- What a log tells of the acts of its machine.
use Rattle.std.specs.Prelude.{◌≡◌, ◌++◌, ℕ, List, [], Option}
use Rattle.board_record.specs.declared.record.Record.{Record}
use Rattle.line_script.specs.declared.line.LineWhy.{LineWhy}
use Rattle.line_report.specs.declared.happening.Reason.{Reason}
use Rattle.node_core.specs.Own.{own_of, own_after}
use Rattle.node_core.specs.declared.act.Act.{Act}
use Rattle.machine_log.specs.Account.{AreProper, own_by_log}
use Rattle.node_run.specs.State.{RunState}
use Rattle.machine_log.specs.Texts.{drives_lines, lines_of, refused_line, no_line, show_lines}
use Rattle.machine_log.specs.declared.drives.Drives.{Drives}
use Rattle.node_run.specs.declared.rules.Rules.{Rules}

-- lines that answer the panel, and tell no act
pub data IsAnswer (rules : Rules) : List ℕ → Type 0 where
  refuses : (turn : ℕ) → (why : LineWhy) → IsAnswer rules (refused_line turn why)
  denies : (turn : ℕ) → (reason : Reason) → IsAnswer rules (no_line turn reason)
  shows : (turn : ℕ) → (kept : List Record) → (out : Option Record) → (taking : Option Record)
      → IsAnswer rules (show_lines turn rules.number kept out taking)
  greets : (turn : ℕ) → (drives : Drives)
      → IsAnswer rules (drives_lines rules.panel.drives turn rules.number drives)

-- a log tells these acts, in their order
pub data TellsActs (rules : Rules) : List ℕ → List Act → Type 0 where
  no_lines : TellsActs rules [] []
  step_lines : {log : List ℕ} {told : List Act} → (turn : ℕ) → (acts : List Act) → AreProper acts
      → TellsActs rules log told
      → TellsActs rules (log ++ lines_of rules.panel.drives turn rules.number acts) (told ++ acts)
  answer_lines : {log text : List ℕ} {told : List Act} → TellsActs rules log told
      → IsAnswer rules text → TellsActs rules (log ++ text) told

-- WHAT A MACHINE OWNS FOLLOWS FROM THE ACTS THAT ITS LOG TELLS
pub record OwnFollows (rules : Rules) (s t : RunState) (log : List ℕ) : Type 0 where
  pub told : List Act
  pub tells : TellsActs rules log told
  pub owns : own_of t.node.lane.body ≡ own_after (own_of s.node.lane.body) told

-- and so from the bytes of its log alone
abbrev pub OwnIsRead : RunState → RunState → List ℕ → Type 0
OwnIsRead s t log = own_of t.node.lane.body ≡ own_by_log log (own_of s.node.lane.body)

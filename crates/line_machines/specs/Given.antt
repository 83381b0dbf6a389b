-- What a machine of the line may be given, which lines of a script give it something, and which
-- move boards.
use Rattle.std.specs.Prelude.{◌≡◌, ℕ, Bool, true, false, IsSomeAnd, List, Option, None, Some, is_some}
use Rattle.node_core.specs.declared.input.Input.{Input}
use Rattle.node_core.specs.declared.input.Input.TheVariants as inputs
use Rattle.node_core.specs.May.{may_do, may_of}
use Rattle.node_core.specs.Node.{NodeState}
use Rattle.node_core.specs.Shifts.{board_given}
use Rattle.board_record.specs.declared.record.Record.{Record}
use Rattle.line_report.specs.declared.happening.Happening.{Happening}
use Rattle.line_script.specs.declared.line.ScriptLine.{ScriptLine}
use Rattle.line_script.specs.declared.line.ScriptLine.TheVariants as lines
use Rattle.line_step.specs.State.{LineState, machine_in}
use Rattle.line_step.specs.Steps.{MachineSteps, moment_of, unread_by}

-- the machine is there, and nothing of its own stands against the input
abbrev pub IsGiven : ℕ → Input → LineState → Type 0
IsGiven machine input s = IsSomeAnd (machine_in machine s) (λ node. may_of node input ≡ may_do)

-- a machine alone can tell all reasons against the line, which gives it an input
abbrev pub is_given : ScriptLine → Bool
is_given (lines.Insert machine barcode) = true
is_given (lines.Mark machine id quality) = true
is_given (lines.Sub machine id place barcode) = true
is_given (lines.Hold machine side) = true
is_given (lines.Go machine side) = true
is_given (lines.Signal machine line on) = true
is_given (lines.Shutdown machine) = true
is_given (lines.Tick machine) = true
is_given (lines.Fault machine side) = true
is_given (lines.Forecast machine) = true
is_given (lines.Query machine barcode) = true
is_given (lines.Supervise machine) = true
is_given (lines.Ask machine question) = true
is_given _ = false

-- a line moves a board on the floor
abbrev pub is_move : ScriptLine → Bool
is_move (lines.Begin gap) = true
is_move (lines.Left gap) = true
is_move (lines.Enter gap) = true
is_move (lines.Back gap) = true
is_move (lines.HandIn gap) = true
is_move (lines.Take gap) = true
is_move _ = false

-- a line is of one lane: it names one of its machines or gaps
abbrev pub is_of_lane : ScriptLine → Bool
is_of_lane lines.Blank = false
is_of_lane lines.Show = false
is_of_lane (lines.Machine capacity used) = false
is_of_lane (lines.Bridge capacity used) = false
is_of_lane (lines.Stop machine) = false
is_of_lane _ = true

-- a machine is there and a bridge
abbrev pub is_bridge_at : Option NodeState → Bool
is_bridge_at None = false
is_bridge_at (Some node) = is_some node.bridge

abbrev pub is_bridge_in : ℕ → LineState → Bool
is_bridge_in machine s = is_bridge_at (machine_in machine s)

-- what a machine did as it gave a board to another of its lanes, and the record that it had of it
pub record GivesBoard (number machine id to : ℕ) (before after : LineState) (told : List Happening)
    (board : Record) : Type 0 where
  pub steps : MachineSteps number machine (inputs.Gives id to) before after told
  pub is : board_given steps.node (unread_by machine before.world) (moment_of number) id
      ≡ Some board

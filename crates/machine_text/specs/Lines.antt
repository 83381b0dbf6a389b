-- A LINE OF A PANEL AT A MACHINE BEHIND ITS PORT: the step that it asks for, or why it asks for none.
use Rattle.std.specs.Prelude.{◌≡◌, ℕ, ℤ, List, [], ◌∷◌, Option, None, Some, Result, Ok, Err}
use Rattle.board_record.specs.declared.sensed.Sensed.{Sensed}
use Rattle.line_script.specs.declared.line.LineWhy.{LineWhy}
use Rattle.node_panel.specs.Panel.{panel_line_of}
use Rattle.node_panel.specs.declared.line.PanelLine.{PanelLine}
use Rattle.node_panel.specs.declared.line.PanelLine.TheVariants as lines
use Rattle.node_panel.specs.Inputs.{input_of, sensed_of}
use Rattle.machine_port.specs.Port.{HasStepped, PortState}
use Rattle.machine_port.specs.declared.error.NotDone.{NotDone}
use Rattle.machine_port.specs.declared.error.NotDone.TheVariants as steps
use Rattle.machine_text.specs.declared.line.LineNotDone.{LineNotDone}
use Rattle.machine_text.specs.declared.line.LineNotDone.TheVariants as undone
use Rattle.machine_text.specs.declared.line.NotAsked.{NotAsked}
use Rattle.machine_text.specs.declared.line.NotAsked.TheVariants as nots

-- of a line that is refused, of one that says nothing, and of those for who owns sockets and a
-- screen there is no step
abbrev pub step_asked : Result PanelLine LineWhy → Result PanelLine NotAsked
step_asked (Err why) = Err (nots.Refused why)
step_asked (Ok lines.Blank) = Err nots.Blank
step_asked (Ok lines.Connect) = Err nots.Outside
step_asked (Ok lines.Show) = Err nots.Outside
step_asked (Ok lines.End) = Err nots.Outside
step_asked (Ok line) = Ok line

-- WHAT A LINE ASKS FOR, by its bytes: as a node's panel reads it
unfoldable pub asked_by : List ℕ → Result PanelLine NotAsked
asked_by bytes = step_asked (panel_line_of bytes)

-- the events that a line has read: at most one
abbrev pub events_of : Option Sensed → List Sensed
events_of None = []
events_of (Some sensed) = sensed ∷ []

-- what a step answers, as its line is told
abbrev pub line_answer : Result (Unit {0}) NotDone → Result (Unit {0}) LineNotDone
line_answer (Ok done) = Ok done
line_answer (Err (steps.No why)) = Err (undone.No why)
line_answer (Err steps.Memory) = Err undone.Memory

-- THE STEP OF A LINE: the machine reads the event of a line `sense`, or takes the line's input
pub record DoesLine (bytes : List ℕ) (moment : ℤ) (s t : PortState) : Type 0 where
  pub line : PanelLine
  pub asked : asked_by bytes ≡ Ok line
  pub step : HasStepped (sensed_of line) (input_of line) moment s t

-- The step of a line, from what it asks for and the step that was made.
use Rattle.std.proofs.Common.{◌≡◌, ℕ, ℤ, List, Result, Ok, Err}
use Rattle.std.specs.Prelude.{OnOk}
use Rattle.node_panel.specs.declared.line.PanelLine.{PanelLine}
use Rattle.node_panel.specs.Inputs.{input_of, sensed_of}
use Rattle.machine_port.specs.Port.{HasStepped, PortState}
use Rattle.machine_text.specs.Lines.{DoesLine, asked_by}
use Rattle.machine_text.specs.declared.line.LineNotDone.{LineNotDone}

pub does_line : (bytes : List ℕ) (moment : ℤ) (s t : PortState) (line : PanelLine) (answer : Result (Unit {0}) LineNotDone)
    → asked_by bytes ≡ Ok line → OnOk answer (HasStepped (sensed_of line) (input_of line) moment s t)
    → OnOk answer (DoesLine bytes moment s t)
does_line bytes moment s t line (Ok done) asked step = record { line = line; asked = asked; step = step }
does_line bytes moment s t line (Err why) asked step = tt
